-- The type of each expression names structs by their tags, where the types in scope do.
use Rattle.std.proofs.Common.{ℕ, List}
use Rattle.cyc_tree.specs.Tree as tree
use Rattle.cyc_tree.specs.Tree.{Array, Arrow, Dot, Expression, Expressions, Index, Links, MoreExpressions, MoreLinks, NoExpressions, NoLinks, NoSuffixes}
use Rattle.cyc_tree.specs.Tree.{One, Suffixes}
use Rattle.source_meaning.specs.Calls.{number_type}
use Rattle.source_meaning.specs.Expressions.{is_unique_region}
use Rattle.source_meaning.specs.Memory.{AsChar, AsInt, AsUnsigned, IntegerType}
use Rattle.source_typing.specs.Calls.{called, target, union_made, union_tag}
use Rattle.source_typing.specs.Expressions.{judge, judge_all, judge_links, judge_suffixes, judge_tests}
use Rattle.source_typing.specs.Making.{Goal, To, array_made, elements, goal_of, inside, made, with_counter}
use Rattle.source_typing.specs.Operators.{applied, counted, prefixed, string_sized, tested_both}
use Rattle.source_typing.specs.Places.{arrow, assigned, grouped, indexed, member}
use Rattle.source_typing.specs.Regions.{TheHeap}
use Rattle.source_typing.specs.Scope.{Env, Value, meant}
use Rattle.source_typing.specs.Types.{integer_type}
use Rattle.source_typing.specs.Verdicts.{Faulty, Of, Unjudged, Verdict, after, both}
use Rattle.std.specs.Prelude.{Bool, true, false, length, nat_lt}
use Rattle.accepted_proof.specs.Good.{KnowsKinds, NamesStructs}
use Rattle.accepted_proof.proofs.kinds.Perhaps.{Perhaps, perhaps_after, perhaps_array, perhaps_both, perhaps_first, perhaps_made}
use Rattle.accepted_proof.proofs.kinds.Phrases.{TargetNames, ValueNames, applied_named, array_named, arrow_named, assigned_named, called_named, counted_named}
use Rattle.accepted_proof.proofs.kinds.Phrases.{indexed_named, made_named, meant_named, member_named, prefixed_named, target_named, tested_named, union_named}
use Rattle.accepted_proof.proofs.kinds.Phrases.{variable_named}

-- ---- scopes

pub counter_known : (P : List ℕ → Type 0) (x : tree.Name) (g : Env) → KnowsKinds P g → KnowsKinds P (with_counter x g)
counter_known P x g k = record { tables = k.tables; locals = (tt, k.locals) }

pub inside_known : (P : List ℕ → Type 0) (goal : Verdict Goal) (g : Env) → KnowsKinds P g → KnowsKinds P (inside goal g)
inside_known P goal g k = record { tables = k.tables; locals = k.locals }

module _ (P : List ℕ → Type 0) where
  abbrev Named : Verdict Value → Type 0
  Named v = Perhaps (λ a. ValueNames P a) v

  number_named : (k : IntegerType) → NamesStructs P (integer_type k)
  number_named AsInt = tt
  number_named AsUnsigned = tt
  number_named AsChar = tt

  string_named : (b : Bool) (at : ℕ) → Named (string_sized b at)
  string_named true at = tt
  string_named false at = tt

  -- whatever is left of two operands
  tests_named : (g : Env) (v : Verdict Value) (es : Expressions) → Named v → Named (judge_tests g v es)
  tests_named g v NoExpressions h = h
  tests_named g v (MoreExpressions e es) h =
      tests_named g (both v (judge g e) tested_both) es
      (perhaps_first (λ a. ValueNames P a) (λ a. ValueNames P a) v (judge g e) tested_both h (λ a b p. tested_named P a b))

  links_named : (g : Env) (v : Verdict Value) (es : Links) → Named v → Named (judge_links g v es)
  links_named g v NoLinks h = h
  links_named g v (MoreLinks o e es) h =
      links_named g (both v (judge g e) (applied g o)) es
      (perhaps_first (λ a. ValueNames P a) (λ a. ValueNames P a) v (judge g e) (applied g o) h (λ a b p. applied_named P g o a.at a.type b.type p))

  pub index_named : (g : Env) (v w : Verdict Value) → Named v → Named (both v w (indexed g))
  index_named g v w h = perhaps_first (λ a. ValueNames P a) (λ a. ValueNames P a) v w (indexed g) h (λ a b p. indexed_named P g a b p)

  pub dot_named : (g : Env) (f : tree.Name) (v : Verdict Value) → KnowsKinds P g → Named v → Named (after v (member g f))
  dot_named g f v k h =
      perhaps_after (λ a. ValueNames P a) (λ a. ValueNames P a) v (member g f) h (λ a p. member_named P g f a.at a.type a.seat k)

  pub lead_named : (g : Env) (f : tree.Name) (v : Verdict Value) → KnowsKinds P g → Named v → Named (after v (arrow g f))
  lead_named g f v k h = perhaps_after (λ a. ValueNames P a) (λ a. ValueNames P a) v (arrow g f) h (λ a p. arrow_named P g f a.at a.type k)

  suffixes_named : (g : Env) (v : Verdict Value) (es : Suffixes) → KnowsKinds P g → Named v → Named (judge_suffixes g v es)
  suffixes_named g v NoSuffixes k h = h
  suffixes_named g v (Index e es) k h = suffixes_named g (both v (judge g e) (indexed g)) es k (index_named g v (judge g e) h)
  suffixes_named g v (Dot f es) k h = suffixes_named g (after v (member g f)) es k (dot_named g f v k h)
  suffixes_named g v (Arrow f es) k h = suffixes_named g (after v (arrow g f)) es k (lead_named g f v k h)

  elements_named : (v w : Verdict Value) → Named w → Perhaps (λ p. ValueNames P p.1) (both v w elements)
  elements_named v w h =
      perhaps_both (λ a. Unit {0}) (λ a. ValueNames P a) (λ (p : Value × Value). ValueNames P p.1) v w elements (always v) h (λ a b p q. q)
    where
      always : (v : Verdict Value) → Perhaps (λ a. Unit {0}) v
      always (Of a) = tt
      always (Faulty f fs) = tt
      always Unjudged = tt

  mutual
    pub expression_named : (e : Expression) (g : Env) → KnowsKinds P g → Named (judge g e)
    expression_named (Expression.Number at n suffix) g k = number_named (number_type n suffix)
    expression_named (Expression.Character at byte) g k = tt
    expression_named (Expression.Text at bytes) g k = string_named (nat_lt (length bytes) 4096) at
    expression_named (Expression.Null at) g k = tt
    expression_named (Expression.HeapRegion at) g k = tt
    expression_named (Expression.UniqueRegion at) g k = tt
    expression_named (Expression.Variable x) g k = variable_named P x.at x.text (meant g x.text) (meant_named P g x.text k)
    expression_named (Expression.Call x es) g k =
        perhaps_first (λ u. TargetNames P u) (λ a. ValueNames P a) (target x.at (meant g x.text)) (judge_all g es) (called g x.at)
        (target_named P x.at x.text (meant g x.text) (meant_named P g x.text k)) (λ u vs p. called_named P g x.at u vs p)
    expression_named (Expression.MakeUnion tag f e) g k =
        perhaps_both (λ t. Unit {0}) (λ a. ValueNames P a) (λ a. ValueNames P a) (union_tag tag f (meant g tag.text)) (judge g e) (union_made g tag.at)
        (always (union_tag tag f (meant g tag.text))) (expression_named e g k) (λ t a p q. union_named P g tag.at t a)
      where
        always : {A : Type 0} (v : Verdict A) → Perhaps (λ (a : A). Unit {0}) v
        always (Of a) = tt
        always (Faulty f fs) = tt
        always Unjudged = tt
    expression_named (Expression.NumElts at e) g k =
        perhaps_after (λ a. ValueNames P a) (λ a. ValueNames P a) (judge g e) (counted at) (expression_named e g k) (λ a p. counted_named P at a)
    expression_named (Expression.Grouped at e) g k =
        perhaps_after (λ a. ValueNames P a) (λ a. ValueNames P a) (judge g e) (grouped at) (expression_named e g k) (λ a p. p)
    expression_named (Expression.Suffixed e es) g k = suffixes_named g (judge g e) es k (expression_named e g k)
    expression_named (Expression.Prefixed at o e) g k =
        perhaps_after (λ a. ValueNames P a) (λ a. ValueNames P a) (judge g e) (prefixed g at o) (expression_named e g k)
        (λ a p. prefixed_named P g at o a p)
    expression_named (Expression.New at (One e)) g k =
        perhaps_made (λ a. ValueNames P a) (λ a. ValueNames P a) at (Of (To TheHeap)) (judge g e) (expression_named e g k) (λ x a p. made_named P at x a p)
    expression_named (Expression.New at (Array x n e)) g k =
        perhaps_array (λ (p : Value × Value). ValueNames P p.1) (λ a. ValueNames P a) at (Of (To TheHeap)) (judge g n) (judge (with_counter x g) e)
        (elements_named (judge g n) (judge (with_counter x g) e) (expression_named e (with_counter x g) (counter_known P x g k)))
        (λ y p q. array_named P at y p.0 p.1 q)
    expression_named (Expression.NewIn at h (One e)) g k =
        let goal : Verdict Goal = goal_of (is_unique_region h) g (judge g h) in
        perhaps_made (λ a. ValueNames P a) (λ a. ValueNames P a) at goal (judge (inside goal g) e)
        (expression_named e (inside goal g) (inside_known P goal g k)) (λ x a p. made_named P at x a p)
    expression_named (Expression.NewIn at h (Array x n e)) g k =
        let goal : Verdict Goal = goal_of (is_unique_region h) g (judge g h) in
        let inner : Env = inside goal g in
        perhaps_array (λ (p : Value × Value). ValueNames P p.1) (λ a. ValueNames P a) at goal (judge inner n) (judge (with_counter x inner) e)
        (elements_named (judge inner n) (judge (with_counter x inner) e)
        (expression_named e (with_counter x inner) (counter_known P x inner (inside_known P goal g k))))
        (λ y p q. array_named P at y p.0 p.1 q)
    expression_named (Expression.Chain e es) g k = links_named g (judge g e) es (expression_named e g k)
    expression_named (Expression.AllOf e es) g k = tests_named g (judge g e) es (expression_named e g k)
    expression_named (Expression.AnyOf e es) g k = tests_named g (judge g e) es (expression_named e g k)
    expression_named (Expression.Assign a b) g k =
        perhaps_first (λ v. ValueNames P v) (λ v. ValueNames P v) (judge g a) (judge g b) (assigned g) (expression_named a g k)
        (λ v w p. assigned_named P g v w p)
