-- In the order of the text each number stands once.
use Rattle.std.specs.Prelude.{List, []}
use Rattle.std.proofs.Common.{◌≡◌, ℕ, zero, suc, ◌+◌, ◌≤◌, ◌∷◌, ◌++◌, length, Some, None, refl, ap, arith}
use Rattle.cyc_tree.specs.Tree as tree
use Rattle.cyc_tree.specs.Tree.{
  Expression,
  Expressions,
  NoExpressions,
  MoreExpressions,
  Links,
  NoLinks,
  MoreLinks,
  Suffixes,
  NoSuffixes,
  Index,
  Dot,
  Arrow,
  Made,
  One,
  Array,
  Initializer,
  Declaration,
  Statement,
  BlockItems,
  NoItems,
  Declare,
  Execute,
  Clauses,
  NoClauses,
  MoreClauses,
  Case,
  Default,
}
use Rattle.source_typing.specs.Statements.{defaults}
use Rattle.source_meaning.specs.Steps.{Routine}
use Rattle.source_lowering.specs.Order.{
  indices_in,
  indices_in_all,
  indices_in_links,
  indices_in_suffixes,
  indices_in_made,
  indices_in_declaration,
  declared_here,
  declared_in,
  declared_within,
  declared_in_cases,
  declared_in_default,
  expression_order,
  all_order,
  link_order,
  suffix_order,
  made_order,
  declaration_order,
  statement_order,
  items_order,
  clauses_order,
  numbers_from,
  locals_order,
}
use Rattle.home_proof.specs.Defaults.{HasOneDefault, HaveOneDefault, ClausesHaveOneDefault}
use Rattle.home_proof.proofs.Turns.{AreApart}
use Rattle.home_proof.proofs.Places.{apart, occurrences, occurrences_both, within, within_both, within_once}

-- numbers of two lists of consecutive ranges, in either order
both : (m first a b : ℕ) (ns ms : List ℕ) → occurrences m ns ≡ within first a m → occurrences m ms ≡ within (first + a) b m
    → occurrences m (ns ++ ms) ≡ within first (a + b) m
both m first a b ns ms h k = let all = occurrences_both m ns ms in let parts = within_both first a b m in omega (arith, all, parts, h, k)

turned : (m first a b : ℕ) (ns ms : List ℕ) → occurrences m ms ≡ within first a m → occurrences m ns ≡ within (first + a) b m
    → occurrences m (ns ++ ms) ≡ within first (a + b) m
turned m first a b ns ms h k = let all = occurrences_both m ns ms in let parts = within_both first a b m in omega (arith, all, parts, h, k)

module _ (m : ℕ) where
  mutual
    pub expression_once : (first : ℕ) (e : Expression) → occurrences m (expression_order first e) ≡ within first (indices_in e) m
    expression_once first (Expression.Call x arguments) = all_once first arguments
    expression_once first (Expression.MakeUnion tag member value) = expression_once first value
    expression_once first (Expression.NumElts at operand) = expression_once first operand
    expression_once first (Expression.Grouped at inner) = expression_once first inner
    expression_once first (Expression.Suffixed primary suffixes) =
        turned m first (indices_in_suffixes suffixes) (indices_in primary) _ _ (suffixes_once first suffixes)
        (expression_once (first + indices_in_suffixes suffixes) primary)
    expression_once first (Expression.Prefixed at operator operand) = expression_once first operand
    expression_once first (Expression.New at new) = made_once first new
    expression_once first (Expression.NewIn at handle new) =
        both m first (indices_in handle) (indices_in_made new) _ _ (expression_once first handle) (made_once (first + indices_in handle) new)
    expression_once first (Expression.Chain e others) =
        both m first (indices_in e) (indices_in_links others) _ _ (expression_once first e) (links_once (first + indices_in e) others)
    expression_once first (Expression.AllOf e others) =
        both m first (indices_in e) (indices_in_all others) _ _ (expression_once first e) (all_once (first + indices_in e) others)
    expression_once first (Expression.AnyOf e others) =
        both m first (indices_in e) (indices_in_all others) _ _ (expression_once first e) (all_once (first + indices_in e) others)
    expression_once first (Expression.Assign place value) =
        turned m first (indices_in value) (indices_in place) _ _ (expression_once first value) (expression_once (first + indices_in value) place)
    expression_once first _ = refl

    pub all_once : (first : ℕ) (es : Expressions) → occurrences m (all_order first es) ≡ within first (indices_in_all es) m
    all_once first NoExpressions = refl
    all_once first (MoreExpressions e others) =
        both m first (indices_in e) (indices_in_all others) _ _ (expression_once first e) (all_once (first + indices_in e) others)

    pub links_once : (first : ℕ) (ls : Links) → occurrences m (link_order first ls) ≡ within first (indices_in_links ls) m
    links_once first NoLinks = refl
    links_once first (MoreLinks operator operand others) =
        both m first (indices_in operand) (indices_in_links others) _ _ (expression_once first operand) (links_once (first + indices_in operand) others)

    pub suffixes_once : (first : ℕ) (ss : Suffixes) → occurrences m (suffix_order first ss) ≡ within first (indices_in_suffixes ss) m
    suffixes_once first NoSuffixes = refl
    suffixes_once first (Index index others) =
        turned m first (indices_in_suffixes others) (indices_in index) _ _ (suffixes_once first others)
        (expression_once (first + indices_in_suffixes others) index)
    suffixes_once first (Dot f others) = suffixes_once first others
    suffixes_once first (Arrow f others) = suffixes_once first others

    -- the index has the number behind those of its count
    pub made_once : (first : ℕ) (new : Made) → occurrences m (made_order first new) ≡ within first (indices_in_made new) m
    made_once first (One value) = expression_once first value
    made_once first (Array index count element) =
        let own = first + indices_in count in
        let all = occurrences_both m (expression_order first count) (expression_order (suc own) element) in
        let of_count = expression_once first count in
        let of_element = expression_once (suc own) element in
        let parts = within_both first (indices_in count) (suc (indices_in element)) m in
        omega (arith, all, of_count, of_element, parts)

  pub declaration_once : (first : ℕ) (d : Declaration) → occurrences m (declaration_order first d) ≡ within first (indices_in_declaration d) m
  declaration_once first (tree.Local of x (Initializer.Value e)) = expression_once first e
  declaration_once first (tree.Local of x Initializer.Unset) = refl
  declaration_once first (tree.Local of x (Initializer.Elements count)) = refl
  declaration_once first (tree.Region at region handle) = refl
  declaration_once first (tree.Open at region handle key) = refl
  declaration_once first (tree.Alias at region of alias pointer) = refl
  declaration_once first (tree.NewKey at region key) = refl

  -- where no more `default` comes, none has locals
  no_default : (cs : Clauses) → defaults cs ≡ 0 → declared_in_default cs ≡ 0
  no_default NoClauses e = refl
  no_default (MoreClauses at (Case f x) body others) e = no_default others e
  no_default (MoreClauses at Default body others) e = absurd (omega (arith, e))

  mutual
    pub statement_once : (inner : ℕ) (s : Statement) → HasOneDefault s → occurrences m (statement_order inner s) ≡ within inner (declared_in s) m
    statement_once inner (Statement.Empty at) one = refl
    statement_once inner (Statement.Block at items) one =
        let parts = within_both inner (declared_here items) (declared_within items) m in
        let all = items_once inner (inner + declared_here items) items one in
        omega (arith, parts, all)
    statement_once inner (Statement.Run e) one = expression_once inner e
    statement_once inner (Statement.Exchange left right) one =
        both m inner (indices_in left) (indices_in right) _ _ (expression_once inner left) (expression_once (inner + indices_in left) right)
    statement_once inner (Statement.If at condition body) one =
        both m inner (indices_in condition) (declared_in body) _ _ (expression_once inner condition)
        (statement_once (inner + indices_in condition) body one)
    statement_once inner (Statement.IfElse at condition body otherwise) one =
        both m inner (indices_in condition) (declared_in body + declared_in otherwise) _ _ (expression_once inner condition)
        (both m (inner + indices_in condition) (declared_in body) (declared_in otherwise) _ _
        (statement_once (inner + indices_in condition) body one.0)
        (statement_once (inner + indices_in condition + declared_in body) otherwise one.1))
    statement_once inner (Statement.While at condition body) one =
        both m inner (indices_in condition) (declared_in body) _ _ (expression_once inner condition)
        (statement_once (inner + indices_in condition) body one)
    statement_once inner (Statement.Switch at place clauses) one =
        let first = inner + indices_in place in
        let all = clauses_once first (first + declared_in_cases clauses) clauses one.0 one.1 in
        let parts = within_both first (declared_in_cases clauses) (declared_in_default clauses) m in
        both m inner (indices_in place) (declared_in_cases clauses + declared_in_default clauses) _ _ (expression_once inner place)
        (omega (arith, all, parts))
    statement_once inner (Statement.Break at) one = refl
    statement_once inner (Statement.Continue at) one = refl
    statement_once inner (Statement.Return at (Some e)) one = expression_once inner e
    statement_once inner (Statement.Return at None) one = refl
    statement_once inner (Statement.FreeUnique at pointer) one = refl
    statement_once inner (Statement.FreeKey at key) one = refl

    pub items_once : (here inner : ℕ) (items : BlockItems) → HaveOneDefault items
        → occurrences m (items_order here inner items) ≡ within here (declared_here items) m + within inner (declared_within items) m
    items_once here inner NoItems one = refl
    items_once here inner (Declare d others) one =
        let k = indices_in_declaration d in
        let all = occurrences_both m (declaration_order inner d) (items_order (suc here) (inner + k) others) in
        let of_it = declaration_once inner d in
        let of_others = items_once (suc here) (inner + k) others one in
        let parts = within_both inner k (declared_within others) m in
        omega (arith, all, of_it, of_others, parts)
    items_once here inner (Execute s others) one =
        let k = declared_in s in
        let all = occurrences_both m (statement_order inner s) (items_order here (inner + k) others) in
        let of_it = statement_once inner s one.0 in
        let of_others = items_once here (inner + k) others one.1 in
        let parts = within_both inner k (declared_within others) m in
        omega (arith, all, of_it, of_others, parts)

    pub clauses_once : (named default : ℕ) (cs : Clauses) → defaults cs ≤ 1 → ClausesHaveOneDefault cs
        → occurrences m (clauses_order named default cs) ≡ within named (declared_in_cases cs) m + within default (declared_in_default cs) m
    clauses_once named default NoClauses few one = refl
    clauses_once named default (MoreClauses at (Case f x) body others) few one =
        let here = declared_here body in
        let inside = declared_within body in
        let next = suc named + (here + inside) in
        let all = occurrences_both m (items_order (suc named) (suc named + here) body) (clauses_order next default others) in
        let of_it = items_once (suc named) (suc named + here) body one.0 in
        let of_others = clauses_once next default others few one.1 in
        let parts = within_both (suc named) (here + inside) (declared_in_cases others) m in
        let both_parts = within_both (suc named) here inside m in
        let cases = declared_in_cases others in
        let more : suc (here + inside) + cases ≡ suc (here + inside + cases) = omega arith in
        let whole : within named (suc (here + inside) + cases) m ≡ within named (suc (here + inside + cases)) m = ap (λ k. within named k m) more in
        omega (arith, all, of_it, of_others, parts, both_parts, whole)
    clauses_once named default (MoreClauses at Default body others) few one =
        let all = occurrences_both m (items_order default (default + declared_here body) body) (clauses_order named default others) in
        let of_it = items_once default (default + declared_here body) body one.0 in
        let of_others = clauses_once named default others (omega (arith, few)) one.1 in
        let none : declared_in_default others ≡ 0 = no_default others (omega (arith, few)) in
        let none_there : within default (declared_in_default others) m ≡ 0 = ap (λ k. within default k m) none in
        let parts = within_both default (declared_here body) (declared_within body) m in
        omega (arith, all, of_it, of_others, none_there, parts)

  numbers_once : (first count : ℕ) → occurrences m (numbers_from first count) ≡ within first count m
  numbers_once first zero = refl
  numbers_once first (suc count) = let h = numbers_once (suc first) count in omega (arith, h)

  locals_once : (f : Routine) → HaveOneDefault f.body → occurrences m (locals_order f) ≤ 1
  locals_once f one =
      let p = length f.parameters in
      let here = declared_here f.body in
      let inside = declared_within f.body in
      let all = occurrences_both m (numbers_from 0 p) (items_order p (p + here) f.body) in
      let of_parameters = numbers_once 0 p in
      let of_body = items_once p (p + here) f.body one in
      let parts = within_both 0 p (here + inside) m in
      let both_parts = within_both p here inside m in
      let start : within (0 + p) (here + inside) m ≡ within p (here + inside) m = ap (λ k. within k (here + inside) m) (same p) in
      let most = within_once 0 (p + (here + inside)) m in
      omega (arith, all, of_parameters, of_body, parts, both_parts, start, most)
    where
      same : (n : ℕ) → 0 + n ≡ n
      same n = omega arith

pub locals_apart : (f : Routine) → HaveOneDefault f.body → AreApart (locals_order f)
locals_apart f one = apart (locals_order f) (λ m. locals_once m f one)
