-- Each member that an expression names is a struct's, where all is known of each name in scope.
use Rattle.std.proofs.Common.{ℕ, List, [], ◌∷◌}
use Rattle.cyc_tree.specs.Tree.{Array, Arrow, Dot, Expression, Expressions, Index, Links, Made, MoreExpressions, MoreLinks, NoExpressions, NoLinks, NoSuffixes}
use Rattle.cyc_tree.specs.Tree.{One, Suffixes}
use Rattle.source_meaning.specs.Expressions.{is_unique_region}
use Rattle.source_typing.specs.Expressions.{judge}
use Rattle.source_typing.specs.Making.{Goal, goal_of, inside, with_counter}
use Rattle.source_typing.specs.Places.{arrow, indexed, member}
use Rattle.source_typing.specs.Scope.{Env, Local, Value, with_locals}
use Rattle.source_typing.specs.Tables.{Tables}
use Rattle.source_typing.specs.Types.{Fat, StaticType, Struct, Thin, Unique}
use Rattle.source_typing.specs.Verdicts.{Faulty, Of, Unjudged, Verdict, after, both}
use Rattle.type_proof.specs.Members.{AllHaveStructMembers, HasStructMembers, IsNoUnion, LeadingToNoUnion, LeadsToNoUnion, LinksHaveStructMembers}
use Rattle.type_proof.specs.Members.{MadeHasStructMembers, OfNoUnion, SuffixesHaveStructMembers}
use Rattle.accepted_proof.specs.Good.{AllGood, IsGood, IsStructTag, KnowsKinds, NamesStructs}
use Rattle.accepted_proof.proofs.kinds.Expressions.{counter_known, dot_named, expression_named, index_named, inside_known, lead_named}
use Rattle.accepted_proof.proofs.kinds.Perhaps.{Perhaps}
use Rattle.accepted_proof.proofs.kinds.Phrases.{ValueNames}

-- what is known of the names in scope is known of the program's names
behind_locals : (n : ℕ) (ls : List Local) (g : Tables) → AllGood n (with_locals ls g) → AllGood n g
behind_locals n [] g h = h
behind_locals n (l ∷ ls) g h = behind_locals n ls g h.1

pub tables_good : (g : Env) → IsGood g → AllGood g.regions.count g.tables
tables_good g h = behind_locals g.regions.count g.locals g.tables h.names

-- ---- no struct has a union's tag

of_struct : (g : Tables) (t : StaticType) → NamesStructs (IsStructTag g) t → IsNoUnion g t
of_struct g (Struct tag rs) h = h
of_struct g _ h = tt

to_struct : (g : Tables) (t : StaticType) → NamesStructs (IsStructTag g) t → LeadsToNoUnion g t
to_struct g (Thin n r t) h = of_struct g t h
to_struct g (Fat r t) h = of_struct g t h
to_struct g (Unique n t) h = of_struct g t h
to_struct g _ h = tt

abbrev IsNamed : Env → Verdict Value → Type 0
IsNamed g v = Perhaps (λ a. ValueNames (IsStructTag g.tables) a) v

judged_of : (g : Env) (v : Verdict Value) → IsNamed g v → OfNoUnion g v
judged_of g (Of v) h = of_struct g.tables v.type h
judged_of g (Faulty f fs) h = tt
judged_of g Unjudged h = tt

judged_to : (g : Env) (v : Verdict Value) → IsNamed g v → LeadingToNoUnion g v
judged_to g (Of v) h = to_struct g.tables v.type h
judged_to g (Faulty f fs) h = tt
judged_to g Unjudged h = tt

abbrev HasKinds : Env → Type 0
HasKinds g = KnowsKinds (IsStructTag g.tables) g

inner_kinds : (goal : Verdict Goal) (g : Env) → HasKinds g → HasKinds (inside goal g)
inner_kinds goal g k = inside_known (IsStructTag g.tables) goal g k

mutual
  pub struct_members : (e : Expression) (g : Env) → HasKinds g → HasStructMembers g e
  struct_members (Expression.Number at n suffix) g k = tt
  struct_members (Expression.Character at byte) g k = tt
  struct_members (Expression.Text at bytes) g k = tt
  struct_members (Expression.Null at) g k = tt
  struct_members (Expression.HeapRegion at) g k = tt
  struct_members (Expression.UniqueRegion at) g k = tt
  struct_members (Expression.Variable x) g k = tt
  struct_members (Expression.Call x es) g k = all_members es g k
  struct_members (Expression.MakeUnion tag f e) g k = struct_members e g k
  struct_members (Expression.NumElts at e) g k = struct_members e g k
  struct_members (Expression.Grouped at e) g k = struct_members e g k
  struct_members (Expression.Suffixed e es) g k =
      (struct_members e g k, suffix_members es (judge g e) g k (expression_named (IsStructTag g.tables) e g k))
  struct_members (Expression.Prefixed at o e) g k = struct_members e g k
  struct_members (Expression.New at new) g k = made_members new g k
  struct_members (Expression.NewIn at e new) g k =
      let goal : Verdict Goal = goal_of (is_unique_region e) g (judge g e) in
      (struct_members e g k, made_members new (inside goal g) (inner_kinds goal g k))
  struct_members (Expression.Chain e es) g k = (struct_members e g k, link_members es g k)
  struct_members (Expression.AllOf e es) g k = (struct_members e g k, all_members es g k)
  struct_members (Expression.AnyOf e es) g k = (struct_members e g k, all_members es g k)
  struct_members (Expression.Assign a b) g k = (struct_members a g k, struct_members b g k)

  all_members : (es : Expressions) (g : Env) → HasKinds g → AllHaveStructMembers g es
  all_members NoExpressions g k = tt
  all_members (MoreExpressions e es) g k = (struct_members e g k, all_members es g k)

  link_members : (es : Links) (g : Env) → HasKinds g → LinksHaveStructMembers g es
  link_members NoLinks g k = tt
  link_members (MoreLinks o e es) g k = (struct_members e g k, link_members es g k)

  suffix_members : (es : Suffixes) (v : Verdict Value) (g : Env) → HasKinds g → IsNamed g v → SuffixesHaveStructMembers g v es
  suffix_members NoSuffixes v g k h = tt
  suffix_members (Index e es) v g k h = (
    struct_members e g k,
    suffix_members es (both v (judge g e) (indexed g)) g k (index_named (IsStructTag g.tables) g v (judge g e) h),
  )
  suffix_members (Dot f es) v g k h =
      (judged_of g v h, suffix_members es (after v (member g f)) g k (dot_named (IsStructTag g.tables) g f v k h))
  suffix_members (Arrow f es) v g k h =
      (judged_to g v h, suffix_members es (after v (arrow g f)) g k (lead_named (IsStructTag g.tables) g f v k h))

  made_members : (new : Made) (g : Env) → HasKinds g → MadeHasStructMembers g new
  made_members (One e) g k = struct_members e g k
  made_members (Array x n e) g k = (struct_members n g k, struct_members e (with_counter x g) (counter_known (IsStructTag g.tables) x g k))
