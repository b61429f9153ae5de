-- Where an expression has no indices of arrays, none are put in order.
use Rattle.std.proofs.Common.{◌≡◌, ℕ, ◌+◌, ◌-◌, ◌^◌, min, List, [], ◌++◌, ap, refl, ◌∙◌, arith}
use Rattle.cyc_tree.specs.Tree.{
  Expression,
  Expressions,
  NoExpressions,
  MoreExpressions,
  Links,
  NoLinks,
  MoreLinks,
  Suffixes,
  NoSuffixes,
  Index,
  Dot,
  Arrow,
  Made,
  One,
  Array,
}
use Rattle.source_lowering.specs.Order.{
  all_order,
  expression_order,
  indices_in,
  indices_in_all,
  indices_in_links,
  indices_in_made,
  indices_in_suffixes,
  link_order,
  made_order,
  suffix_order,
}

first_none : (a b : ℕ) → a + b ≡ 0 → a ≡ 0
first_none a b h = omega (arith, h)

second_none : (a b : ℕ) → a + b ≡ 0 → b ≡ 0
second_none a b h = omega (arith, h)

both_none : (ns ms : List ℕ) → ns ≡ [] → ms ≡ [] → ns ++ ms ≡ []
both_none ns ms h k = ap (λ x. x ++ ms) h ∙ k

mutual
  expression_none : (first : ℕ) (e : Expression) → indices_in e ≡ 0 → expression_order first e ≡ []
  expression_none first (Expression.Call x arguments) h = all_none first arguments h
  expression_none first (Expression.MakeUnion tag member value) h = expression_none first value h
  expression_none first (Expression.NumElts at operand) h = expression_none first operand h
  expression_none first (Expression.Grouped at inner) h = expression_none first inner h
  expression_none first (Expression.Suffixed primary suffixes) h =
      let a = indices_in_suffixes suffixes in
      both_none _ _ (expression_none (first + a) primary (second_none a (indices_in primary) h))
      (suffixes_none first suffixes (first_none a (indices_in primary) h))
  expression_none first (Expression.Prefixed at operator operand) h = expression_none first operand h
  expression_none first (Expression.New at new) h = made_none first new h
  expression_none first (Expression.NewIn at handle new) h =
      let a = indices_in handle in
      both_none _ _ (expression_none first handle (first_none a (indices_in_made new) h)) (made_none (first + a) new (second_none a (indices_in_made new) h))
  expression_none first (Expression.Chain e others) h =
      let a = indices_in e in
      both_none _ _ (expression_none first e (first_none a (indices_in_links others) h))
      (links_none (first + a) others (second_none a (indices_in_links others) h))
  expression_none first (Expression.AllOf e others) h =
      let a = indices_in e in
      both_none _ _ (expression_none first e (first_none a (indices_in_all others) h)) (all_none (first + a) others (second_none a (indices_in_all others) h))
  expression_none first (Expression.AnyOf e others) h =
      let a = indices_in e in
      both_none _ _ (expression_none first e (first_none a (indices_in_all others) h)) (all_none (first + a) others (second_none a (indices_in_all others) h))
  expression_none first (Expression.Assign place value) h =
      let a = indices_in value in
      both_none _ _ (expression_none (first + a) place (second_none a (indices_in place) h)) (expression_none first value (first_none a (indices_in place) h))
  expression_none first _ h = refl

  all_none : (first : ℕ) (es : Expressions) → indices_in_all es ≡ 0 → all_order first es ≡ []
  all_none first NoExpressions h = refl
  all_none first (MoreExpressions e others) h =
      let a = indices_in e in
      both_none _ _ (expression_none first e (first_none a (indices_in_all others) h)) (all_none (first + a) others (second_none a (indices_in_all others) h))

  links_none : (first : ℕ) (ls : Links) → indices_in_links ls ≡ 0 → link_order first ls ≡ []
  links_none first NoLinks h = refl
  links_none first (MoreLinks operator operand others) h =
      let a = indices_in operand in
      both_none _ _ (expression_none first operand (first_none a (indices_in_links others) h))
      (links_none (first + a) others (second_none a (indices_in_links others) h))

  pub suffixes_none : (first : ℕ) (ss : Suffixes) → indices_in_suffixes ss ≡ 0 → suffix_order first ss ≡ []
  suffixes_none first NoSuffixes h = refl
  suffixes_none first (Index index others) h =
      let a = indices_in_suffixes others in
      both_none _ _ (expression_none (first + a) index (second_none a (indices_in index) h)) (suffixes_none first others (first_none a (indices_in index) h))
  suffixes_none first (Dot f others) h = suffixes_none first others h
  suffixes_none first (Arrow f others) h = suffixes_none first others h

  made_none : (first : ℕ) (new : Made) → indices_in_made new ≡ 0 → made_order first new ≡ []
  made_none first (One value) h = expression_none first value h
  made_none first (Array index count element) h = absurd (omega (arith, h))

-- a count up to the greatest usize is none where there are none
pub count_none : (n count : ℕ) → count ≡ min n (2 ^ 64 - 1) → count ≡ 0 → n ≡ 0
count_none n count h none = omega (arith, h, none)
