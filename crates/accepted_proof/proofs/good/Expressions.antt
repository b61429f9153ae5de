-- Each expression has a fault or is in order, where all is known of each name in scope.
use Rattle.std.proofs.Common.{ℕ, Bool, true, false, List, refl}
use Rattle.cyc_tree.specs.declared.expression.Operator.{Operator}
use Rattle.cyc_tree.specs.Tree.{Array, Arrow, Dot, Expression, Expressions, Index, Links, Made, MoreExpressions, MoreLinks, Name, NoExpressions, NoLinks}
use Rattle.cyc_tree.specs.Tree.{NoSuffixes, One, Suffixes}
use Rattle.source_meaning.specs.Calls.{number_type}
use Rattle.source_meaning.specs.Expressions.{is_unique_region}
use Rattle.source_typing.specs.Calls.{called, target, union_made, union_tag}
use Rattle.source_typing.specs.Expressions.{judge, judge_all, judge_links, judge_made_in, judge_suffixes, judge_tests, number_typed}
use Rattle.source_typing.specs.Fixing.{more}
use Rattle.source_typing.specs.Making.{Goal, To, ToUnique, elements, goal_of, inside, with_counter}
use Rattle.source_typing.specs.Operators.{applied, counted, prefixed, string, tested_both}
use Rattle.source_typing.specs.Places.{arrow, assigned, grouped, indexed, member}
use Rattle.source_typing.specs.Regions.{TheHeap}
use Rattle.source_typing.specs.Scope.{Env, Nowhere, Value, in_scope, meant, value}
use Rattle.source_typing.specs.Named.{TypeBelow}
use Rattle.source_typing.specs.Types.{Char, Handle, Null}
use Rattle.source_typing.specs.Verdicts.{Of, Verdict, after, both}
use Rattle.cyc_tree.specs.Operands.{AreSuffixed}
use Rattle.type_proof.proofs.expressions.Fixed.{ValuesBelow}
use Rattle.type_proof.proofs.expressions.Integers.{type_integer}
use Rattle.accepted_proof.specs.Good.{ExpressionsJudged, IsGood, IsGoodValue, IsValueType, SeatBelow, Surely}
use Rattle.accepted_proof.proofs.good.Names.{
  IsGoodMember,
  IsGoodPlace,
  IsGoodResult,
  IsGoodTarget,
  called_judged,
  found_good,
  target_judged,
  union_judged,
  union_made_judged,
}
use Rattle.accepted_proof.proofs.good.Scopes.{good_counter, good_inside}
use Rattle.accepted_proof.proofs.good.Makings.{IsGoal, IsKnownOperand, array_good, array_there, elements_good, handle_good, made_good}
use Rattle.accepted_proof.proofs.good.Makings.{made_there}
use Rattle.accepted_proof.proofs.good.Operators.{applied_judged, both_tested_judged, counted_judged, integer_judged, object_value, string_judged}
use Rattle.accepted_proof.proofs.good.Places.{arrow_judged, assigned_judged, indexed_judged, member_judged, placed, prefixed_judged, valued, variable_judged}
use Rattle.accepted_proof.proofs.StructMembers.{tables_good}
use Rattle.accepted_proof.proofs.Sure.{surely_after, surely_also, surely_both}

module _ (g : Env) (good : IsGood g) where
  -- an expression has a fault, or it is in order
  abbrev Judged : Expression → Type 0
  Judged e = Surely (λ v. IsGoodValue g v) (judge g e)

  -- ---- operands that are joined from the left

  -- what is known of the first of them, and of what some of them give
  abbrev Begun : Value → Type 0
  Begun v = IsValueType v.type × TypeBelow g.regions.count v.type

  abbrev Joined : Value → Type 0
  Joined v = IsGoodResult g.regions.count v

  begun : (e : Expression) → Judged e → Surely (λ w. Begun w) (judge g e)
  begun e h = surely_also (λ w. IsGoodValue g w) (λ w. Begun w) (judge g e) h (λ w k. (k.type, k.below))

  still_begun : (v : Verdict Value) → Surely (λ w. Joined w) v → Surely (λ w. Begun w) v
  still_begun v h = surely_also (λ w. Joined w) (λ w. Begun w) v h (λ w k. (k.type, k.below))

  tested_more : (v : Verdict Value) (y : Expression) → Surely (λ w. Begun w) v → Judged y → Surely (λ w. Joined w) (both v (judge g y) tested_both)
  tested_more v y h l =
      surely_both (λ w. Begun w) (λ w. IsGoodValue g w) (λ w. Joined w) v (judge g y) tested_both h l (λ a b c d. both_tested_judged g.regions.count a b)

  applied_more : (o : Operator) (v : Verdict Value) (y : Expression) → Surely (λ w. Begun w) v → Judged y
      → Surely (λ w. Joined w) (both v (judge g y) (applied g o))
  applied_more o v y h l =
      surely_both (λ w. Begun w) (λ w. IsGoodValue g w) (λ w. Joined w) v (judge g y) (applied g o) h l
      (λ a b c d. applied_judged g.regions.count g o a.at a.type b.type c.0 c.1 d.type)

  -- ---- names and calls

  variable_good : (x : Name) → Judged (Expression.Variable x)
  variable_good x = variable_judged g x.at (meant g x.text) (found_good g.regions.count (in_scope g) x.text good.names)

  call_good : (x : Name) (es : Expressions) → Surely (λ (vs : List Value). ValuesBelow g.regions.count vs) (judge_all g es) → Judged (Expression.Call x es)
  call_good x es h =
      surely_both (λ u. IsGoodTarget u) (λ (vs : List Value). ValuesBelow g.regions.count vs) (λ v. IsGoodValue g v) (target x.at (meant g x.text))
      (judge_all g es) (called g x.at)
      (target_judged g.regions.count x.at (meant g x.text) (found_good g.regions.count (in_scope g) x.text good.names)) h
      (λ u vs c d. surely_also (λ v. IsGoodResult g.regions.count v) (λ v. IsGoodValue g v) (called g x.at u vs)
      (called_judged g x.at u vs good.enclosing c d) (valued g))

  union_good : (tag f : Name) (e : Expression) → Judged e → Judged (Expression.MakeUnion tag f e)
  union_good tag f e h =
      surely_both (λ m. IsGoodMember m) (λ v. IsGoodValue g v) (λ v. IsGoodValue g v) (union_tag tag f (meant g tag.text)) (judge g e) (union_made g tag.at)
      (union_judged g.regions.count tag f (meant g tag.text) (found_good g.regions.count (in_scope g) tag.text good.names)) h
      (λ m a c d. surely_also (λ v. IsGoodResult g.regions.count v) (λ v. IsGoodValue g v) (union_made g tag.at m a)
      (union_made_judged g tag.at m a good.enclosing c (d.below, tt)) (valued g))

  -- ---- several operands

  -- each operand has a fault, or it is in order
  abbrev AllJudged : Expressions → Type 0
  AllJudged NoExpressions = Unit {0}
  AllJudged (MoreExpressions e es) = Judged e × AllJudged es

  abbrev LinksJudged : Links → Type 0
  LinksJudged NoLinks = Unit {0}
  LinksJudged (MoreLinks o e es) = Judged e × LinksJudged es

  -- the types of arguments speak of regions in scope
  arguments_good : (es : Expressions) → AllJudged es → Surely (λ (vs : List Value). ValuesBelow g.regions.count vs) (judge_all g es)
  arguments_good NoExpressions h = tt
  arguments_good (MoreExpressions e es) h =
      surely_both (λ v. IsGoodValue g v) (λ (vs : List Value). ValuesBelow g.regions.count vs) (λ (vs : List Value). ValuesBelow g.regions.count vs)
      (judge g e) (judge_all g es) more h.0 (arguments_good es h.1) (λ v vs c d. (c.below, d))

  -- the operands behind the first two
  tests_good : (es : Expressions) (v : Verdict Value) → AllJudged es → Surely (λ w. Joined w) v → Surely (λ w. Joined w) (judge_tests g v es)
  tests_good NoExpressions v h c = c
  tests_good (MoreExpressions e es) v h c = tests_good es (both v (judge g e) tested_both) h.1 (tested_more v e (still_begun v c) h.0)

  links_good : (es : Links) (v : Verdict Value) → LinksJudged es → Surely (λ w. Joined w) v → Surely (λ w. Joined w) (judge_links g v es)
  links_good NoLinks v h c = c
  links_good (MoreLinks o e es) v h c = links_good es (both v (judge g e) (applied g o)) h.1 (applied_more o v e (still_begun v c) h.0)

  -- two operands and others, of operators and of tests
  chain_good : (e : Expression) (o : Operator) (y : Expression) (es : Links) → Judged e → LinksJudged (MoreLinks o y es)
      → Judged (Expression.Chain e (MoreLinks o y es))
  chain_good e o y es h k =
      let v : Verdict Value = both (judge g e) (judge g y) (applied g o) in
      surely_also (λ w. Joined w) (λ w. IsGoodValue g w) (judge_links g v es) (links_good es v k.1 (applied_more o (judge g e) y (begun e h) k.0)) (valued g)

  tests_joined : (e y : Expression) (es : Expressions) → Judged e → AllJudged (MoreExpressions y es)
      → Surely (λ w. IsGoodValue g w) (judge_tests g (judge g e) (MoreExpressions y es))
  tests_joined e y es h k =
      let v : Verdict Value = both (judge g e) (judge g y) tested_both in
      surely_also (λ w. Joined w) (λ w. IsGoodValue g w) (judge_tests g v es) (tests_good es v k.1 (tested_more (judge g e) y (begun e h) k.0)) (valued g)

  -- ---- suffixes

  -- what suffixes stand behind
  record IsSuffixable (v : Value) : Type 0 where
    type : IsValueType v.type
    below : TypeBelow g.regions.count v.type
    seat : SeatBelow g.regions.count v.seat

  suffixable : (v : Value) → IsGoodValue g v → IsSuffixable v
  suffixable v h = record { type = h.type; below = h.below; seat = h.seat }

  -- each subscript has a fault, or it is in order
  abbrev SuffixesJudged : Suffixes → Type 0
  SuffixesJudged NoSuffixes = Unit {0}
  SuffixesJudged (Index index es) = Judged index × SuffixesJudged es
  SuffixesJudged (Dot f es) = SuffixesJudged es
  SuffixesJudged (Arrow f es) = SuffixesJudged es

  suffixes_good : (es : Suffixes) (v : Verdict Value) → SuffixesJudged es → Surely (λ w. IsGoodPlace g.regions.count w) v
      → Surely (λ w. IsGoodPlace g.regions.count w) (judge_suffixes g v es)
  suffixes_good NoSuffixes v l h = h
  suffixes_good (Index index others) v l h =
      suffixes_good others (both v (judge g index) (indexed g)) l.1
      (surely_both (λ w. IsGoodPlace g.regions.count w) (λ w. IsGoodValue g w) (λ w. IsGoodPlace g.regions.count w) v (judge g index) (indexed g) h l.0
      (λ a b k d. indexed_judged g a b (object_value a.type k.type) k.below))
  suffixes_good (Dot f others) v l h =
      suffixes_good others (after v (member g f)) l
      (surely_after (λ w. IsGoodPlace g.regions.count w) (λ w. IsGoodPlace g.regions.count w) v (member g f) h
      (λ a k. member_judged g f a.at a.type a.seat (tables_good g good) (object_value a.type k.type) k.below k.seat))
  suffixes_good (Arrow f others) v l h =
      suffixes_good others (after v (arrow g f)) l
      (surely_after (λ w. IsGoodPlace g.regions.count w) (λ w. IsGoodPlace g.regions.count w) v (arrow g f) h
      (λ a k. arrow_judged g f a.at a.type (tables_good g good) (object_value a.type k.type) k.below))

  -- at least one
  suffixes_judged : (es : Suffixes) (v : Verdict Value) → AreSuffixed es → SuffixesJudged es → Surely (λ w. IsSuffixable w) v
      → Surely (λ w. IsGoodPlace g.regions.count w) (judge_suffixes g v es)
  suffixes_judged NoSuffixes v s l h = absurd s
  suffixes_judged (Index index others) v s l h =
      suffixes_good others (both v (judge g index) (indexed g)) l.1
      (surely_both (λ w. IsSuffixable w) (λ w. IsGoodValue g w) (λ w. IsGoodPlace g.regions.count w) v (judge g index) (indexed g) h l.0
      (λ a b k d. indexed_judged g a b k.type k.below))
  suffixes_judged (Dot f others) v s l h =
      suffixes_good others (after v (member g f)) l
      (surely_after (λ w. IsSuffixable w) (λ w. IsGoodPlace g.regions.count w) v (member g f) h
      (λ a k. member_judged g f a.at a.type a.seat (tables_good g good) k.type k.below k.seat))
  suffixes_judged (Arrow f others) v s l h =
      suffixes_good others (after v (arrow g f)) l
      (surely_after (λ w. IsSuffixable w) (λ w. IsGoodPlace g.regions.count w) v (arrow g f) h
      (λ a k. arrow_judged g f a.at a.type (tables_good g good) k.type k.below))

  suffixed_judged : (e : Expression) (es : Suffixes) → AreSuffixed es → Judged e → SuffixesJudged es → Judged (Expression.Suffixed e es)
  suffixed_judged e es s h l =
      surely_also (λ w. IsGoodPlace g.regions.count w) (λ w. IsGoodValue g w) (judge_suffixes g (judge g e) es)
      (suffixes_judged es (judge g e) s l (surely_also (λ v. IsGoodValue g v) (λ v. IsSuffixable v) (judge g e) h suffixable)) (placed g)

-- ---- handles

-- a making in the region of a handle, or in the unique one
new_in : (g : Env) (good : IsGood g) (at : ℕ) (handle : Expression) (new : Made) → Judged g good handle
    → ((goal : Verdict Goal) → Surely (λ x. IsGoal g x) goal → Surely (λ w. IsGoodValue g w) (judge_made_in g at goal new))
    → Judged g good (Expression.NewIn at handle new)
new_in g good at handle new h k = by (is_unique_region handle)
  where
    by : (b : Bool) → Surely (λ w. IsGoodValue g w) (judge_made_in g at (goal_of b g (judge g handle)) new)
    by true = k (Of ToUnique) tt
    by false = k (goal_of false g (judge g handle)) (handle_good g handle h)

-- an operand, by its type alone
known_operand : (g : Env) (v : Verdict Value) → Surely (λ w. IsGoodValue g w) v → Surely (λ w. IsKnownOperand g w) v
known_operand g v h = surely_also (λ w. IsGoodValue g w) (λ w. IsKnownOperand g w) v h (λ w k. (k.type, k.below))

-- ---- expressions

mutual
  pub expression_judged : (e : Expression) (g : Env) (good : IsGood g) → Judged g good e
  expression_judged (Expression.Number at n suffix) g good =
      surely_also (λ v. IsGoodResult g.regions.count v) (λ v. IsGoodValue g v) (value at (number_typed n suffix))
      (integer_judged g.regions.count at (number_typed n suffix) (type_integer (number_type n suffix))) (valued g)
  expression_judged (Expression.Character at byte) g good =
      valued g (record { at = at; type = Char; seat = Nowhere }) (record { type = tt; below = tt; nowhere = refl })
  expression_judged (Expression.Text at bytes) g good =
      surely_also (λ v. IsGoodResult g.regions.count v) (λ v. IsGoodValue g v) (string at bytes) (string_judged g.regions.count at bytes) (valued g)
  expression_judged (Expression.Null at) g good =
      valued g (record { at = at; type = Null; seat = Nowhere }) (record { type = tt; below = tt; nowhere = refl })
  expression_judged (Expression.HeapRegion at) g good =
      valued g (record { at = at; type = Handle TheHeap; seat = Nowhere }) (record { type = tt; below = tt; nowhere = refl })
  expression_judged (Expression.UniqueRegion at) g good = tt
  expression_judged (Expression.Variable x) g good = variable_good g good x
  expression_judged (Expression.Call x es) g good =
      call_good g good x es (arguments_good g good es (each_judged es g good))
  expression_judged (Expression.MakeUnion tag f e) g good =
      union_good g good tag f e (expression_judged e g good)
  expression_judged (Expression.NumElts at e) g good =
      surely_after (λ v. IsGoodValue g v) (λ v. IsGoodValue g v) (judge g e) (counted at) (expression_judged e g good)
      (λ a h. surely_also (λ v. IsGoodResult g.regions.count v) (λ v. IsGoodValue g v) (counted at a) (counted_judged g.regions.count at a) (valued g))
  expression_judged (Expression.Grouped at e) g good =
      surely_after (λ v. IsGoodValue g v) (λ v. IsGoodValue g v) (judge g e) (grouped at) (expression_judged e g good)
      (λ a h. record { type = h.type; below = h.below; seat = h.seat; object = h.object })
  expression_judged (Expression.Suffixed e NoSuffixes) g good = expression_judged e g good
  expression_judged (Expression.Suffixed e (Index index others)) g good =
      suffixed_judged g good e (Index index others) tt (expression_judged e g good)
      (expression_judged index g good, each_suffixed others g good)
  expression_judged (Expression.Suffixed e (Dot f others)) g good =
      suffixed_judged g good e (Dot f others) tt (expression_judged e g good) (each_suffixed others g good)
  expression_judged (Expression.Suffixed e (Arrow f others)) g good =
      suffixed_judged g good e (Arrow f others) tt (expression_judged e g good) (each_suffixed others g good)
  expression_judged (Expression.Prefixed at o e) g good =
      surely_after (λ v. IsGoodValue g v) (λ v. IsGoodValue g v) (judge g e) (prefixed g at o) (expression_judged e g good)
      (λ a h. prefixed_judged g at o a h)
  expression_judged (Expression.New at (One e)) g good = made_there g at (To TheHeap) (judge g e) (expression_judged e g good) tt
  expression_judged (Expression.New at (Array x c e)) g good =
      let inner : Env = with_counter x g in
      array_there g at (To TheHeap) (judge g c) (judge inner e)
      (elements_good g (judge g c) (judge inner e) (known_operand g (judge g c) (expression_judged c g good))
      (known_operand inner (judge inner e) (expression_judged e inner (good_counter x g good)))) tt
  expression_judged (Expression.NewIn at handle (One e)) g good =
      new_in g good at handle (One e) (expression_judged handle g good)
      (λ goal l. made_good g at goal e l (λ y b. as_outside y (expression_judged e (inside (Of y) g) (good_inside y g b good))))
    where
      outside : (y : Goal) (v : Value) → IsGoodValue (inside (Of y) g) v → IsGoodValue g v
      outside y v h = record { type = h.type; below = h.below; seat = h.seat; object = h.object }

      as_outside : (y : Goal) → Surely (λ v. IsGoodValue (inside (Of y) g) v) (judge (inside (Of y) g) e)
          → Surely (λ v. IsGoodValue g v) (judge (inside (Of y) g) e)
      as_outside y h = surely_also (λ v. IsGoodValue (inside (Of y) g) v) (λ v. IsGoodValue g v) (judge (inside (Of y) g) e) h (outside y)
  expression_judged (Expression.NewIn at handle (Array x c e)) g good =
      new_in g good at handle (Array x c e) (expression_judged handle g good)
      (λ goal l. array_good g at goal x c e l (λ y b.
      let within : Env = inside (Of y) g in
      let inner : Env = with_counter x within in
      let good_within : IsGood within = good_inside y g b good in
      elements_good g (judge within c) (judge inner e)
      (known_operand within (judge within c) (expression_judged c within good_within))
      (known_operand inner (judge inner e) (expression_judged e inner (good_counter x within good_within)))))
  expression_judged (Expression.Chain e NoLinks) g good = expression_judged e g good
  expression_judged (Expression.Chain e (MoreLinks o y es)) g good =
      chain_good g good e o y es (expression_judged e g good) (each_linked (MoreLinks o y es) g good)
  expression_judged (Expression.AllOf e NoExpressions) g good = expression_judged e g good
  expression_judged (Expression.AllOf e (MoreExpressions y es)) g good =
      tests_joined g good e y es (expression_judged e g good) (each_judged (MoreExpressions y es) g good)
  expression_judged (Expression.AnyOf e NoExpressions) g good = expression_judged e g good
  expression_judged (Expression.AnyOf e (MoreExpressions y es)) g good =
      tests_joined g good e y es (expression_judged e g good) (each_judged (MoreExpressions y es) g good)
  expression_judged (Expression.Assign a b) g good =
      surely_both (λ w. IsGoodValue g w) (λ w. IsGoodValue g w) (λ w. IsGoodValue g w) (judge g a) (judge g b) (assigned g)
      (expression_judged a g good) (expression_judged b g good) (λ u v c d. assigned_judged g u v c)

  each_judged : (es : Expressions) (g : Env) (good : IsGood g) → AllJudged g good es
  each_judged NoExpressions g good = tt
  each_judged (MoreExpressions e es) g good = (expression_judged e g good, each_judged es g good)

  each_suffixed : (es : Suffixes) (g : Env) (good : IsGood g) → SuffixesJudged g good es
  each_suffixed NoSuffixes g good = tt
  each_suffixed (Index index es) g good = (expression_judged index g good, each_suffixed es g good)
  each_suffixed (Dot f es) g good = each_suffixed es g good
  each_suffixed (Arrow f es) g good = each_suffixed es g good

  each_linked : (es : Links) (g : Env) (good : IsGood g) → LinksJudged g good es
  each_linked NoLinks g good = tt
  each_linked (MoreLinks o e es) g good = (expression_judged e g good, each_linked es g good)

-- Each expression is checked: it has a fault, or is in order.
pub expressions_judged : ExpressionsJudged
expressions_judged e g h = expression_judged e g h
