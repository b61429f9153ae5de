-- An expression in which the rules find no fault is the same without those on live regions.
use Rattle.std.proofs.Common.{ℕ, Bool, refl, sym, subst}
use Rattle.cyc_tree.specs.Tree as tree
use Rattle.cyc_tree.specs.Tree.{
  Array,
  Arrow,
  Dot,
  Expression,
  Expressions,
  Index,
  Links,
  Made,
  MoreExpressions,
  MoreLinks,
  NoExpressions,
  NoLinks,
  NoSuffixes,
  One,
  Suffixes,
}
use Rattle.source_meaning.specs.Expressions.{is_unique_region}
use Rattle.source_typing.specs.Calls.{called, target, union_made, union_tag}
use Rattle.source_typing.specs.Expressions.{judge, judge_all, judge_links, judge_made, judge_made_in, judge_suffixes, judge_tests}
use Rattle.source_typing.specs.Fixing.{more}
use Rattle.source_typing.specs.Making.{Goal, To, array_made, array_misfits, elements, goal_of, inside, is_other, made, with_counter}
use Rattle.source_typing.specs.Operators.{applied, counted, prefixed, string, tested_both}
use Rattle.source_typing.specs.Places.{arrow, assigned, grouped, indexed, member, variable}
use Rattle.source_typing.specs.Regions.{TheHeap}
use Rattle.source_typing.specs.Scope.{Env, Value, meant}
use Rattle.source_typing.specs.Types.{is_makeable}
use Rattle.source_typing.specs.Verdicts.{Faulty, Of, Unjudged, Verdict, after, both}
use Rattle.region_types.proofs.EasedForms.{applied_stays, arrow_stays, assigned_stays, called_stays, goal_stays, indexed_stays, member_stays}
use Rattle.region_types.proofs.EasedForms.{prefixed_stays, union_stays}
use Rattle.region_types.proofs.EasedPhrases.{Stays, eased, stays_after, stays_array, stays_both, stays_made, stays_same, wrong_goal}

-- an expression that stays in each scope
abbrev StaysEverywhere : Expression → Type 0
StaysEverywhere e = (f : Env) → Stays (judge f e) (judge (eased f) e)

-- its making in the region of a handle
one_in_stays : (e : Expression) → StaysEverywhere e → (g : Env) (at : ℕ) (goal other : Verdict Goal) → Stays goal other
    → Stays (judge_made_in g at goal (One e)) (judge_made_in (eased g) at other (One e))
one_in_stays e each g at goal other s = by goal s
  where
    there : (k : Verdict Goal) → Stays (judge_made_in g at k (One e)) (judge_made_in (eased g) at k (One e))
    there k = stays_made at k (judge (inside k g) e) (judge (eased (inside k g)) e) (each (inside k g))

    by : (k : Verdict Goal) → Stays k other → Stays (judge_made_in g at k (One e)) (judge_made_in (eased g) at other (One e))
    by (Faulty f fs) r =
        let v : Verdict Value = judge (inside (Faulty f fs) g) e in
        wrong_goal at (is_other is_makeable v) f fs v (made at) (judge_made_in (eased g) at other (One e))
    by Unjudged r = subst (λ k. Stays (judge_made_in g at Unjudged (One e)) (judge_made_in (eased g) at k (One e))) (sym r) (there Unjudged)
    by (Of a) r = subst (λ k. Stays (judge_made_in g at (Of a) (One e)) (judge_made_in (eased g) at k (One e))) (sym r) (there (Of a))

-- and of so many
array_in_stays : (x : tree.Name) (n e : Expression) → StaysEverywhere n → StaysEverywhere e → (g : Env) (at : ℕ) (goal other : Verdict Goal)
    → Stays goal other → Stays (judge_made_in g at goal (Array x n e)) (judge_made_in (eased g) at other (Array x n e))
array_in_stays x n e count each g at goal other s = by goal s
  where
    there : (k : Verdict Goal) → Stays (judge_made_in g at k (Array x n e)) (judge_made_in (eased g) at k (Array x n e))
    there k =
        let f : Env = inside k g in
        stays_array at k (judge f n) (judge (eased f) n) (judge (with_counter x f) e) (judge (eased (with_counter x f)) e)
        (count f) (each (with_counter x f))

    by : (k : Verdict Goal) → Stays k other → Stays (judge_made_in g at k (Array x n e)) (judge_made_in (eased g) at other (Array x n e))
    by (Faulty f fs) r =
        let inner : Env = inside (Faulty f fs) g in
        let v : Verdict Value = judge inner n in
        let w : Verdict Value = judge (with_counter x inner) e in
        wrong_goal at (array_misfits (Faulty f fs) v w) f fs (both v w elements) (array_made at) (judge_made_in (eased g) at other (Array x n e))
    by Unjudged r =
        subst (λ k. Stays (judge_made_in g at Unjudged (Array x n e)) (judge_made_in (eased g) at k (Array x n e))) (sym r) (there Unjudged)
    by (Of a) r = subst (λ k. Stays (judge_made_in g at (Of a) (Array x n e)) (judge_made_in (eased g) at k (Array x n e))) (sym r) (there (Of a))

mutual
  pub judge_stays : (e : Expression) (g : Env) → Stays (judge g e) (judge (eased g) e)
  judge_stays (Expression.Number at n suffix) g = refl
  judge_stays (Expression.Character at byte) g = refl
  judge_stays (Expression.Text at bytes) g = stays_same (string at bytes)
  judge_stays (Expression.Null at) g = refl
  judge_stays (Expression.HeapRegion at) g = refl
  judge_stays (Expression.UniqueRegion at) g = tt
  judge_stays (Expression.Variable x) g = stays_same (variable x.at (meant g x.text))
  judge_stays (Expression.Call x es) g =
      stays_both (target x.at (meant g x.text)) (target x.at (meant g x.text)) (judge_all g es) (judge_all (eased g) es) (called g x.at)
      (called (eased g) x.at) (stays_same (target x.at (meant g x.text))) (all_stay es g) (λ t vs. called_stays g x.at t vs)
  judge_stays (Expression.MakeUnion tag f e) g =
      stays_both (union_tag tag f (meant g tag.text)) (union_tag tag f (meant g tag.text)) (judge g e) (judge (eased g) e) (union_made g tag.at)
      (union_made (eased g) tag.at) (stays_same (union_tag tag f (meant g tag.text))) (judge_stays e g) (λ t v. union_stays g tag.at t v)
  judge_stays (Expression.NumElts at e) g =
      stays_after (judge g e) (judge (eased g) e) (counted at) (counted at) (judge_stays e g) (λ v. stays_same (counted at v))
  judge_stays (Expression.Grouped at e) g =
      stays_after (judge g e) (judge (eased g) e) (grouped at) (grouped at) (judge_stays e g) (λ v. refl)
  judge_stays (Expression.Suffixed e es) g = suffixes_stay es g (judge g e) (judge (eased g) e) (judge_stays e g)
  judge_stays (Expression.Prefixed at o e) g =
      stays_after (judge g e) (judge (eased g) e) (prefixed g at o) (prefixed (eased g) at o) (judge_stays e g) (λ v. prefixed_stays g at o v)
  judge_stays (Expression.New at new) g = made_stays new g at (Of (To TheHeap))
  judge_stays (Expression.NewIn at handle new) g =
      let u = is_unique_region handle in
      made_in_stays new g at (goal_of u g (judge g handle)) (goal_of u (eased g) (judge (eased g) handle))
      (goal_stays u g (judge g handle) (judge (eased g) handle) (judge_stays handle g))
  judge_stays (Expression.Chain e es) g = links_stay es g (judge g e) (judge (eased g) e) (judge_stays e g)
  judge_stays (Expression.AllOf e es) g = tests_stay es g (judge g e) (judge (eased g) e) (judge_stays e g)
  judge_stays (Expression.AnyOf e es) g = tests_stay es g (judge g e) (judge (eased g) e) (judge_stays e g)
  judge_stays (Expression.Assign to from) g =
      stays_both (judge g to) (judge (eased g) to) (judge g from) (judge (eased g) from) (assigned g) (assigned (eased g)) (judge_stays to g)
      (judge_stays from g) (λ a b. assigned_stays g a b)

  all_stay : (es : Expressions) (g : Env) → Stays (judge_all g es) (judge_all (eased g) es)
  all_stay NoExpressions g = refl
  all_stay (MoreExpressions e es) g =
      stays_both (judge g e) (judge (eased g) e) (judge_all g es) (judge_all (eased g) es) more more (judge_stays e g) (all_stay es g) (λ v vs. refl)

  tests_stay : (es : Expressions) (g : Env) (v w : Verdict Value) → Stays v w → Stays (judge_tests g v es) (judge_tests (eased g) w es)
  tests_stay NoExpressions g v w s = s
  tests_stay (MoreExpressions e es) g v w s =
      tests_stay es g (both v (judge g e) tested_both) (both w (judge (eased g) e) tested_both)
      (stays_both v w (judge g e) (judge (eased g) e) tested_both tested_both s (judge_stays e g) (λ a b. stays_same (tested_both a b)))

  links_stay : (es : Links) (g : Env) (v w : Verdict Value) → Stays v w → Stays (judge_links g v es) (judge_links (eased g) w es)
  links_stay NoLinks g v w s = s
  links_stay (MoreLinks o e es) g v w s =
      links_stay es g (both v (judge g e) (applied g o)) (both w (judge (eased g) e) (applied (eased g) o))
      (stays_both v w (judge g e) (judge (eased g) e) (applied g o) (applied (eased g) o) s (judge_stays e g) (λ a b. applied_stays g o a b))

  suffixes_stay : (es : Suffixes) (g : Env) (v w : Verdict Value) → Stays v w → Stays (judge_suffixes g v es) (judge_suffixes (eased g) w es)
  suffixes_stay NoSuffixes g v w s = s
  suffixes_stay (Index e es) g v w s =
      suffixes_stay es g (both v (judge g e) (indexed g)) (both w (judge (eased g) e) (indexed (eased g)))
      (stays_both v w (judge g e) (judge (eased g) e) (indexed g) (indexed (eased g)) s (judge_stays e g) (λ a b. indexed_stays g a b))
  suffixes_stay (Dot f es) g v w s =
      suffixes_stay es g (after v (member g f)) (after w (member (eased g) f))
      (stays_after v w (member g f) (member (eased g) f) s (λ a. member_stays g f a))
  suffixes_stay (Arrow f es) g v w s =
      suffixes_stay es g (after v (arrow g f)) (after w (arrow (eased g) f)) (stays_after v w (arrow g f) (arrow (eased g) f) s (λ a. arrow_stays g f a))

  made_stays : (new : Made) (g : Env) (at : ℕ) (goal : Verdict Goal) → Stays (judge_made g at goal new) (judge_made (eased g) at goal new)
  made_stays (One e) g at goal = stays_made at goal (judge g e) (judge (eased g) e) (judge_stays e g)
  made_stays (Array x n e) g at goal =
      stays_array at goal (judge g n) (judge (eased g) n) (judge (with_counter x g) e) (judge (eased (with_counter x g)) e)
      (judge_stays n g) (judge_stays e (with_counter x g))

  made_in_stays : (new : Made) (g : Env) (at : ℕ) (goal other : Verdict Goal) → Stays goal other
      → Stays (judge_made_in g at goal new) (judge_made_in (eased g) at other new)
  made_in_stays (One e) g at goal other s = one_in_stays e (λ f. judge_stays e f) g at goal other s
  made_in_stays (Array x n e) g at goal other s = array_in_stays x n e (λ f. judge_stays n f) (λ f. judge_stays e f) g at goal other s
