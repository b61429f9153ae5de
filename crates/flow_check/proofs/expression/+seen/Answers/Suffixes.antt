-- Suffixes, and making: what they use.
use Rattle.std.proofs.Common.{IfOk, List, [], ap, ap₂, arith, drop, false, length, map, not, refl, subst, sym, ◌+◌, ◌∙◌, ◌≡◌, ℕ}
use Rattle.std.specs.Prelude.{bytes_eq, ◌&&◌, ◌||◌}
use Rattle.std.proofs.lemmas.List.{drop_all}
use Rattle.cyc_tree.proofs.PartForms.{array_tree, arrow_tree, dot_tree, index_tree, one_tree}
use Rattle.cyc_tree.specs.Tree.{Array}
use Rattle.cyc_tree.specs.View.{OneSuffix, expression_tree, made_tree, name_tree, suffix_tree}
use Rattle.flow_summaries.specs.Expressions.{uses_made, uses_of}
use Rattle.flow_summaries.specs.Passages.{copied_if, in_turn, repeated}
use Rattle.flow_summaries.specs.Uses.{uses_as_place, uses_as_value}
use Rattle.source_typing.specs.Making.{with_counter}
use Rattle.source_typing.specs.Places.{indexed}
use Rattle.check_faults.specs.Verdicts.{short_both, short_of, shortened}
use Rattle.check_operators.specs.Goals.{goal_in}
use Rattle.check_operators.specs.Values.{value_of}
use Rattle.check_expressions.proofs.Forms.{judged}
use Rattle.check_expressions.proofs.Makings.{made_array as array_short}
use Rattle.check_expressions.specs.Goals.{short_array, short_made, short_one}
use Rattle.check_expressions.specs.Suffixes.{short_suffix, short_suffixes}
use Rattle.check_expressions.specs.Within.{is_counter}
use Rattle.flow_effects.specs.Passed.{passage_of}
use Rattle.flow_effects.specs.declared.used.Usage.TheVariants as usage
use Rattle.flow_check.proofs.SuffixUses.{Rest, after_all, after_arrow, after_dot, after_first, after_index, after_next, looked_is}
use Rattle.flow_check.proofs.Seeing.{SeenAs}
use Rattle.flow_check.proofs.Within.{counter_around}
use Rattle.flow_check.specs.Folded.{all_short_uses}
use Rattle.flow_check.specs.Seen.{IsSeen}
use Rattle.flow_check.specs.Short.{is_unique_short, place_short}
use Rattle.flow_check.proofs.expression.+seen.Goals as goal

pub suffix_after-returns-in_ok-index-in-Index : goal.suffix_after-returns-in_ok-index-in-Index
suffix_after-returns-in_ok-index-in-Index t c = λ g u h used.
    let s = short_of value_of c.args.judged in
    let e = expression_tree c.in-Index.index.value in
    let seen : IsSeen usage.Look (judged g c.in-Index.index.value) (uses_of g e) c.in_ok-index-in-Index.index =
    subst (λ x. IsSeen usage.Look (judged g x) (uses_of g (expression_tree x)) c.in_ok-index-in-Index.index) c.deref.ensures
    (c.in_ok-index-in-Index.ensures g h) in
    let judged_is : short_of value_of c.indexed_parts-judged.result ≡ short_suffix g s (OneSuffix.Index e) =
    c.indexed_parts-judged.ensures g h.scope.sees ∙ ap (λ x. short_both s x (λ a b. shortened (indexed g a b))) seen.judged in
    let pointed_is : passage_of c.pointed.result ≡ in_turn u.look (copied_if (is_unique_short s && not u.whole) (place_short s)) =
    c.pointed.ensures u used ∙ ap (λ n. in_turn u.look (copied_if (is_unique_short s && not u.whole) n)) c.place_of-at.ensures in
    after_index g s (short_of value_of c.indexed_parts-judged.result) u c.of.result (suffix_tree c.args.suffix.now) c.place_of-at.result
    c.is_part-own.result (passage_of c.in_turn-passed.result) e
    (ap (λ x. suffix_tree x) c.in-Index.is ∙ index_tree c.in-Index.index) c.place_of-at.ensures judged_is
    (c.is_part-own.ensures ∙ ap (λ own. own && not (is_unique_short s)) used.own)
    (c.in_turn-passed.ensures ∙ ap₂ in_turn seen.used.passed pointed_is) (c.of.ensures g (passage_of c.in_turn-passed.result) h.scope.sees.tags refl)

pub suffix_after-returns-in_ok-judged-in-Dot : goal.suffix_after-returns-in_ok-judged-in-Dot
suffix_after-returns-in_ok-judged-in-Dot t c = λ g u h used.
    let s = short_of value_of c.args.judged in
    after_dot g s (short_of value_of c.in_ok-judged-in-Dot.judged) u c.of-in-Dot.result (suffix_tree c.args.suffix.now) c.place_of-at.result c.args.used.own
    (passage_of c.args.used.passed) (name_tree c.in-Dot.field) (ap (λ x. suffix_tree x) c.in-Dot.is ∙ dot_tree c.in-Dot.field) c.place_of-at.ensures
    (c.in_ok-judged-in-Dot.ensures g h.scope.sees.tags) used.own used.passed (c.of-in-Dot.ensures g (passage_of c.args.used.passed) h.scope.sees.tags refl)

pub suffix_after-returns-in_ok-judged-in-Arrow : goal.suffix_after-returns-in_ok-judged-in-Arrow
suffix_after-returns-in_ok-judged-in-Arrow t c = λ g u h used.
    let s = short_of value_of c.args.judged in
    after_arrow g s (short_of value_of c.in_ok-judged-in-Arrow.judged) u c.of-in-Arrow.result (suffix_tree c.args.suffix.now) c.place_of-at.result false
    (passage_of c.pointed-passed.result) (name_tree c.in-Arrow.field)
    (ap (λ x. suffix_tree x) c.in-Arrow.is ∙ arrow_tree c.in-Arrow.field) c.place_of-at.ensures
    (c.in_ok-judged-in-Arrow.ensures g h.scope.sees) refl
    (c.pointed-passed.ensures u used ∙ ap (λ n. in_turn u.look (copied_if (is_unique_short s && not u.whole) n)) c.place_of-at.ensures)
    (c.of-in-Arrow.ensures g (passage_of c.pointed-passed.result) h.scope.sees.tags refl)

pub suffixed-each-init : goal.suffixed-each-init
suffixed-each-init t c = λ g s u h seen.
    let known = short_of value_of c.args.primary.judged in
    subst (λ x. Rest g c.in_ok-suffixed.suffixed (map suffix_tree c.in-Some.others.now) (short_suffixes g x (map suffix_tree c.args.suffixes.now))
    (all_short_uses g x u (map suffix_tree c.args.suffixes.now))) seen.judged
    (after_first g known u c.in_ok-suffixed.suffixed c.in-Some.first.now c.in-Some.others.now c.args.suffixes.now
    c.in-Some.ensures.cases.0 (c.in_ok-suffixed.ensures g u h seen.used))

pub suffixed-each-preserved : goal.suffixed-each-preserved
suffixed-each-preserved t c = λ g s u h seen.
    let so_far = c.each.invariant g s u h seen in
    let now = c.each.suffixed in
    after_next g now c.in_ok-suffixed-2.suffixed c.in-Some.others.now c.each.suffix-index c.suffix-item.result
    (short_suffixes g s (map suffix_tree c.args.suffixes.now)) (all_short_uses g s u (map suffix_tree c.args.suffixes.now))
    c.each-test.true c.suffix-item.is so_far
    (c.in_ok-suffixed-2.ensures g (uses_as_place now.at now.moves now.look.own (passage_of now.look.passed)) h (looked_is now so_far.part))

pub suffixed-returns : goal.suffixed-returns
suffixed-returns t c = λ g s u h seen some.
    let now = c.each.suffixed in
    let xs = c.in-Some.others.now in
    let what = short_suffixes g s (map suffix_tree c.args.suffixes.now) in
    let all = all_short_uses g s u (map suffix_tree c.args.suffixes.now) in
    let done : drop c.each.suffix-index xs ≡ [] = drop_all c.each.suffix-index xs (omega (arith, c.each-test.false)) in
    after_all g c.args.how now c.seen.result what all
    (subst (λ ys. Rest g now (map suffix_tree ys) what all) done (c.each.invariant g s u h seen)) c.seen.ensures

pub made-returns-in_ok-value-in-One : goal.made-returns-in_ok-value-in-One
made-returns-in_ok-value-in-One t c = λ g how h.
    let e = c.in-One.value.value in
    let p = passage_of c.args.handle in
    let to = short_of goal_in c.args.goal in
    let found = c.in_ok-value-in-One.value in
    let value : SeenAs g usage.Value (expression_tree e) found =
    subst (λ x. SeenAs g usage.Value (expression_tree x) found) c.deref.ensures (c.in_ok-value-in-One.ensures g h) in
    subst (λ m. IfOk c.made_one.result (IsSeen how (short_made g c.args.at to m) (uses_made g m p)))
    (sym (ap (λ m. made_tree m) c.in-One.is ∙ one_tree c.in-One.value))
    (subst (λ s. IfOk c.made_one.result (IsSeen how (short_one c.args.at to s)
    (uses_as_value (in_turn p (uses_of g (expression_tree e)).value)))) value.judged
    (subst (λ q. IfOk c.made_one.result (IsSeen how
    (short_one c.args.at to (short_of value_of found.judged)) (uses_as_value (in_turn p q))))
    value.used.passed (c.made_one.ensures how)))

pub made-returns-in_ok-element-in-Array : goal.made-returns-in_ok-element-in-Array
made-returns-in_ok-element-in-Array t c = λ g how h.
    let x = name_tree c.in-Array.index in
    let n = expression_tree c.in-Array.count.value in
    let e = expression_tree c.in-Array.element.value in
    let at = c.args.at in
    let p = passage_of c.args.handle in
    let to = short_of goal_in c.args.goal in
    let inner = with_counter x g in
    let more : (y : List ℕ) → is_counter c.as_slice.result.now y ≡ (is_counter c.args.around.counters.now y || bytes_eq x.text y) =
    λ y. ap (λ cs. is_counter cs y) c.as_slice.ensures.value ∙ c.in_ok-counters-in-Array.ensures.found y
    ∙ ap (λ (z : List ℕ). is_counter c.args.around.counters.now y || bytes_eq z y) c.deref-in-Array-2.ensures.value in
    let one : length c.as_slice.result.now ≡ length c.args.around.counters.now + 1 =
    ap (λ cs. length cs) c.as_slice.ensures.value ∙ c.in_ok-counters-in-Array.ensures.one_more in
    let locals : c.in_ok-locals-in-Array.locals ≡ length g.locals = omega (arith, c.in_ok-locals-in-Array.ensures, h.count) in
    let count : SeenAs g usage.Look n c.in_ok-count-in-Array.count =
    subst (λ y. SeenAs g usage.Look (expression_tree y) c.in_ok-count-in-Array.count) c.deref-in-Array.ensures (c.in_ok-count-in-Array.ensures g h) in
    let element : SeenAs inner usage.Value e c.in_ok-element-in-Array.element =
    subst (λ y. SeenAs inner usage.Value (expression_tree y) c.in_ok-element-in-Array.element) c.deref-in-Array-3.ensures
    (c.in_ok-element-in-Array.ensures inner (counter_around _ x h refl more one)) in
    let s = short_of value_of c.in_ok-count-in-Array.count.judged in
    let r = short_of value_of c.in_ok-element-in-Array.element.judged in
    let uses_are : in_turn (in_turn p (passage_of c.in_ok-count-in-Array.count.used.passed))
    (repeated c.in_ok-locals-in-Array.locals (passage_of c.in_ok-element-in-Array.element.used.passed))
    ≡ in_turn (in_turn p (uses_of g n).look) (repeated (length g.locals) (uses_of inner e).value) =
    ap₂ (λ a b. in_turn (in_turn p a) b) count.used.passed (ap₂ repeated locals element.used.passed) in
    subst (λ m. IfOk c.made_array.result (IsSeen how (short_made g at to m) (uses_made g m p)))
    (sym (ap (λ m. made_tree m) c.in-Array.is ∙ array_tree c.in-Array.index c.in-Array.count c.in-Array.element))
    (subst (λ v. IfOk c.made_array.result (IsSeen how v (uses_made g (Array x n e) p))) (array_short g at to x n e s r count.judged element.judged)
    (subst (λ q. IfOk c.made_array.result (IsSeen how (short_array at to s r) (uses_as_value q))) uses_are (c.made_array.ensures how)))
