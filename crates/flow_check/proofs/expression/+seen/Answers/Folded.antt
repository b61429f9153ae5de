-- Parts one after another: what they are, and what they do.
use Rattle.std.proofs.Common.{IfOk, [], ap, arith, drop, map, subst, sym, ◌∙◌, ◌≡◌}
use Rattle.std.proofs.lemmas.List.{drop_all}
use Rattle.cyc_tree.specs.View.{expression_tree, expressions_of, link_tree, links_of, name_tree}
use Rattle.flow_summaries.specs.Passages.{in_turn, in_turn_or_not}
use Rattle.flow_summaries.specs.Expressions.{uses_of}
use Rattle.flow_summaries.specs.Uses.{uses_as_value}
use Rattle.source_typing.specs.Operators.{applied, tested_both}
use Rattle.check_faults.specs.Verdicts.{short_both, short_of, shortened}
use Rattle.check_operators.specs.Values.{value_of}
use Rattle.check_expressions.proofs.Forms.{given_from, given_step, links_from, tests_from}
use Rattle.check_expressions.proofs.Forms as judging
use Rattle.check_expressions.specs.Joined.{one_more, values_of}
use Rattle.flow_effects.specs.Passed.{passage_of}
use Rattle.flow_check.proofs.Seeing.{call_same}
use Rattle.flow_check.proofs.Steps.{all_step, links_step, tests_step}
use Rattle.flow_check.specs.Folded.{passed_all, passed_links, passed_tests}
use Rattle.flow_check.specs.Seen.{IsSeen}
use Rattle.flow_check.proofs.expression.+seen.Goals as goal

pub linked-each-init : goal.linked-each-init
linked-each-init t c = λ g h.
    let ls = c.args.links.now in
    let first = c.in_ok-found.ensures g h in
    record {
      judged = ap (λ s. links_from g s ls) first.judged;
      passed = ap (λ p. passed_links g p (links_of (map link_tree ls))) first.used.passed;
    }

pub linked-each-preserved : goal.linked-each-preserved
linked-each-preserved t c = λ g h.
    let so_far = c.each.found in
    let next = c.in_ok-found-2.found in
    let operand = c.in_ok-operand.ensures g h in
    record {
      judged = judging.links_step g c.args.links.now c.each.link-index c.link-item.result (short_of value_of so_far.judged) (short_of value_of next.judged)
          c.each-test.true c.link-item.is
          (c.in_ok-found-2.ensures.judged g h.scope.sees
          ∙ ap (λ s. short_both (short_of value_of so_far.judged) s (λ a b. shortened (applied g c.link-item.result.operator a b))) operand.judged)
          ∙ (c.each.invariant g h).judged;
      passed = links_step g c.args.links.now c.each.link-index c.link-item.result (passage_of so_far.used.passed) (passage_of next.used.passed)
          c.each-test.true c.link-item.is (c.in_ok-found-2.ensures.passed ∙ ap (λ p. in_turn (passage_of so_far.used.passed) p) operand.used.passed)
          ∙ (c.each.invariant g h).passed;
    }

pub linked-returns : goal.linked-returns
linked-returns t c = λ g how h.
    let ls = c.args.links.now in
    let done : drop c.each.link-index ls ≡ [] = drop_all c.each.link-index ls (omega (arith, c.each-test.false)) in
    let all = c.each.invariant g h in
    subst (λ s. IsSeen how s (uses_as_value (passed_links g (uses_of g (expression_tree c.args.first.now)).look (links_of (map link_tree ls))))
    c.as_value.result)
    (ap (λ xs. links_from g (short_of value_of c.each.found.judged) xs) (sym done) ∙ all.judged)
    (c.as_value.ensures how (passed_links g (uses_of g (expression_tree c.args.first.now)).look (links_of (map link_tree ls)))
    (ap (λ xs. passed_links g (passage_of c.each.found.used.passed) (links_of (map link_tree xs))) (sym done) ∙ all.passed))

pub all_tested-each-init : goal.all_tested-each-init
all_tested-each-init t c = λ g h.
    let es = c.args.others.now in
    let first = c.in_ok-found.ensures g h in
    record {
      judged = ap (λ s. tests_from g s es) first.judged;
      passed = ap (λ p. passed_tests g p (expressions_of (map expression_tree es))) first.used.passed;
    }

pub all_tested-each-preserved : goal.all_tested-each-preserved
all_tested-each-preserved t c = λ g h.
    let so_far = c.each.found in
    let next = c.tested-found.result in
    let operand = c.in_ok-operand.ensures g h in
    record {
      judged = judging.tests_step g c.args.others.now c.each.expression-index c.expression-item.result (short_of value_of so_far.judged)
          (short_of value_of next.judged) c.each-test.true c.expression-item.is
          (c.tested-found.ensures.judged ∙ ap (λ s. short_both (short_of value_of so_far.judged) s (λ a b. shortened (tested_both a b))) operand.judged)
          ∙ (c.each.invariant g h).judged;
      passed = tests_step g c.args.others.now c.each.expression-index c.expression-item.result (passage_of so_far.used.passed) (passage_of next.used.passed)
          c.each-test.true c.expression-item.is (c.tested-found.ensures.passed ∙ ap (λ p. in_turn_or_not (passage_of so_far.used.passed) p) operand.used.passed)
          ∙ (c.each.invariant g h).passed;
    }

pub all_tested-returns : goal.all_tested-returns
all_tested-returns t c = λ g how h.
    let es = c.args.others.now in
    let done : drop c.each.expression-index es ≡ [] = drop_all c.each.expression-index es (omega (arith, c.each-test.false)) in
    let all = c.each.invariant g h in
    subst (λ s. IsSeen how s (uses_as_value (passed_tests g (uses_of g (expression_tree c.args.first.now)).look (expressions_of (map expression_tree es))))
    c.as_value.result)
    (ap (λ xs. tests_from g (short_of value_of c.each.found.judged) xs) (sym done) ∙ all.judged)
    (c.as_value.ensures how (passed_tests g (uses_of g (expression_tree c.args.first.now)).look (expressions_of (map expression_tree es)))
    (ap (λ xs. passed_tests g (passage_of c.each.found.used.passed) (expressions_of (map expression_tree xs))) (sym done) ∙ all.passed))

pub called-each-init : goal.called-each-init
called-each-init t c = λ g h.
    let es = c.args.arguments.now in
    record {
      values = ap (λ s. given_from g s es) c.none-given.ensures.values;
      passed = ap (λ p. passed_all g p (expressions_of (map expression_tree es))) c.none-given.ensures.passed;
    }

pub called-each-preserved : goal.called-each-preserved
called-each-preserved t c = λ g h.
    let so_far = c.each.given in
    let next = c.in_ok-given.given in
    let argument = c.in_ok-argument.ensures g h in
    record {
      values = given_step g c.args.arguments.now c.each.argument-index c.argument-item.result (short_of (λ vs. values_of vs.items) so_far.values)
          (short_of (λ vs. values_of vs.items) next.values) c.each-test.true c.argument-item.is
          (c.in_ok-given.ensures.values ∙ ap (λ s. short_both (short_of (λ vs. values_of vs.items) so_far.values) s one_more) argument.judged)
          ∙ (c.each.invariant g h).values;
      passed = all_step g c.args.arguments.now c.each.argument-index c.argument-item.result (passage_of so_far.passed) (passage_of next.passed)
          c.each-test.true c.argument-item.is (c.in_ok-given.ensures.passed ∙ ap (λ p. in_turn (passage_of so_far.passed) p) argument.used.passed)
          ∙ (c.each.invariant g h).passed;
    }

pub called-returns : goal.called-returns
called-returns t c = λ g how h.
    let es = c.args.arguments.now in
    let given = c.each.given in
    let done : drop c.each.argument-index es ≡ [] = drop_all c.each.argument-index es (omega (arith, c.each-test.false)) in
    let all = c.each.invariant g h in
    call_same g (λ s u. IfOk c.call.result (IsSeen how s u)) (name_tree c.args.name.now) es (short_of (λ vs. values_of vs.items) given.values)
    (passage_of given.passed)
    (ap (λ xs. given_from g (short_of (λ vs. values_of vs.items) given.values) xs) (sym done) ∙ all.values)
    (ap (λ xs. passed_all g (passage_of given.passed) (expressions_of (map expression_tree xs))) (sym done) ∙ all.passed)
    (c.call.ensures g how h.scope)
