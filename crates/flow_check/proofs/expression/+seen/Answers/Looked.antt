-- What is looked at.
use Rattle.std.proofs.Common.{IfOk, List, ap, length, map, refl, subst, sym, ◌≤◌, ◌∙◌}
use Rattle.cyc_tree.proofs.Forms.{all_of_tree, any_of_tree, call_tree, chain_tree, suffixed_tree, variable_tree}
use Rattle.cyc_tree.specs.Tree.{Expression}
use Rattle.cyc_tree.specs.View.{expression_tree, expressions_of, link_tree, links_of, name_tree, suffix_tree, suffixes_of}
use Rattle.cyc_tree.specs.declared.expression.Expression as code
use Rattle.cyc_tree.specs.declared.expression.Link as code_link
use Rattle.cyc_tree.specs.declared.expression.Suffix.{Suffix}
use Rattle.flow_summaries.specs.Expressions.{uses_of}
use Rattle.flow_summaries.specs.Uses.{uses_as_value}
use Rattle.source_typing.specs.Expressions.{judge}
use Rattle.check_faults.specs.Verdicts.{short_of, shortened}
use Rattle.check_operators.specs.Values.{value_of}
use Rattle.check_expressions.proofs.Forms.{judged}
use Rattle.check_expressions.specs.Joined.{short_links, short_tests}
use Rattle.check_expressions.specs.Suffixes.{short_suffixes}
use Rattle.flow_effects.specs.Passed.{passage_of}
use Rattle.flow_effects.specs.Used.{IsUsed}
use Rattle.flow_effects.specs.declared.used.Usage.TheVariants as usage
use Rattle.flow_check.proofs.Forms.{some_suffixes, tested_length}
use Rattle.flow_check.proofs.Seeing.{SeenAs, alone_tests, linked_same, seen_told, suffixed_same, tested_same}
use Rattle.flow_check.specs.Folded.{all_short_uses, passed_links, passed_tests}
use Rattle.flow_check.specs.Seen.{IsSeen}
use Rattle.flow_check.proofs.expression.+seen.Goals as goal

pub looked-returns-in_ok-first-in-Suffixed : goal.looked-returns-in_ok-first-in-Suffixed
looked-returns-in_ok-first-in-Suffixed t c = λ g h.
    let e = expression_tree c.in-Suffixed.primary.value in
    let xs = c.in-Suffixed.suffixes.items in
    let whole = Expression.Suffixed e (suffixes_of (map suffix_tree xs)) in
    let first : SeenAs g usage.Look e c.in_ok-first-in-Suffixed.first =
    subst (λ x. SeenAs g usage.Look (expression_tree x) c.in_ok-first-in-Suffixed.first) c.deref-in-Suffixed.ensures (c.in_ok-first-in-Suffixed.ensures g h) in
    let some : 1 ≤ length c.deref-in-Suffixed-2.result.now =
    subst (λ ys. 1 ≤ length ys) (sym c.deref-in-Suffixed-2.ensures.value)
    (some_suffixes xs (tested_length c.in-Suffixed.suffixes c.is_empty.result c.is_empty.ensures ∙ c.if-is_empty.false)) in
    let does_it = λ (ys : List Suffix). IfOk c.suffixed.result (IsSeen usage.Look (short_suffixes g (shortened (judge g e)) (map suffix_tree ys))
    (all_short_uses g (shortened (judge g e)) (uses_of g e) (map suffix_tree ys))) in
    seen_told g usage.Look c.suffixed.result c.args.expression.now whole
    (ap (λ e. expression_tree e) c.in-Suffixed.is ∙ suffixed_tree c.in-Suffixed.primary c.in-Suffixed.suffixes)
    (suffixed_same g usage.Look (λ s u. IfOk c.suffixed.result (IsSeen usage.Look s u)) e xs
    (subst does_it c.deref-in-Suffixed-2.ensures.value (c.suffixed.ensures g (shortened (judge g e)) (uses_of g e) h first some)))

pub looked-returns-else-is_empty-2 : goal.looked-returns-else-is_empty-2
looked-returns-else-is_empty-2 t c = λ g h.
    let e = c.in-Chain.first.value in
    let ls = c.in-Chain.links.items in
    let does_it = λ (y : code.Expression) (xs : List code_link.Link).
    IfOk c.linked.result (IsSeen usage.Look (short_links g (judged g y) (links_of (map link_tree xs)))
    (uses_as_value (passed_links g (uses_of g (expression_tree y)).look (links_of (map link_tree xs))))) in
    seen_told g usage.Look c.linked.result c.args.expression.now (Expression.Chain (expression_tree e) (links_of (map link_tree ls)))
    (ap (λ e. expression_tree e) c.in-Chain.is ∙ chain_tree c.in-Chain.first c.in-Chain.links)
    (linked_same g (λ s u. IfOk c.linked.result (IsSeen usage.Look s u)) e ls (judged g e) (uses_of g (expression_tree e)).look
    (tested_length c.in-Chain.links c.is_empty-in-Chain.result c.is_empty-in-Chain.ensures ∙ c.if-is_empty-2.false) refl refl
    (subst (λ y. does_it y ls) c.deref-in-Chain.ensures
    (subst (does_it c.deref-in-Chain.result.now) c.deref-in-Chain-2.ensures.value (c.linked.ensures g usage.Look h))))

pub looked-returns-in-Call : goal.looked-returns-in-Call
looked-returns-in-Call t c = λ g h.
    let x = name_tree c.in-Call.name in
    let es = c.in-Call.arguments.items in
    seen_told g usage.Look c.called.result c.args.expression.now (Expression.Call x (expressions_of (map expression_tree es)))
    (ap (λ e. expression_tree e) c.in-Call.is ∙ call_tree c.in-Call.name c.in-Call.arguments)
    (subst (λ (xs : List code.Expression). IfOk c.called.result (SeenAs g usage.Look (Expression.Call x (expressions_of (map expression_tree xs)))))
    c.deref-in-Call.ensures.value (c.called.ensures g usage.Look h))

pub looked-returns-in_ok-used-in-Variable : goal.looked-returns-in_ok-used-in-Variable
looked-returns-in_ok-used-in-Variable t c = λ g h. record {
  judged = c.in_ok-judged-in-Variable.ensures g h.scope;
  used = subst (λ e. IsUsed usage.Look (uses_of g e) c.in_ok-used-in-Variable.used)
      (sym (ap (λ e. expression_tree e) c.in-Variable.is ∙ variable_tree c.in-Variable.name)) (c.in_ok-used-in-Variable.ensures g h);
}

pub looked-returns-then-is_empty-3 : goal.looked-returns-then-is_empty-3
looked-returns-then-is_empty-3 t c = λ g h.
    let e = expression_tree c.in-AllOf.first.value in
    let es = c.in-AllOf.others.items in
    seen_told g usage.Look c.looked-then-is_empty-3.result c.args.expression.now (Expression.AllOf e (expressions_of (map expression_tree es)))
    (ap (λ e. expression_tree e) c.in-AllOf.is ∙ all_of_tree c.in-AllOf.first c.in-AllOf.others)
    (alone_tests g usage.Look c.looked-then-is_empty-3.result e es
    (tested_length c.in-AllOf.others c.is_empty-in-AllOf.result c.is_empty-in-AllOf.ensures ∙ c.if-is_empty-3.true)
    (subst (λ x. IfOk c.looked-then-is_empty-3.result (SeenAs g usage.Look (expression_tree x))) c.deref-then-is_empty-3.ensures
    (c.looked-then-is_empty-3.ensures g h)))

pub looked-returns-else-is_empty-3 : goal.looked-returns-else-is_empty-3
looked-returns-else-is_empty-3 t c = λ g h.
    let e = c.in-AllOf.first.value in
    let es = c.in-AllOf.others.items in
    let does_it = λ (y : code.Expression) (xs : List code.Expression). IfOk c.all_tested.result (IsSeen usage.Look
    (short_tests g (judged g y) (expressions_of (map expression_tree xs)))
    (uses_as_value (passed_tests g (uses_of g (expression_tree y)).look (expressions_of (map expression_tree xs))))) in
    seen_told g usage.Look c.all_tested.result c.args.expression.now (Expression.AllOf (expression_tree e) (expressions_of (map expression_tree es)))
    (ap (λ e. expression_tree e) c.in-AllOf.is ∙ all_of_tree c.in-AllOf.first c.in-AllOf.others)
    (tested_same g (λ s u. IfOk c.all_tested.result (IsSeen usage.Look s u)) e es (judged g e) (uses_of g (expression_tree e)).look
    (tested_length c.in-AllOf.others c.is_empty-in-AllOf.result c.is_empty-in-AllOf.ensures ∙ c.if-is_empty-3.false) refl refl
    (subst (λ y. does_it y es) c.deref-in-AllOf.ensures
    (subst (does_it c.deref-in-AllOf.result.now) c.deref-in-AllOf-2.ensures.value (c.all_tested.ensures g usage.Look h))))

pub looked-returns-then-is_empty-4 : goal.looked-returns-then-is_empty-4
looked-returns-then-is_empty-4 t c = λ g h.
    let e = expression_tree c.in-AnyOf.first.value in
    let es = c.in-AnyOf.others.items in
    seen_told g usage.Look c.looked-then-is_empty-4.result c.args.expression.now (Expression.AnyOf e (expressions_of (map expression_tree es)))
    (ap (λ e. expression_tree e) c.in-AnyOf.is ∙ any_of_tree c.in-AnyOf.first c.in-AnyOf.others)
    (alone_tests g usage.Look c.looked-then-is_empty-4.result e es
    (tested_length c.in-AnyOf.others c.is_empty-in-AnyOf.result c.is_empty-in-AnyOf.ensures ∙ c.if-is_empty-4.true)
    (subst (λ x. IfOk c.looked-then-is_empty-4.result (SeenAs g usage.Look (expression_tree x))) c.deref-then-is_empty-4.ensures
    (c.looked-then-is_empty-4.ensures g h)))

pub looked-returns-else-is_empty-4 : goal.looked-returns-else-is_empty-4
looked-returns-else-is_empty-4 t c = λ g h.
    let e = c.in-AnyOf.first.value in
    let es = c.in-AnyOf.others.items in
    let does_it = λ (y : code.Expression) (xs : List code.Expression). IfOk c.all_tested-in-AnyOf.result (IsSeen usage.Look
    (short_tests g (judged g y) (expressions_of (map expression_tree xs)))
    (uses_as_value (passed_tests g (uses_of g (expression_tree y)).look (expressions_of (map expression_tree xs))))) in
    seen_told g usage.Look c.all_tested-in-AnyOf.result c.args.expression.now (Expression.AnyOf (expression_tree e) (expressions_of (map expression_tree es)))
    (ap (λ e. expression_tree e) c.in-AnyOf.is ∙ any_of_tree c.in-AnyOf.first c.in-AnyOf.others)
    (tested_same g (λ s u. IfOk c.all_tested-in-AnyOf.result (IsSeen usage.Look s u)) e es (judged g e) (uses_of g (expression_tree e)).look
    (tested_length c.in-AnyOf.others c.is_empty-in-AnyOf.result c.is_empty-in-AnyOf.ensures ∙ c.if-is_empty-4.false) refl refl
    (subst (λ y. does_it y es) c.deref-in-AnyOf.ensures
    (subst (does_it c.deref-in-AnyOf.result.now) c.deref-in-AnyOf-2.ensures.value (c.all_tested-in-AnyOf.ensures g usage.Look h))))
