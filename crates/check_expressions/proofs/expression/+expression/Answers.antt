use Rattle.std.proofs.Common.{◌≡◌, ◌∙◌, IfOk, List, [], ap, arith, drop, map, refl, subst, sym, ℕ}
use Rattle.std.specs.Prelude.{bytes_eq, ◌||◌}
use Rattle.std.proofs.lemmas.List.{drop_all}
use Rattle.source_typing.specs.Calls.{target}
use Rattle.cyc_tree.specs.Tree.{Array, Expression}
use Rattle.cyc_tree.proofs.Forms.{
  all_of_tree,
  any_of_tree,
  assign_tree,
  call_tree,
  chain_tree,
  make_union_tree,
  new_in_tree,
  new_tree,
  prefixed_tree,
  suffixed_tree,
}
use Rattle.cyc_tree.proofs.PartForms.{array_tree}
use Rattle.cyc_tree.specs.View.{expression_tree, expressions_of, link_tree, links_of, made_tree, name_tree, suffix_tree, suffixes_of}
use Rattle.source_meaning.specs.Expressions.{is_unique_region}
use Rattle.source_typing.specs.Expressions.{judge}
use Rattle.source_typing.specs.Making.{enclosed, inside, with_counter}
use Rattle.source_typing.specs.Operators.{applied}
use Rattle.source_typing.specs.Scope.{meant}
use Rattle.check_faults.specs.Verdicts.{Is, short_both, short_of, shortened}
use Rattle.check_operators.specs.Goals.{goal_in}
use Rattle.check_operators.specs.Values.{value_of}
use Rattle.check_calls.specs.Enclosings.{enclosing_of}
use Rattle.check_expressions.specs.Joined.{values_of}
use Rattle.check_expressions.specs.Goals.{enclosed_short, short_made}
use Rattle.check_expressions.specs.Within.{is_counter}
use Rattle.check_expressions.proofs.Makings.{enclosed_is, goal_is, handle_goal, made_array, new_in_is, new_is}
use Rattle.check_expressions.proofs.SuffixForms.{suffixed_is, suffixes_from}
use Rattle.check_expressions.proofs.Within.{counter_around, inside_goal}
use Rattle.check_expressions.proofs.Forms.{
  answers,
  assigned_is,
  call_is,
  chain_is,
  given_from,
  links_from,
  judged,
  links_step,
  of_form,
  prefixed_is,
  tests_from,
  tests_is,
  union_is,
}
use Rattle.check_expressions.proofs.expression.+expression.Goals as goal

pub judge_inside-returns-in-Call : goal.judge_inside-returns-in-Call
judge_inside-returns-in-Call t c = λ g h.
    of_form g c.judge_call.result c.args.expression.now
    (Expression.Call (name_tree c.in-Call.name) (expressions_of (map expression_tree c.in-Call.arguments.items)))
    (ap (λ e. expression_tree e) c.in-Call.is ∙ call_tree c.in-Call.name c.in-Call.arguments)
    (subst (λ es. IfOk c.judge_call.result
    (λ v. short_of value_of v ≡ shortened (judge g (Expression.Call (name_tree c.in-Call.name) (expressions_of (map expression_tree es))))))
    c.deref-in-Call.ensures.value (c.judge_call.ensures g h))

pub judge_inside-returns-in_ok-operand-in-Prefixed : goal.judge_inside-returns-in_ok-operand-in-Prefixed
judge_inside-returns-in_ok-operand-in-Prefixed t c = λ g h.
    of_form g c.prefixed_part.result c.args.expression.now
    (Expression.Prefixed c.in-Prefixed.at c.in-Prefixed.operator (expression_tree c.in-Prefixed.operand.value))
    (ap (λ e. expression_tree e) c.in-Prefixed.is ∙ prefixed_tree c.in-Prefixed.at c.in-Prefixed.operator c.in-Prefixed.operand)
    (answers g c.prefixed_part.result _ _
    (prefixed_is g c.in-Prefixed.at c.in-Prefixed.operator c.in-Prefixed.operand.value (short_of value_of c.in_ok-operand-in-Prefixed.operand)
    (c.in_ok-operand-in-Prefixed.ensures g h ∙ ap (λ e. judged g e) c.deref-in-Prefixed.ensures)) (c.prefixed_part.ensures g h.sees))

pub judge_inside-returns-in_ok-from-in-Assign : goal.judge_inside-returns-in_ok-from-in-Assign
judge_inside-returns-in_ok-from-in-Assign t c = λ g h.
    of_form g c.assigned_parts.result c.args.expression.now
    (Expression.Assign (expression_tree c.in-Assign.to.value) (expression_tree c.in-Assign.from.value))
    (ap (λ e. expression_tree e) c.in-Assign.is ∙ assign_tree c.in-Assign.to c.in-Assign.from)
    (answers g c.assigned_parts.result _ _
    (assigned_is g c.in-Assign.to.value c.in-Assign.from.value (short_of value_of c.in_ok-to-in-Assign.to) (short_of value_of c.in_ok-from-in-Assign.from)
    (c.in_ok-to-in-Assign.ensures g h ∙ ap (λ e. judged g e) c.deref-in-Assign.ensures)
    (c.in_ok-from-in-Assign.ensures g h ∙ ap (λ e. judged g e) c.deref-in-Assign-2.ensures)) (c.assigned_parts.ensures g h.sees))

pub judge_inside-returns-in_ok-judged-in-Chain : goal.judge_inside-returns-in_ok-judged-in-Chain
judge_inside-returns-in_ok-judged-in-Chain t c = λ g h.
    let first = c.in-Chain.first.value in
    let links = c.in-Chain.links.items in
    of_form g c.judge_links.result c.args.expression.now (Expression.Chain (expression_tree first) (links_of (map link_tree links)))
    (ap (λ e. expression_tree e) c.in-Chain.is ∙ chain_tree c.in-Chain.first c.in-Chain.links)
    (answers g c.judge_links.result _ _
    (chain_is g first links (short_of value_of c.in_ok-judged-in-Chain.judged)
    (c.in_ok-judged-in-Chain.ensures g h ∙ ap (λ e. judged g e) c.deref-in-Chain.ensures))
    (subst (λ es. IfOk c.judge_links.result (λ v. short_of value_of v ≡ links_from g (short_of value_of c.in_ok-judged-in-Chain.judged) es))
    c.deref-in-Chain-2.ensures.value (c.judge_links.ensures g h)))

pub judge_inside-returns-in_ok-judged-in-AllOf : goal.judge_inside-returns-in_ok-judged-in-AllOf
judge_inside-returns-in_ok-judged-in-AllOf t c = λ g h.
    let first = c.in-AllOf.first.value in
    let others = c.in-AllOf.others.items in
    of_form g c.judge_tests.result c.args.expression.now (Expression.AllOf (expression_tree first) (expressions_of (map expression_tree others)))
    (ap (λ e. expression_tree e) c.in-AllOf.is ∙ all_of_tree c.in-AllOf.first c.in-AllOf.others)
    (answers g c.judge_tests.result _ _
    (tests_is g first others (short_of value_of c.in_ok-judged-in-AllOf.judged)
    (c.in_ok-judged-in-AllOf.ensures g h ∙ ap (λ e. judged g e) c.deref-in-AllOf.ensures))
    (subst (λ es. IfOk c.judge_tests.result (λ v. short_of value_of v ≡ tests_from g (short_of value_of c.in_ok-judged-in-AllOf.judged) es))
    c.deref-in-AllOf-2.ensures.value (c.judge_tests.ensures g h)))

pub judge_inside-returns-in_ok-judged-in-AnyOf : goal.judge_inside-returns-in_ok-judged-in-AnyOf
judge_inside-returns-in_ok-judged-in-AnyOf t c = λ g h.
    let first = c.in-AnyOf.first.value in
    let others = c.in-AnyOf.others.items in
    of_form g c.judge_tests-in-AnyOf.result c.args.expression.now (Expression.AnyOf (expression_tree first) (expressions_of (map expression_tree others)))
    (ap (λ e. expression_tree e) c.in-AnyOf.is ∙ any_of_tree c.in-AnyOf.first c.in-AnyOf.others)
    (answers g c.judge_tests-in-AnyOf.result _ _
    (tests_is g first others (short_of value_of c.in_ok-judged-in-AnyOf.judged)
    (c.in_ok-judged-in-AnyOf.ensures g h ∙ ap (λ e. judged g e) c.deref-in-AnyOf.ensures))
    (subst (λ es. IfOk c.judge_tests-in-AnyOf.result (λ v. short_of value_of v ≡ tests_from g (short_of value_of c.in_ok-judged-in-AnyOf.judged) es))
    c.deref-in-AnyOf-2.ensures.value (c.judge_tests-in-AnyOf.ensures g h)))

pub judge_call-returns : goal.judge_call-returns
judge_call-returns t c = λ g h.
    let arguments = c.args.arguments.now in
    let name = name_tree c.args.name.now in
    let done : drop c.each.argument-index arguments ≡ [] = drop_all c.each.argument-index arguments (omega (arith, c.each-test.false)) in
    let given : short_of (λ vs. values_of vs.items) c.each.given ≡ given_from g (Is []) arguments =
    ap (λ es. given_from g (short_of (λ vs. values_of vs.items) c.each.given) es) (sym done) ∙ c.each.invariant g h in
    answers g c.call_part.result _ _
    (call_is g name arguments (shortened (target name.at (meant g name.text))) (short_of (λ vs. values_of vs.items) c.each.given) refl given)
    (c.call_part.ensures g h)

pub judge_links-each-preserved : goal.judge_links-each-preserved
judge_links-each-preserved t c = λ g h.
    links_step g c.args.links.now c.each.link-index c.link-item.result (short_of value_of c.each.judged) (short_of value_of c.in_ok-judged.judged)
    c.each-test.true c.link-item.is
    (c.in_ok-judged.ensures g h.sees
    ∙ ap (λ s. short_both (short_of value_of c.each.judged) s (λ a b. shortened (applied g c.link-item.result.operator a b)))
    (c.in_ok-operand.ensures g h))
    ∙ c.each.invariant g h

pub judge_inside-returns-in_ok-judged-in-Suffixed : goal.judge_inside-returns-in_ok-judged-in-Suffixed
judge_inside-returns-in_ok-judged-in-Suffixed t c = λ g h.
    let primary = c.in-Suffixed.primary.value in
    let suffixes = c.in-Suffixed.suffixes.items in
    of_form g c.judge_suffixes.result c.args.expression.now
    (Expression.Suffixed (expression_tree primary) (suffixes_of (map suffix_tree suffixes)))
    (ap (λ e. expression_tree e) c.in-Suffixed.is ∙ suffixed_tree c.in-Suffixed.primary c.in-Suffixed.suffixes)
    (answers g c.judge_suffixes.result _ _
    (suffixed_is g (expression_tree primary) suffixes (short_of value_of c.in_ok-judged-in-Suffixed.judged)
    (c.in_ok-judged-in-Suffixed.ensures g h ∙ ap (λ e. judged g e) c.deref-in-Suffixed.ensures))
    (subst (λ xs. IfOk c.judge_suffixes.result (λ v. short_of value_of v ≡ suffixes_from g (short_of value_of c.in_ok-judged-in-Suffixed.judged) xs))
    c.deref-in-Suffixed-2.ensures.value (c.judge_suffixes.ensures g h)))

pub judge_inside-returns-in_ok-value-in-MakeUnion : goal.judge_inside-returns-in_ok-value-in-MakeUnion
judge_inside-returns-in_ok-value-in-MakeUnion t c = λ g h.
    let tag = name_tree c.in-MakeUnion.tag in
    let field = name_tree c.in-MakeUnion.field in
    let value = c.in-MakeUnion.value.value in
    of_form g c.union_parts.result c.args.expression.now (Expression.MakeUnion tag field (expression_tree value))
    (ap (λ e. expression_tree e) c.in-MakeUnion.is ∙ make_union_tree c.in-MakeUnion.tag c.in-MakeUnion.field c.in-MakeUnion.value)
    (answers g c.union_parts.result _ _
    (union_is g tag field value (short_of value_of c.in_ok-value-in-MakeUnion.value)
    (c.in_ok-value-in-MakeUnion.ensures g h ∙ ap (λ e. judged g e) c.deref-in-MakeUnion.ensures)) (c.union_parts.ensures g h))

pub judge_inside-returns-in-New : goal.judge_inside-returns-in-New
judge_inside-returns-in-New t c = λ g h.
    of_form g c.judge_made.result c.args.expression.now (Expression.New c.in-New.at (made_tree c.in-New.new))
    (ap (λ e. expression_tree e) c.in-New.is ∙ new_tree c.in-New.at c.in-New.new)
    (answers g c.judge_made.result _ _ (new_is g c.in-New.at (made_tree c.in-New.new)) (c.judge_made.ensures g h))

pub judge_inside-returns-in_ok-handle-in-NewIn : goal.judge_inside-returns-in_ok-handle-in-NewIn
judge_inside-returns-in_ok-handle-in-NewIn t c = λ g h.
    let at = c.in-NewIn.at in
    let handle = c.in-NewIn.handle.value in
    let new = made_tree c.in-NewIn.new in
    let to = handle_goal g (expression_tree handle) in
    let goal_known : short_of goal_in c.goal_part-goal.result ≡ shortened to =
    c.goal_part-goal.ensures g h.sees
    ∙ goal_is g handle c.is_unique_region-is_unique.result (short_of value_of c.in_ok-handle-in-NewIn.handle)
    (c.is_unique_region-is_unique.ensures ∙ ap (λ e. is_unique_region (expression_tree e)) c.deref-in-NewIn.ensures)
    (c.in_ok-handle-in-NewIn.ensures g h ∙ ap (λ e. judged g e) c.deref-in-NewIn-2.ensures) in
    let inside_known : enclosed to ≡ enclosing_of c.inside.result.enclosing =
    enclosed_is to ∙ ap enclosed_short (sym goal_known) ∙ sym c.inside.ensures.enclosing in
    of_form g c.judge_made-in-NewIn.result c.args.expression.now (Expression.NewIn at (expression_tree handle) new)
    (ap (λ e. expression_tree e) c.in-NewIn.is ∙ new_in_tree at c.in-NewIn.handle c.in-NewIn.new)
    (answers g c.judge_made-in-NewIn.result _ _ (new_in_is g at (expression_tree handle) new (short_of goal_in c.goal_part-goal.result) goal_known)
    (c.judge_made-in-NewIn.ensures (inside to g) (inside_goal c.inside.result to h c.inside.ensures.counters inside_known)))

pub judge_made-returns-in_ok-element-in-Array : goal.judge_made-returns-in_ok-element-in-Array
judge_made-returns-in_ok-element-in-Array t c = λ g h.
    let at = c.args.at in
    let x = name_tree c.in-Array.index in
    let count = c.in-Array.count.value in
    let element = c.in-Array.element.value in
    let to = short_of goal_in c.args.goal in
    let more : (y : List ℕ) → is_counter c.as_slice.result.now y ≡ (is_counter c.args.around.counters.now y || bytes_eq x.text y) =
    λ y. ap (λ cs. is_counter cs y) c.as_slice.ensures.value ∙ c.in_ok-counters-in-Array.ensures.found y
    ∙ ap (λ (z : List ℕ). is_counter c.args.around.counters.now y || bytes_eq z y) c.deref-in-Array-2.ensures.value in
    let is : made_tree c.args.new.now ≡ Array x (expression_tree count) (expression_tree element) =
    ap (λ m. made_tree m) c.in-Array.is ∙ array_tree c.in-Array.index c.in-Array.count c.in-Array.element in
    answers g c.array_parts.result _ _
    (made_array g at to x (expression_tree count) (expression_tree element) (short_of value_of c.in_ok-count-in-Array.count)
    (short_of value_of c.in_ok-element-in-Array.element)
    (c.in_ok-count-in-Array.ensures g h ∙ ap (λ e. judged g e) c.deref-in-Array.ensures)
    (c.in_ok-element-in-Array.ensures (with_counter x g) (counter_around _ x h refl more)
    ∙ ap (λ e. judged (with_counter x g) e) c.deref-in-Array-3.ensures)
    ∙ ap (λ m. short_made g at to m) (sym is)) c.array_parts.ensures
