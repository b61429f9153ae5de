mod Folded
mod Looked
mod Suffixes
use Rattle.std.proofs.Common.{IfOk, List, [], ap, ap₂, inl, inr, length, map, refl, subst, sym, ◌≤◌, ◌∙◌, ◌≡◌}
use Rattle.cyc_tree.proofs.Forms.{all_of_tree, any_of_tree, assign_tree, call_tree, chain_tree, character_tree, grouped_tree, heap_region_tree}
use Rattle.cyc_tree.proofs.Forms.{make_union_tree, new_in_tree, new_tree, null_tree, num_elts_tree, number_tree, prefixed_tree, suffixed_tree, text_tree}
use Rattle.cyc_tree.proofs.Forms.{unique_region_tree, variable_tree}
use Rattle.cyc_tree.specs.Tree.{Expression}
use Rattle.cyc_tree.specs.View.{expression_tree, expressions_of, link_tree, links_of, made_tree, name_tree, suffix_tree, suffixes_of}
use Rattle.cyc_tree.specs.declared.expression.Expression as code
use Rattle.cyc_tree.specs.declared.expression.Link as code_link
use Rattle.cyc_tree.specs.declared.expression.Suffix.{Suffix}
use Rattle.flow_summaries.specs.Expressions.{uses_made, uses_of}
use Rattle.flow_summaries.specs.Passages.{in_turn, unchanged}
use Rattle.flow_summaries.specs.Uses.{uses_as_value}
use Rattle.source_meaning.specs.Expressions.{is_unique_region}
use Rattle.source_typing.specs.Calls.{union_made, union_tag}
use Rattle.source_typing.specs.Expressions.{judge}
use Rattle.source_typing.specs.Making.{To, enclosed, inside}
use Rattle.source_typing.specs.Operators.{counted}
use Rattle.source_typing.specs.Places.{assigned, grouped}
use Rattle.source_typing.specs.Regions.{TheHeap}
use Rattle.source_typing.specs.Scope.{meant}
use Rattle.check_faults.proofs.Shortened.{shortened_after}
use Rattle.check_faults.specs.Verdicts.{Is, short_after, short_both, short_of, shortened}
use Rattle.check_operators.specs.Goals.{goal_in}
use Rattle.check_operators.specs.Values.{value_of}
use Rattle.check_calls.specs.Enclosings.{enclosing_of}
use Rattle.check_expressions.proofs.Forms.{assigned_is, counted_is, judged, union_is}
use Rattle.check_expressions.proofs.Makings.{enclosed_is, goal_is, handle_goal, new_in_is, new_is}
use Rattle.check_expressions.specs.Goals.{enclosed_short, short_made}
use Rattle.check_expressions.specs.Joined.{short_links, short_tests}
use Rattle.check_expressions.specs.Suffixes.{short_suffixes}
use Rattle.flow_effects.specs.Passed.{passage_of}
use Rattle.flow_effects.specs.Used.{IsUsed}
use Rattle.flow_effects.specs.declared.used.Usage.TheVariants as usage
use Rattle.flow_check.proofs.Forms.{some_suffixes, tested_length}
use Rattle.flow_check.proofs.PrefixUses.{look_alone}
use Rattle.flow_check.proofs.Seeing.{SeenAs, alone_chain, alone_seen, alone_tests, idle_form, linked_same, seen_told, suffixed_same, tested_same}
use Rattle.flow_check.proofs.Within.{inside_goal}
use Rattle.flow_check.specs.Folded.{all_short_uses, passed_links, passed_tests}
use Rattle.flow_check.specs.Seen.{IsSeen}
use Rattle.flow_check.proofs.expression.+seen.Answers.Folded as Folded
use Rattle.flow_check.proofs.expression.+seen.Answers.Looked as Looked
use Rattle.flow_check.proofs.expression.+seen.Answers.Suffixes as Suffixes
use Rattle.flow_check.proofs.expression.+seen.Goals as goal

-- ---- forms without parts

pub seen-returns-in_ok-judged-in-Number : goal.seen-returns-in_ok-judged-in-Number
seen-returns-in_ok-judged-in-Number t c = λ g h.
    let e = c.args.expression.now in
    let idle : uses_of g (expression_tree e) ≡ uses_as_value unchanged = elim c.in-Number.is [
      | inl w ↦ idle_form g e (Expression.Number w.0 w.1 w.2) (ap expression_tree w.3 ∙ number_tree w.0 w.1 w.2) refl
      | inr (inl w) ↦ idle_form g e (Expression.Character w.0 w.1) (ap expression_tree w.2 ∙ character_tree w.0 w.1) refl
      | inr (inr (inl w)) ↦ idle_form g e (Expression.Text w.0 w.1.items) (ap expression_tree w.2 ∙ text_tree w.0 w.1) refl
      | inr (inr (inr (inl w))) ↦ idle_form g e (Expression.Null w.0) (ap expression_tree w.1 ∙ null_tree w.0) refl
      | inr (inr (inr (inr (inl w)))) ↦ idle_form g e (Expression.HeapRegion w.0) (ap expression_tree w.1 ∙ heap_region_tree w.0) refl
      | inr (inr (inr (inr (inr w)))) ↦ idle_form g e (Expression.UniqueRegion w.0) (ap expression_tree w.1 ∙ unique_region_tree w.0) refl
    ] in
    record {
      judged = c.in_ok-judged-in-Number.ensures g h.scope;
      used = subst (λ u. IsUsed c.args.how u c.idle-used.result) (sym idle) (c.idle-used.ensures c.args.how);
    }

pub seen-returns-in_ok-used-in-Variable : goal.seen-returns-in_ok-used-in-Variable
seen-returns-in_ok-used-in-Variable t c = λ g h. record {
  judged = c.in_ok-judged-in-Variable.ensures g h.scope;
  used = subst (λ e. IsUsed c.args.how (uses_of g e) c.in_ok-used-in-Variable.used)
      (sym (ap (λ e. expression_tree e) c.in-Variable.is ∙ variable_tree c.in-Variable.name)) (c.in_ok-used-in-Variable.ensures g h);
}

-- ---- forms with parts

pub seen-returns-in_ok-inner-in-Grouped : goal.seen-returns-in_ok-inner-in-Grouped
seen-returns-in_ok-inner-in-Grouped t c = λ g h.
    let at = c.in-Grouped.at in
    let e = expression_tree c.in-Grouped.inner.value in
    let seen : IsSeen c.args.how (shortened (judge g e)) (uses_of g e) c.in_ok-inner-in-Grouped.inner =
    subst (λ x. SeenAs g c.args.how (expression_tree x) c.in_ok-inner-in-Grouped.inner) c.deref.ensures (c.in_ok-inner-in-Grouped.ensures g h) in
    subst (λ x. SeenAs g c.args.how x c.grouped.result) (sym (ap (λ e. expression_tree e) c.in-Grouped.is ∙ grouped_tree at c.in-Grouped.inner))
    (subst (λ s. IsSeen c.args.how s (uses_of g e) c.grouped.result) (sym (shortened_after (judge g e) (grouped at)))
    (c.grouped.ensures c.args.how (shortened (judge g e)) (uses_of g e) seen))

pub seen-returns-in-Prefixed : goal.seen-returns-in-Prefixed
seen-returns-in-Prefixed t c = λ g h.
    let at = c.in-Prefixed.at in
    let o = c.in-Prefixed.operator in
    let e = expression_tree c.in-Prefixed.operand.value in
    seen_told g c.args.how c.prefixed.result c.args.expression.now (Expression.Prefixed at o e)
    (ap (λ e. expression_tree e) c.in-Prefixed.is ∙ prefixed_tree at o c.in-Prefixed.operand)
    (subst (λ x. IfOk c.prefixed.result (SeenAs g c.args.how (Expression.Prefixed at o (expression_tree x)))) c.deref-in-Prefixed.ensures
    (c.prefixed.ensures g h))

pub seen-returns-then-is_empty : goal.seen-returns-then-is_empty
seen-returns-then-is_empty t c = λ g h.
    let e = expression_tree c.in-Suffixed.primary.value in
    let xs = c.in-Suffixed.suffixes.items in
    seen_told g c.args.how c.seen-then-is_empty.result c.args.expression.now (Expression.Suffixed e (suffixes_of (map suffix_tree xs)))
    (ap (λ e. expression_tree e) c.in-Suffixed.is ∙ suffixed_tree c.in-Suffixed.primary c.in-Suffixed.suffixes)
    (alone_seen g c.args.how c.seen-then-is_empty.result e xs
    (tested_length c.in-Suffixed.suffixes c.is_empty.result c.is_empty.ensures ∙ c.if-is_empty.true)
    (subst (λ x. IfOk c.seen-then-is_empty.result (SeenAs g c.args.how (expression_tree x))) c.deref-then-is_empty.ensures
    (c.seen-then-is_empty.ensures g h)))

pub seen-returns-in_ok-first-in-Suffixed : goal.seen-returns-in_ok-first-in-Suffixed
seen-returns-in_ok-first-in-Suffixed t c = λ g h.
    let e = expression_tree c.in-Suffixed.primary.value in
    let xs = c.in-Suffixed.suffixes.items in
    let whole = Expression.Suffixed e (suffixes_of (map suffix_tree xs)) in
    let first : SeenAs g usage.Look e c.in_ok-first-in-Suffixed.first =
    subst (λ x. SeenAs g usage.Look (expression_tree x) c.in_ok-first-in-Suffixed.first) c.deref-in-Suffixed.ensures (c.in_ok-first-in-Suffixed.ensures g h) in
    let some : 1 ≤ length c.deref-in-Suffixed-2.result.now =
    subst (λ ys. 1 ≤ length ys) (sym c.deref-in-Suffixed-2.ensures.value)
    (some_suffixes xs (tested_length c.in-Suffixed.suffixes c.is_empty.result c.is_empty.ensures ∙ c.if-is_empty.false)) in
    let does_it = λ (ys : List Suffix). IfOk c.suffixed.result (IsSeen c.args.how (short_suffixes g (shortened (judge g e)) (map suffix_tree ys))
    (all_short_uses g (shortened (judge g e)) (uses_of g e) (map suffix_tree ys))) in
    seen_told g c.args.how c.suffixed.result c.args.expression.now whole
    (ap (λ e. expression_tree e) c.in-Suffixed.is ∙ suffixed_tree c.in-Suffixed.primary c.in-Suffixed.suffixes)
    (suffixed_same g c.args.how (λ s u. IfOk c.suffixed.result (IsSeen c.args.how s u)) e xs
    (subst does_it c.deref-in-Suffixed-2.ensures.value (c.suffixed.ensures g (shortened (judge g e)) (uses_of g e) h first some)))

pub seen-returns-then-is_empty-2 : goal.seen-returns-then-is_empty-2
seen-returns-then-is_empty-2 t c = λ g h.
    let e = expression_tree c.in-Chain.first.value in
    let ls = c.in-Chain.links.items in
    seen_told g c.args.how c.seen-then-is_empty-2.result c.args.expression.now (Expression.Chain e (links_of (map link_tree ls)))
    (ap (λ e. expression_tree e) c.in-Chain.is ∙ chain_tree c.in-Chain.first c.in-Chain.links)
    (alone_chain g c.args.how c.seen-then-is_empty-2.result e ls
    (tested_length c.in-Chain.links c.is_empty-in-Chain.result c.is_empty-in-Chain.ensures ∙ c.if-is_empty-2.true)
    (subst (λ x. IfOk c.seen-then-is_empty-2.result (SeenAs g c.args.how (expression_tree x))) c.deref-then-is_empty-2.ensures
    (c.seen-then-is_empty-2.ensures g h)))

pub seen-returns-else-is_empty-2 : goal.seen-returns-else-is_empty-2
seen-returns-else-is_empty-2 t c = λ g h.
    let e = c.in-Chain.first.value in
    let ls = c.in-Chain.links.items in
    let does_it = λ (y : code.Expression) (xs : List code_link.Link).
    IfOk c.linked.result (IsSeen c.args.how (short_links g (judged g y) (links_of (map link_tree xs)))
    (uses_as_value (passed_links g (uses_of g (expression_tree y)).look (links_of (map link_tree xs))))) in
    seen_told g c.args.how c.linked.result c.args.expression.now (Expression.Chain (expression_tree e) (links_of (map link_tree ls)))
    (ap (λ e. expression_tree e) c.in-Chain.is ∙ chain_tree c.in-Chain.first c.in-Chain.links)
    (linked_same g (λ s u. IfOk c.linked.result (IsSeen c.args.how s u)) e ls (judged g e) (uses_of g (expression_tree e)).look
    (tested_length c.in-Chain.links c.is_empty-in-Chain.result c.is_empty-in-Chain.ensures ∙ c.if-is_empty-2.false) refl refl
    (subst (λ y. does_it y ls) c.deref-in-Chain.ensures
    (subst (does_it c.deref-in-Chain.result.now) c.deref-in-Chain-2.ensures.value (c.linked.ensures g c.args.how h))))

pub seen-returns-then-is_empty-3 : goal.seen-returns-then-is_empty-3
seen-returns-then-is_empty-3 t c = λ g h.
    let e = expression_tree c.in-AllOf.first.value in
    let es = c.in-AllOf.others.items in
    seen_told g c.args.how c.seen-then-is_empty-3.result c.args.expression.now (Expression.AllOf e (expressions_of (map expression_tree es)))
    (ap (λ e. expression_tree e) c.in-AllOf.is ∙ all_of_tree c.in-AllOf.first c.in-AllOf.others)
    (alone_tests g c.args.how c.seen-then-is_empty-3.result e es
    (tested_length c.in-AllOf.others c.is_empty-in-AllOf.result c.is_empty-in-AllOf.ensures ∙ c.if-is_empty-3.true)
    (subst (λ x. IfOk c.seen-then-is_empty-3.result (SeenAs g c.args.how (expression_tree x))) c.deref-then-is_empty-3.ensures
    (c.seen-then-is_empty-3.ensures g h)))

pub seen-returns-else-is_empty-3 : goal.seen-returns-else-is_empty-3
seen-returns-else-is_empty-3 t c = λ g h.
    let e = c.in-AllOf.first.value in
    let es = c.in-AllOf.others.items in
    let does_it = λ (y : code.Expression) (xs : List code.Expression). IfOk c.all_tested.result (IsSeen c.args.how
    (short_tests g (judged g y) (expressions_of (map expression_tree xs)))
    (uses_as_value (passed_tests g (uses_of g (expression_tree y)).look (expressions_of (map expression_tree xs))))) in
    seen_told g c.args.how c.all_tested.result c.args.expression.now (Expression.AllOf (expression_tree e) (expressions_of (map expression_tree es)))
    (ap (λ e. expression_tree e) c.in-AllOf.is ∙ all_of_tree c.in-AllOf.first c.in-AllOf.others)
    (tested_same g (λ s u. IfOk c.all_tested.result (IsSeen c.args.how s u)) e es (judged g e) (uses_of g (expression_tree e)).look
    (tested_length c.in-AllOf.others c.is_empty-in-AllOf.result c.is_empty-in-AllOf.ensures ∙ c.if-is_empty-3.false) refl refl
    (subst (λ y. does_it y es) c.deref-in-AllOf.ensures
    (subst (does_it c.deref-in-AllOf.result.now) c.deref-in-AllOf-2.ensures.value (c.all_tested.ensures g c.args.how h))))

pub seen-returns-then-is_empty-4 : goal.seen-returns-then-is_empty-4
seen-returns-then-is_empty-4 t c = λ g h.
    let e = expression_tree c.in-AnyOf.first.value in
    let es = c.in-AnyOf.others.items in
    seen_told g c.args.how c.seen-then-is_empty-4.result c.args.expression.now (Expression.AnyOf e (expressions_of (map expression_tree es)))
    (ap (λ e. expression_tree e) c.in-AnyOf.is ∙ any_of_tree c.in-AnyOf.first c.in-AnyOf.others)
    (alone_tests g c.args.how c.seen-then-is_empty-4.result e es
    (tested_length c.in-AnyOf.others c.is_empty-in-AnyOf.result c.is_empty-in-AnyOf.ensures ∙ c.if-is_empty-4.true)
    (subst (λ x. IfOk c.seen-then-is_empty-4.result (SeenAs g c.args.how (expression_tree x))) c.deref-then-is_empty-4.ensures
    (c.seen-then-is_empty-4.ensures g h)))

pub seen-returns-else-is_empty-4 : goal.seen-returns-else-is_empty-4
seen-returns-else-is_empty-4 t c = λ g h.
    let e = c.in-AnyOf.first.value in
    let es = c.in-AnyOf.others.items in
    let does_it = λ (y : code.Expression) (xs : List code.Expression). IfOk c.all_tested-in-AnyOf.result (IsSeen c.args.how
    (short_tests g (judged g y) (expressions_of (map expression_tree xs)))
    (uses_as_value (passed_tests g (uses_of g (expression_tree y)).look (expressions_of (map expression_tree xs))))) in
    seen_told g c.args.how c.all_tested-in-AnyOf.result c.args.expression.now (Expression.AnyOf (expression_tree e) (expressions_of (map expression_tree es)))
    (ap (λ e. expression_tree e) c.in-AnyOf.is ∙ any_of_tree c.in-AnyOf.first c.in-AnyOf.others)
    (tested_same g (λ s u. IfOk c.all_tested-in-AnyOf.result (IsSeen c.args.how s u)) e es (judged g e) (uses_of g (expression_tree e)).look
    (tested_length c.in-AnyOf.others c.is_empty-in-AnyOf.result c.is_empty-in-AnyOf.ensures ∙ c.if-is_empty-4.false) refl refl
    (subst (λ y. does_it y es) c.deref-in-AnyOf.ensures
    (subst (does_it c.deref-in-AnyOf.result.now) c.deref-in-AnyOf-2.ensures.value (c.all_tested-in-AnyOf.ensures g c.args.how h))))

pub seen-returns-in_ok-to-in-Assign : goal.seen-returns-in_ok-to-in-Assign
seen-returns-in_ok-to-in-Assign t c = λ g h.
    let to = c.in-Assign.to.value in
    let from = c.in-Assign.from.value in
    let x = Expression.Assign (expression_tree to) (expression_tree from) in
    let given : SeenAs g usage.Value (expression_tree from) c.in_ok-from-in-Assign.from =
    subst (λ e. SeenAs g usage.Value (expression_tree e) c.in_ok-from-in-Assign.from) c.deref-in-Assign.ensures (c.in_ok-from-in-Assign.ensures g h) in
    let target : SeenAs g usage.Target (expression_tree to) c.in_ok-to-in-Assign.to =
    subst (λ e. SeenAs g usage.Target (expression_tree e) c.in_ok-to-in-Assign.to) c.deref-in-Assign-2.ensures (c.in_ok-to-in-Assign.ensures g h) in
    let s = short_of value_of c.in_ok-to-in-Assign.to.judged in
    let r = short_of value_of c.in_ok-from-in-Assign.from.judged in
    seen_told g c.args.how c.assigned.result c.args.expression.now x
    (ap (λ e. expression_tree e) c.in-Assign.is ∙ assign_tree c.in-Assign.to c.in-Assign.from)
    (subst (λ v. IfOk c.assigned.result (IsSeen c.args.how v (uses_of g x))) (assigned_is g to from s r target.judged given.judged)
    (subst (λ u. IfOk c.assigned.result (IsSeen c.args.how (short_both s r (λ a b. shortened (assigned g a b))) u))
    (ap₂ (λ p q. uses_as_value (in_turn p q)) given.used.passed target.used.passed) (c.assigned.ensures g c.args.how h.scope.sees)))

pub seen-returns-in-Call : goal.seen-returns-in-Call
seen-returns-in-Call t c = λ g h.
    let x = name_tree c.in-Call.name in
    let es = c.in-Call.arguments.items in
    seen_told g c.args.how c.called.result c.args.expression.now (Expression.Call x (expressions_of (map expression_tree es)))
    (ap (λ e. expression_tree e) c.in-Call.is ∙ call_tree c.in-Call.name c.in-Call.arguments)
    (subst (λ (xs : List code.Expression). IfOk c.called.result (SeenAs g c.args.how (Expression.Call x (expressions_of (map expression_tree xs)))))
    c.deref-in-Call.ensures.value (c.called.ensures g c.args.how h))

pub seen-returns-in_ok-operand-in-NumElts : goal.seen-returns-in_ok-operand-in-NumElts
seen-returns-in_ok-operand-in-NumElts t c = λ g h.
    let at = c.in-NumElts.at in
    let e = c.in-NumElts.operand.value in
    let x = Expression.NumElts at (expression_tree e) in
    let found = c.in_ok-operand-in-NumElts.operand in
    let s = short_of value_of found.judged in
    let operand : SeenAs g usage.Look (expression_tree e) found =
    subst (λ y. SeenAs g usage.Look (expression_tree y) found) c.deref-in-NumElts.ensures (c.in_ok-operand-in-NumElts.ensures g h) in
    subst (λ y. SeenAs g c.args.how y c.counted.result)
    (sym (ap (λ e. expression_tree e) c.in-NumElts.is ∙ num_elts_tree at c.in-NumElts.operand))
    (subst (λ v. IsSeen c.args.how v (uses_of g x) c.counted.result) (counted_is g at e s operand.judged)
    (subst (λ u. IsSeen c.args.how (short_after s (λ a. shortened (counted at a))) u c.counted.result)
    (ap (λ p. uses_as_value p) operand.used.passed) (c.counted.ensures c.args.how)))

pub seen-returns-in_ok-value-in-MakeUnion : goal.seen-returns-in_ok-value-in-MakeUnion
seen-returns-in_ok-value-in-MakeUnion t c = λ g h.
    let tag = name_tree c.in-MakeUnion.tag in
    let field = name_tree c.in-MakeUnion.field in
    let e = c.in-MakeUnion.value.value in
    let x = Expression.MakeUnion tag field (expression_tree e) in
    let found = c.in_ok-value-in-MakeUnion.value in
    let s = short_of value_of found.judged in
    let given : SeenAs g usage.Value (expression_tree e) found =
    subst (λ y. SeenAs g usage.Value (expression_tree y) found) c.deref-in-MakeUnion.ensures (c.in_ok-value-in-MakeUnion.ensures g h) in
    seen_told g c.args.how c.made_union.result c.args.expression.now x
    (ap (λ e. expression_tree e) c.in-MakeUnion.is ∙ make_union_tree c.in-MakeUnion.tag c.in-MakeUnion.field c.in-MakeUnion.value)
    (subst (λ v. IfOk c.made_union.result (IsSeen c.args.how v (uses_of g x))) (union_is g tag field e s given.judged)
    (subst (λ u. IfOk c.made_union.result (IsSeen c.args.how
    (short_both (shortened (union_tag tag field (meant g tag.text))) s (λ m a. shortened (union_made g tag.at m a))) u))
    (ap (λ p. uses_as_value p) given.used.passed) (c.made_union.ensures g c.args.how h.scope)))

pub seen-returns-in-New : goal.seen-returns-in-New
seen-returns-in-New t c = λ g h.
    let at = c.in-New.at in
    let m = made_tree c.in-New.new in
    let x = Expression.New at m in
    seen_told g c.args.how c.made.result c.args.expression.now x (ap (λ e. expression_tree e) c.in-New.is ∙ new_tree at c.in-New.new)
    (subst (λ v. IfOk c.made.result (IsSeen c.args.how v (uses_of g x))) (new_is g at m)
    (subst (λ p. IfOk c.made.result (IsSeen c.args.how (short_made g at (Is (To TheHeap)) m) (uses_made g m p))) c.nothing.ensures
    (c.made.ensures g c.args.how h)))

pub seen-returns-in_ok-handle-in-NewIn : goal.seen-returns-in_ok-handle-in-NewIn
seen-returns-in_ok-handle-in-NewIn t c = λ g h.
    let at = c.in-NewIn.at in
    let handle = c.in-NewIn.handle.value in
    let m = made_tree c.in-NewIn.new in
    let to = handle_goal g (expression_tree handle) in
    let found = c.in_ok-handle-in-NewIn.handle in
    let x = Expression.NewIn at (expression_tree handle) m in
    let looked : SeenAs g usage.Look (expression_tree handle) found =
    subst (λ y. SeenAs g usage.Look (expression_tree y) found) c.deref-in-NewIn-2.ensures (c.in_ok-handle-in-NewIn.ensures g h) in
    let goal_known : short_of goal_in c.goal_part-goal.result ≡ shortened to =
    c.goal_part-goal.ensures g h.scope.sees
    ∙ goal_is g handle c.is_unique_region-is_unique.result (short_of value_of found.judged)
    (c.is_unique_region-is_unique.ensures ∙ ap (λ e. is_unique_region (expression_tree e)) c.deref-in-NewIn.ensures) looked.judged in
    let inside_known : enclosed to ≡ enclosing_of c.inside.result.enclosing =
    enclosed_is to ∙ ap enclosed_short (sym goal_known) ∙ sym c.inside.ensures.enclosing in
    seen_told g c.args.how c.made-in-NewIn.result c.args.expression.now x
    (ap (λ e. expression_tree e) c.in-NewIn.is ∙ new_in_tree at c.in-NewIn.handle c.in-NewIn.new)
    (subst (λ v. IfOk c.made-in-NewIn.result (IsSeen c.args.how v (uses_of g x)))
    (new_in_is g at (expression_tree handle) m (short_of goal_in c.goal_part-goal.result) goal_known)
    (subst (λ p. IfOk c.made-in-NewIn.result (IsSeen c.args.how
    (short_made (inside to g) at (short_of goal_in c.goal_part-goal.result) m) (uses_made (inside to g) m p)))
    looked.used.passed
    (c.made-in-NewIn.ensures (inside to g) c.args.how (inside_goal c.inside.result to h c.inside.ensures.counters inside_known))))

-- ---- what is looked at

pub looked-returns-in_ok-used-in-Variable : goal.looked-returns-in_ok-used-in-Variable
looked-returns-in_ok-used-in-Variable = Looked.looked-returns-in_ok-used-in-Variable

pub looked-returns-in_ok-first-in-Suffixed : goal.looked-returns-in_ok-first-in-Suffixed
looked-returns-in_ok-first-in-Suffixed = Looked.looked-returns-in_ok-first-in-Suffixed

pub looked-returns-else-is_empty-2 : goal.looked-returns-else-is_empty-2
looked-returns-else-is_empty-2 = Looked.looked-returns-else-is_empty-2

pub looked-returns-in-Call : goal.looked-returns-in-Call
looked-returns-in-Call = Looked.looked-returns-in-Call

pub looked-returns-then-is_empty-3 : goal.looked-returns-then-is_empty-3
looked-returns-then-is_empty-3 = Looked.looked-returns-then-is_empty-3

pub looked-returns-else-is_empty-3 : goal.looked-returns-else-is_empty-3
looked-returns-else-is_empty-3 = Looked.looked-returns-else-is_empty-3

pub looked-returns-then-is_empty-4 : goal.looked-returns-then-is_empty-4
looked-returns-then-is_empty-4 = Looked.looked-returns-then-is_empty-4

pub looked-returns-else-is_empty-4 : goal.looked-returns-else-is_empty-4
looked-returns-else-is_empty-4 = Looked.looked-returns-else-is_empty-4

-- ---- parts one after another

pub linked-each-init : goal.linked-each-init
linked-each-init = Folded.linked-each-init

pub linked-each-preserved : goal.linked-each-preserved
linked-each-preserved = Folded.linked-each-preserved

pub linked-returns : goal.linked-returns
linked-returns = Folded.linked-returns

pub all_tested-each-init : goal.all_tested-each-init
all_tested-each-init = Folded.all_tested-each-init

pub all_tested-each-preserved : goal.all_tested-each-preserved
all_tested-each-preserved = Folded.all_tested-each-preserved

pub all_tested-returns : goal.all_tested-returns
all_tested-returns = Folded.all_tested-returns

pub called-each-init : goal.called-each-init
called-each-init = Folded.called-each-init

pub called-each-preserved : goal.called-each-preserved
called-each-preserved = Folded.called-each-preserved

pub called-returns : goal.called-returns
called-returns = Folded.called-returns

-- ---- operators before an operand

pub prefixed-returns-in_ok-operand-in-Negate : goal.prefixed-returns-in_ok-operand-in-Negate
prefixed-returns-in_ok-operand-in-Negate t c = λ g h.
    let e = expression_tree c.args.operand.now in
    let whole = Expression.Prefixed c.args.at c.args.operator e in
    subst (λ u. IfOk c.looked_at.result (IsSeen c.args.how (shortened (judge g whole)) u))
    (sym (look_alone g c.args.at c.args.operator e c.in-Negate.is))
    (c.looked_at.ensures g (judge g e) (uses_of g e) c.args.how h.scope.sees (c.in_ok-operand-in-Negate.ensures g h))

pub prefixed-returns-in_ok-operand-in-Dereference : goal.prefixed-returns-in_ok-operand-in-Dereference
prefixed-returns-in_ok-operand-in-Dereference t c = λ g h.
    let e = expression_tree c.args.operand.now in
    subst (λ o. IfOk c.dereferenced.result (SeenAs g c.args.how (Expression.Prefixed c.args.at o e))) (sym c.in-Dereference.is)
    (c.dereferenced.ensures g (judge g e) (uses_of g e) h.scope.sees (c.in_ok-operand-in-Dereference.ensures g h))

pub prefixed-returns-in_ok-operand-in-AddressOf : goal.prefixed-returns-in_ok-operand-in-AddressOf
prefixed-returns-in_ok-operand-in-AddressOf t c = λ g h.
    let e = expression_tree c.args.operand.now in
    subst (λ o. IfOk c.addressed.result (SeenAs g c.args.how (Expression.Prefixed c.args.at o e))) (sym c.in-AddressOf.is)
    (c.addressed.ensures g (judge g e) (uses_of g e) c.args.how h.scope.sees (c.in_ok-operand-in-AddressOf.ensures g h))

-- ---- suffixes

pub suffix_after-returns-in_ok-index-in-Index : goal.suffix_after-returns-in_ok-index-in-Index
suffix_after-returns-in_ok-index-in-Index = Suffixes.suffix_after-returns-in_ok-index-in-Index

pub suffix_after-returns-in_ok-judged-in-Dot : goal.suffix_after-returns-in_ok-judged-in-Dot
suffix_after-returns-in_ok-judged-in-Dot = Suffixes.suffix_after-returns-in_ok-judged-in-Dot

pub suffix_after-returns-in_ok-judged-in-Arrow : goal.suffix_after-returns-in_ok-judged-in-Arrow
suffix_after-returns-in_ok-judged-in-Arrow = Suffixes.suffix_after-returns-in_ok-judged-in-Arrow

pub suffixed-each-init : goal.suffixed-each-init
suffixed-each-init = Suffixes.suffixed-each-init

pub suffixed-each-preserved : goal.suffixed-each-preserved
suffixed-each-preserved = Suffixes.suffixed-each-preserved

pub suffixed-returns : goal.suffixed-returns
suffixed-returns = Suffixes.suffixed-returns

-- ---- making

pub made-returns-in_ok-value-in-One : goal.made-returns-in_ok-value-in-One
made-returns-in_ok-value-in-One = Suffixes.made-returns-in_ok-value-in-One

pub made-returns-in_ok-element-in-Array : goal.made-returns-in_ok-element-in-Array
made-returns-in_ok-element-in-Array = Suffixes.made-returns-in_ok-element-in-Array
