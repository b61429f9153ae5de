use Rattle.std.proofs.Common.{None, Some, ap, false, refl, subst, sym, true, ◌∙◌, ◌≡◌}
use Rattle.cyc_tree.specs.View.{name_tree}
use Rattle.flow_summaries.specs.Passages.{unchanged}
use Rattle.flow_summaries.specs.Uses.{number_of}
use Rattle.source_typing.specs.Scope.{find_local}
use Rattle.check_scopes.specs.Linked.{position_of}
use Rattle.check_scopes.specs.Locals.{find_what}
use Rattle.check_expressions.specs.Within.{is_counter}
use Rattle.flow_effects.specs.Used.{IsUsed}
use Rattle.flow_check.proofs.NameUses.{index_uses, local_known}
use Rattle.flow_check.proofs.name.uses_of_name.Goals as goal

pub returns-then-is_counter : goal.returns-then-is_counter
returns-then-is_counter c = λ g h.
    let s = c.args.scope.now in
    let x = name_tree c.args.name.now in
    let counted : is_counter c.args.around.counters.now x.text ≡ true =
    ap (is_counter c.args.around.counters.now) (sym c.deref.ensures.value) ∙ sym c.is_counter.ensures ∙ c.if-is_counter.true in
    subst (λ u. IsUsed c.args.how u c.value.result)
    (sym (index_uses g x (position_of s.locals x.text) (find_what s.locals x.text) (find_local g.locals x.text) (number_of g.locals x.text)
    (local_known s c.args.around g x.text h true (find_what s.locals x.text) counted refl)))
    (c.value.ensures c.args.how unchanged c.nothing.ensures)

pub returns-in-None : goal.returns-in-None
returns-in-None c = λ g h.
    let s = c.args.scope.now in
    let x = name_tree c.args.name.now in
    let counted : is_counter c.args.around.counters.now x.text ≡ false =
    ap (is_counter c.args.around.counters.now) (sym c.deref.ensures.value) ∙ sym c.is_counter.ensures ∙ c.if-is_counter.false in
    let found : find_what s.locals x.text ≡ None = ap (find_what s.locals) (sym c.deref-2.ensures.value) ∙ sym c.in-None.ensures in
    c.uses_of_global.ensures g c.args.around h counted found

pub returns-in-Some : goal.returns-in-Some
returns-in-Some c = λ g h.
    let s = c.args.scope.now in
    let x = name_tree c.args.name.now in
    let counted : is_counter c.args.around.counters.now x.text ≡ false =
    ap (is_counter c.args.around.counters.now) (sym c.deref.ensures.value) ∙ sym c.is_counter.ensures ∙ c.if-is_counter.false in
    let found : find_what s.locals x.text ≡ Some c.in-Some.what.now = ap (find_what s.locals) (sym c.deref-2.ensures.value) ∙ sym c.in-Some.ensures in
    c.uses_of_local.ensures g h.scope.sees.tags (local_known s c.args.around g x.text h false (Some c.in-Some.what.now) counted found)
