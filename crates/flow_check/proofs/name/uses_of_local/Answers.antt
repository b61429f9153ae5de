use Rattle.std.proofs.Common.{IfOk, ap, refl, subst, sym, ◌∙◌}
use Rattle.cyc_tree.specs.View.{name_tree}
use Rattle.cyc_types.proofs.Sameness.{copyable_same}
use Rattle.cyc_types.specs.Types.{static_type}
use Rattle.flow_summaries.specs.Passages.{unchanged}
use Rattle.flow_summaries.specs.Uses.{number_of, uses_of_local}
use Rattle.source_typing.specs.Scope.{find_local}
use Rattle.check_scopes.specs.Linked.{position_of}
use Rattle.flow_effects.specs.Used.{IsUsed}
use Rattle.flow_check.proofs.NameUses.{array_copied, array_owned, idle_found, rule_of, same_number, variable_copied, variable_owned}
use Rattle.flow_check.proofs.name.uses_of_local.Goals as goal

pub returns-then-is_copyable : goal.returns-then-is_copyable
returns-then-is_copyable c = λ g has h.
    let x = name_tree c.args.name.now in
    let t = c.in-Variable.of in
    subst (λ u. IsUsed c.args.how u c.value.result)
    (variable_copied g x (position_of c.args.scope.now.locals x.text) c.args.what.now t c.in-Variable.field-1 (find_local g.locals x.text)
    (number_of g.locals x.text)
    c.in-Variable.is (copyable_same c.args.scope.now.tables.now g.tables has (static_type t) ∙ sym c.is_copyable.ensures ∙ c.if-is_copyable.true) h)
    (c.value.ensures c.args.how unchanged c.nothing.ensures)

pub returns-else-is_copyable : goal.returns-else-is_copyable
returns-else-is_copyable c = λ g has h.
    let s = c.args.scope.now in
    let x = name_tree c.args.name.now in
    let p = position_of s.locals x.text in
    let o = find_local g.locals x.text in
    let n = number_of g.locals x.text in
    let t = c.in-Variable.of in
    let copies = copyable_same s.tables.now g.tables has (static_type t) ∙ sym c.is_copyable.ensures ∙ c.if-is_copyable.false in
    subst (λ u. IfOk c.own.result (IsUsed c.args.how u)) (variable_owned g x p c.args.what.now t c.in-Variable.field-1 o n c.in-Variable.is copies h)
    (c.own.ensures g.locals x refl
    (same_number g x p c.args.what.now o n h ∙ ap (position_of s.locals) (sym c.deref.ensures.value) ∙ sym c.position.ensures))

pub returns-then-is_copyable-2 : goal.returns-then-is_copyable-2
returns-then-is_copyable-2 c = λ g has h.
    let s = c.args.scope.now in
    let x = name_tree c.args.name.now in
    let t = c.in-Array.of in
    subst (λ u. IsUsed c.args.how u c.value-then-is_copyable-2.result)
    (array_copied g x (position_of s.locals x.text) c.args.what.now t c.in-Array.field-1 (find_local g.locals x.text) (number_of g.locals x.text)
    c.in-Array.is (copyable_same s.tables.now g.tables has (static_type t) ∙ sym c.is_copyable-in-Array.ensures ∙ c.if-is_copyable-2.true) h)
    (c.value-then-is_copyable-2.ensures c.args.how unchanged c.nothing-then-is_copyable-2.ensures)

pub returns-else-is_copyable-2 : goal.returns-else-is_copyable-2
returns-else-is_copyable-2 c = λ g has h.
    let s = c.args.scope.now in
    let x = name_tree c.args.name.now in
    let t = c.in-Array.of in
    subst (λ u. IsUsed c.args.how u c.array.result)
    (array_owned g x (position_of s.locals x.text) c.args.what.now t c.in-Array.field-1 (find_local g.locals x.text) (number_of g.locals x.text)
    c.in-Array.is (copyable_same s.tables.now g.tables has (static_type t) ∙ sym c.is_copyable-in-Array.ensures ∙ c.if-is_copyable-2.false) h)
    (c.array.ensures c.args.how)

pub returns-in-Counter : goal.returns-in-Counter
returns-in-Counter c = λ g has h.
    let x = name_tree c.args.name.now in
    subst (λ u. IsUsed c.args.how u c.value-in-Counter.result)
    (idle_found g x (position_of c.args.scope.now.locals x.text) c.args.what.now (find_local g.locals x.text) (number_of g.locals x.text)
    (ap (λ w. uses_of_local g x (rule_of w)) c.in-Counter.is) h)
    (c.value-in-Counter.ensures c.args.how unchanged c.nothing-in-Counter.ensures)

pub returns-in-Untyped : goal.returns-in-Untyped
returns-in-Untyped c = λ g has h.
    let x = name_tree c.args.name.now in
    subst (λ u. IsUsed c.args.how u c.value-in-Untyped.result)
    (idle_found g x (position_of c.args.scope.now.locals x.text) c.args.what.now (find_local g.locals x.text) (number_of g.locals x.text)
    (ap (λ w. uses_of_local g x (rule_of w)) c.in-Untyped.is) h)
    (c.value-in-Untyped.ensures c.args.how unchanged c.nothing-in-Untyped.ensures)

pub returns-in-NotKnown : goal.returns-in-NotKnown
returns-in-NotKnown c = λ g has h.
    let x = name_tree c.args.name.now in
    subst (λ u. IsUsed c.args.how u c.value-in-NotKnown.result)
    (idle_found g x (position_of c.args.scope.now.locals x.text) c.args.what.now (find_local g.locals x.text) (number_of g.locals x.text)
    (ap (λ w. uses_of_local g x (rule_of w)) c.in-NotKnown.is) h)
    (c.value-in-NotKnown.ensures c.args.how unchanged c.nothing-in-NotKnown.ensures)
