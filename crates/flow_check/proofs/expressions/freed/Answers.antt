use Rattle.std.proofs.Common.{IfOk, None, Some, ap, subst, sym, ◌∙◌, ◌≡◌}
use Rattle.cyc_tree.specs.View.{name_tree}
use Rattle.flow_summaries.specs.Statements.{freed_local}
use Rattle.flow_summaries.specs.Uses.{number_of}
use Rattle.check_scopes.specs.Linked.{position_of}
use Rattle.flow_effects.specs.Passed.{passage_of}
use Rattle.flow_check.proofs.Located.{same_position}
use Rattle.flow_check.proofs.expressions.freed.Goals as goal

pub returns-in-None : goal.returns-in-None
returns-in-None c = λ g ls.
    let s = c.args.scope.now in
    let x = name_tree c.args.name.now in
    let number : number_of g.locals x.text ≡ None =
    sym (same_position x.text s.locals g.locals ls) ∙ ap (position_of s.locals) (sym c.deref.ensures.value) ∙ sym c.in-None.ensures in
    c.copied_if.ensures ∙ ap (freed_local c.args.at x) (sym number)

pub returns-in-Some : goal.returns-in-Some
returns-in-Some c = λ g ls.
    let s = c.args.scope.now in
    let x = name_tree c.args.name.now in
    let number : number_of g.locals x.text ≡ Some c.in-Some.number =
    sym (same_position x.text s.locals g.locals ls) ∙ ap (position_of s.locals) (sym c.deref.ensures.value) ∙ sym c.in-Some.ensures in
    subst (λ n. IfOk c.moved.result (λ p. passage_of p ≡ freed_local c.args.at x n)) (sym number) c.moved.ensures
