use Rattle.std.proofs.Common.{IfOk, ap, length, subst, sym, ◌+◌, ◌∙◌, ◌≡◌}
use Rattle.flow_summaries.specs.Exits.{Exits, entered, with_passage}
use Rattle.flow_effects.specs.Exits.{exits_of}
use Rattle.flow_effects.specs.Passed.{added_of, passage_of}
use Rattle.flow_effects.specs.Steps.{lent_if, passed_if}
use Rattle.flow_effects.proofs.steps.Declared.before.Goals as goal

pub returns-in-Some : goal.returns-in-Some
returns-in-Some c =
    let d = c.args.self in
    let rest : Exits = lent_if d.loan (entered d.around (length (added_of d.begun) + d.around) (added_of d.begun) (exits_of c.args.rest)) in
    subst (λ o. IfOk c.after.result (λ w. exits_of w ≡ passed_if o rest)) (sym c.in-Some.is)
    (subst (λ v. IfOk c.after.result (λ w. exits_of w ≡ with_passage (passage_of c.in-Some.initial) v))
    (c.in_ok-lent.ensures ∙ ap (lent_if d.loan) c.leaving-inside.ensures)
    (subst (λ i. IfOk c.after.result (λ w. exits_of w ≡ with_passage (passage_of i) (exits_of c.in_ok-lent.lent))) c.in-Some.initial-is c.after.ensures))
