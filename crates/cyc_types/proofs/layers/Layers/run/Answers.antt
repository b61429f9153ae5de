use Rattle.std.proofs.Common.{ap, ◌∙◌, sym, subst, take}
use Rattle.cyc_types.specs.Runs.{IsRun}
use Rattle.cyc_types.specs.Shared.{IsHeld, held_items}
use Rattle.cyc_types.proofs.Runs.{begins_longer}
use Rattle.cyc_types.proofs.layers.Layers.run.Goals as goal

pub returns-in-Shared : goal.returns-in-Shared
returns-in-Shared c =
    let all = c.in-Shared.all.value in
    let run = c.at_most.result in
    let some = take c.in-Shared.count all.all.items in
    let kept = subst IsHeld c.in-Shared.is c.self.invariant in
    let begins = c.at_most.ensures all.all.items (subst (λ s. IsRun all.all.items s.run) (sym c.deref.ensures) kept.begins) in
    let items = sym (ap (λ p. p.items) c.self.view_is) ∙ ap held_items c.in-Shared.is in
    subst (λ ls. IsRun ls run) (sym items) (begins_longer run.steps run.count run.pointer some c.in-Shared.field-2.items begins)
