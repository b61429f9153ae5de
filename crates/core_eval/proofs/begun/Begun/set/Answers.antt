use Rattle.std.specs.Prelude.{slice_set}
use Rattle.std.proofs.Common.{◌<◌, List, length, ap, ◌∙◌, rules}
use Rattle.core_eval.specs.declared.value.Slot.{Slot}
use Rattle.core_eval.proofs.Unmade.{made_set}
use Rattle.core_eval.proofs.begun.Begun.set.Goals as goal

pub returns-in-Some : goal.returns-in-Some
returns-in-Some c =
    let b = c.make_up_to.new.self in
    let less : c.args.cell < length b.slots.items = search rules in
    made_set b c.args.cell c.args.slot less ∙ ap (λ (l : List Slot). slice_set l c.args.cell c.args.slot) c.in_ok-make_up_to.ensures.same
