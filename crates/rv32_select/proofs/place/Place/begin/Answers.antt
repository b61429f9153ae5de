use Rattle.std.proofs.Common.{ap, arith, length, ◌∙◌}
use Rattle.core_lines.specs.Homes.{some_of}
use Rattle.rv32_select.proofs.place.Place.begin.Goals as goal

pub settle-requires : goal.settle-requires
settle-requires c =
    let saved = ap length (c.in_ok-saved.ensures ∙ ap some_of (c.deref.ensures.value ∙ c.in_ok-homes.ensures)) in
    record { slots = omega (arith, saved); homes = c.in_ok-homes.ensures }

pub returns-clause-saved : goal.returns-clause-saved
returns-clause-saved c = c.in_ok-saved.ensures ∙ ap some_of (c.deref.ensures.value ∙ c.in_ok-homes.ensures)
