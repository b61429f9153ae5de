use Rattle.std.proofs.Common.{◌≡◌, drop}
use Rattle.check_calls.specs.Fitted.{fits_all}
use Rattle.check_calls.specs.Fixings.{fixed_with, fixings_of}
use Rattle.check_calls.proofs.fixing.note_types.Given as goal

-- with the rest it is what all fix
abbrev pub invariant-each : goal.invariant-each
invariant-each l =
    fixed_with (fits_all (drop l.index l.parameters) (drop l.index l.arguments)) 0 (fixings_of l.fixings.items)
    ≡ fixed_with (fits_all l.parameters l.arguments) 0 (fixings_of l.initial.fixings.items)
