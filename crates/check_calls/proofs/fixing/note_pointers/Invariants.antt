use Rattle.std.proofs.Common.{◌≡◌, drop}
use Rattle.cyc_types.specs.Shared.{listed}
use Rattle.check_calls.specs.Fitted.{pointer_fits}
use Rattle.check_calls.specs.Fixings.{fixed_with, fixings_of}
use Rattle.check_calls.proofs.fixing.note_pointers.Given as goal

-- with the rest it is what all fix
abbrev pub invariant-each : goal.invariant-each
invariant-each l =
    fixed_with (pointer_fits l.at (drop l.index (listed l.mine)) (drop l.index (listed l.theirs))) 0 (fixings_of l.fixings.items)
    ≡ fixed_with (pointer_fits l.at (listed l.mine) (listed l.theirs)) 0 (fixings_of l.initial.fixings.items)
