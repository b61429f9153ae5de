use Rattle.std.proofs.Common.{◌≡◌, drop}
use Rattle.cyc_types.specs.Regions.{regions_of}
use Rattle.source_typing.specs.Fixing.{fit_all}
use Rattle.check_calls.specs.Fixings.{fixed_with, fixings_of}
use Rattle.check_calls.proofs.fixing.note_arguments.Given as goal

-- with the rest it is what all fix
abbrev pub invariant-each : goal.invariant-each
invariant-each l =
    fixed_with (fit_all l.at (regions_of (drop l.index l.mine)) (regions_of (drop l.index l.theirs))) 0 (fixings_of l.fixings.items)
    ≡ fixed_with (fit_all l.at (regions_of l.mine) (regions_of l.theirs)) 0 (fixings_of l.initial.fixings.items)
