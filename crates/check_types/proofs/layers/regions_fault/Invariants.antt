use Rattle.std.proofs.Common.{◌≡◌, drop}
use Rattle.source_typing.specs.Faults.{earliest}
use Rattle.source_typing.specs.Written.{all_found}
use Rattle.check_faults.specs.Faults.{faults_of, first_of}
use Rattle.check_types.specs.Reading.{pointer_spots}
use Rattle.check_types.proofs.layers.regions_fault.Given as goal

-- what was found, and the earliest fault of the rest, is the earliest of all
abbrev pub invariant-each : goal.invariant-each
invariant-each l =
    first_of (faults_of l.found) (earliest (all_found l.names (pointer_spots (drop l.pointer-index l.pointers))).1)
    ≡ earliest (all_found l.names (pointer_spots l.pointers)).1
