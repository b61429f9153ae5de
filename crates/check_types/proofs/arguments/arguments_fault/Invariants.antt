use Rattle.std.proofs.Common.{◌≡◌, drop, map}
use Rattle.cyc_tree.specs.View.{region_tree}
use Rattle.source_typing.specs.Faults.{earliest}
use Rattle.source_typing.specs.Written.{all_found}
use Rattle.check_faults.specs.Faults.{faults_of, first_of}
use Rattle.check_types.specs.Arguments.{named_spots}
use Rattle.check_types.proofs.arguments.arguments_fault.Given as goal

-- what was found, and the earliest fault of the rest, is the earliest of all
abbrev pub invariant-each : goal.invariant-each
invariant-each l =
    first_of (faults_of l.found) (earliest (all_found l.names (named_spots (map region_tree (drop l.argument-index l.arguments)))).1)
    ≡ earliest (all_found l.names (named_spots (map region_tree l.arguments))).1
