use Rattle.std.proofs.Common.{◌≡◌, drop, map}
use Rattle.cyc_tree.specs.View.{region_tree}
use Rattle.source_typing.specs.Faults.{earliest}
use Rattle.check_faults.specs.Faults.{faults_of, first_of}
use Rattle.check_types.specs.Arguments.{unique_faults}
use Rattle.check_types.proofs.arguments.unique_faults.Given as goal

-- what was found, and the earliest fault of the rest, is the earliest of all
abbrev pub invariant-each : goal.invariant-each
invariant-each l =
    first_of (faults_of l.found) (earliest (unique_faults (map region_tree (drop l.argument-index l.arguments))))
    ≡ earliest (unique_faults (map region_tree l.arguments))
