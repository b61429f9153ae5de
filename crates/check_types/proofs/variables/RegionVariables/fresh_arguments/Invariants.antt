use Rattle.std.proofs.Common.{◌≡◌, ◌++◌, false, map}
use Rattle.std.specs.Prelude.{None, replicate}
use Rattle.source_typing.specs.Functions.{take_spots}
use Rattle.source_typing.specs.Written.{as_region, spot}
use Rattle.check_types.specs.Written.{partial_regions}
use Rattle.check_types.proofs.variables.RegionVariables.fresh_arguments.Given as goal

-- with those that are left the arguments are all of them
abbrev pub invariant-each : goal.invariant-each
invariant-each l = record {
  found : partial_regions l.found.items ++ map as_region (take_spots l.self (replicate l.left (spot false None))).found
      ≡ map as_region (take_spots l.fn.self (replicate l.count (spot false None))).found;
  after : (take_spots l.self (replicate l.left (spot false None))).after_all ≡ (take_spots l.fn.self (replicate l.count (spot false None))).after_all;
}

abbrev pub decreases-each : goal.decreases-each
decreases-each l = l.left
