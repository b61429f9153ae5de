use Rattle.std.proofs.Common.{◌≡◌, ◌++◌, drop, map}
use Rattle.cyc_tree.specs.View.{region_tree}
use Rattle.source_typing.specs.Functions.{take_spots}
use Rattle.source_typing.specs.Written.{as_region}
use Rattle.check_types.specs.Arguments.{named_spots}
use Rattle.check_types.specs.Written.{partial_regions}
use Rattle.check_types.proofs.variables.RegionVariables.take_named_arguments.Given as goal

-- with the rest the arguments are all of them
abbrev pub invariant-each : goal.invariant-each
invariant-each l = record {
  found : partial_regions l.found.items ++ map as_region (take_spots l.self (named_spots (map region_tree (drop l.argument-index l.arguments)))).found
      ≡ map as_region (take_spots l.fn.self (named_spots (map region_tree l.arguments))).found;
  after : (take_spots l.self (named_spots (map region_tree (drop l.argument-index l.arguments)))).after_all
      ≡ (take_spots l.fn.self (named_spots (map region_tree l.arguments))).after_all;
}
