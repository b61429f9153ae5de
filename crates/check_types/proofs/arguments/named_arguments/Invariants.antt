use Rattle.std.proofs.Common.{◌≡◌, ◌++◌, drop, map}
use Rattle.cyc_tree.specs.View.{region_tree}
use Rattle.source_typing.specs.Written.{all_found, as_region}
use Rattle.check_types.specs.Arguments.{named_spots}
use Rattle.check_types.specs.Written.{partial_regions}
use Rattle.check_types.proofs.arguments.named_arguments.Given as goal

-- with the rest the arguments are all of them
abbrev pub invariant-each : goal.invariant-each
invariant-each l =
    partial_regions l.found.items ++ map as_region (all_found l.names (named_spots (map region_tree (drop l.argument-index l.arguments)))).0
    ≡ map as_region (all_found l.names (named_spots (map region_tree l.arguments))).0
