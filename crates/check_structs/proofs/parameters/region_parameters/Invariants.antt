use Rattle.std.proofs.Common.{drop, map}
use Rattle.cyc_tree.specs.View.{region_tree}
use Rattle.check_structs.specs.Parameters.{ParametersLeft}
use Rattle.check_structs.proofs.parameters.region_parameters.Given as goal

-- what was found, and those that are left, are all of them
abbrev pub invariant-each : goal.invariant-each
invariant-each l = ParametersLeft (map region_tree l.regions) l.parameters (map region_tree (drop l.region-index l.regions))
