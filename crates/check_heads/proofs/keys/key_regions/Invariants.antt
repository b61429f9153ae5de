use Rattle.std.proofs.Common.{◌≡◌, drop}
use Rattle.std.specs.Prelude.{◌++◌}
use Rattle.cyc_types.specs.Regions.{regions_of}
use Rattle.check_heads.specs.Bodies.{types_of}
use Rattle.check_heads.specs.Used.{keys_of}
use Rattle.check_heads.proofs.keys.key_regions.Given as goal

-- those so far, with those of the rest, are all
abbrev pub invariant-each : goal.invariant-each
invariant-each l = regions_of l.regions.items ++ keys_of (types_of (drop l.parameter-index l.parameters)) ≡ keys_of (types_of l.parameters)
