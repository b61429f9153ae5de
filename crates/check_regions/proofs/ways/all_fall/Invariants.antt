use Rattle.std.proofs.Common.{◌≡◌, drop, map}
use Rattle.check_regions.specs.Fields.{pair_of}
use Rattle.check_regions.specs.Ways.{all_fall}
use Rattle.check_regions.proofs.ways.all_fall.Given as goal

abbrev pub invariant-each : goal.invariant-each
invariant-each l = all_fall l.ways (map pair_of (drop l.bound-index l.bounds)) ≡ all_fall l.ways (map pair_of l.bounds)
