use Rattle.std.proofs.Common.{◌≡◌, drop, map}
use Rattle.check_regions.specs.Fields.{pair_of}
use Rattle.check_regions.specs.Reached.{most}
use Rattle.check_regions.proofs.bounds.room_for.Given as goal

abbrev pub invariant-each : goal.invariant-each
invariant-each l = most (map pair_of (drop l.bound-index l.bounds)) l.room ≡ most (map pair_of l.bounds) 0
