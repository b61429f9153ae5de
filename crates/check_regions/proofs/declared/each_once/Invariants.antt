use Rattle.std.proofs.Common.{map, take}
use Rattle.check_regions.specs.Fields.{pair_of}
use Rattle.check_regions.specs.Once.{AreTaken}
use Rattle.check_regions.proofs.declared.each_once.Given as goal

-- those so far
abbrev pub invariant-each : goal.invariant-each
invariant-each l = AreTaken l.seen.keys (map pair_of l.once.items) (map pair_of (take l.bound-index l.given))
