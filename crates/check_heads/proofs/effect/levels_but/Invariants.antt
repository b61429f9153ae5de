use Rattle.std.proofs.Common.{◌≡◌}
use Rattle.std.specs.Prelude.{◌++◌}
use Rattle.cyc_types.specs.Regions.{regions_of}
use Rattle.source_typing.specs.Functions.{levels_but}
use Rattle.check_heads.proofs.effect.levels_but.Given as goal

-- those so far and the rest are all
abbrev pub invariant-each : goal.invariant-each
invariant-each l = regions_of l.regions.items ++ levels_but (regions_of l.keys) l.rest ≡ levels_but (regions_of l.keys) l.count

abbrev pub decreases-each : goal.decreases-each
decreases-each l = l.rest
