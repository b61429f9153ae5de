use Rattle.cyc_types.specs.Regions.{region_of, regions_of}
use Rattle.cyc_tree.specs.View.{region_tree}
use Rattle.source_typing.specs.Functions.{effect_region}
use Rattle.check_heads.proofs.Effects.{UsedTo}
use Rattle.check_heads.proofs.effect.effect_regions.Given as goal

-- those so far
abbrev pub invariant-each : goal.invariant-each
invariant-each l = UsedTo region_of (λ r. effect_region l.lenient l.names (regions_of l.keys) (region_tree r)) l.regions l.region-index l.used
