use Rattle.std.proofs.Common.{subst}
use Rattle.cyc_types.specs.Regions.{region_of, regions_of}
use Rattle.cyc_tree.specs.View.{region_tree}
use Rattle.source_typing.specs.Functions.{effect_region}
use Rattle.check_heads.specs.Used.{IsUsed}
use Rattle.check_heads.proofs.Effects.{map_twice, used_all, used_next}
use Rattle.check_heads.proofs.effect.effect_regions.Goals as goal

pub each-preserved : goal.each-preserved
each-preserved c =
    let rule = effect_region c.args.lenient c.args.names.now (regions_of c.args.keys.now) in
    used_next region_of (λ r. rule (region_tree r)) c.args.regions.now c.each.region-index c.region-item.result c.each.used c.add.new.self
    c.effect_region.result c.each-test.true c.region-item.is c.each.invariant c.effect_region.ensures c.in_ok-add.ensures.known c.in_ok-add.ensures.fault

pub returns : goal.returns
returns c =
    let rule = effect_region c.args.lenient c.args.names.now (regions_of c.args.keys.now) in
    let rs = c.args.regions.now in
    subst (λ vs. IsUsed region_of vs c.each.used) (map_twice rule region_tree rs)
    (used_all region_of (λ r. rule (region_tree r)) rs c.each.region-index c.each.used c.each-test.false c.each.invariant)
