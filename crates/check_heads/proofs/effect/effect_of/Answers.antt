use Rattle.std.proofs.Common.{ap, map, refl, subst, sym, ◌∙◌}
use Rattle.std.specs.Prelude.{IfOk, None, Option}
use Rattle.cyc_tree.specs.View.{effect_tree, region_tree}
use Rattle.cyc_types.specs.Regions.{region_of, regions_of}
use Rattle.cyc_types.specs.declared.region.RegionId.{RegionId}
use Rattle.source_typing.specs.Functions.{effect_of, effect_region, levels_but}
use Rattle.check_heads.specs.Used.{IsUsed}
use Rattle.check_heads.specs.declared.effect.Used.{Used}
use Rattle.check_heads.proofs.Effects.{levels_used}
use Rattle.check_heads.proofs.effect.effect_of.Goals as goal

pub returns-in-Some : goal.returns-in-Some
returns-in-Some c =
    let keys = regions_of c.args.keys.now in
    let lenient = c.args.lenient in
    let r = c.effect_regions.result in
    subst (λ (e : Option _). IfOk r (IsUsed region_of (effect_of lenient c.args.variables.now keys (effect_tree e)))) (sym c.in-Some.is)
    (subst (λ rs. IfOk r (IsUsed region_of (map (effect_region lenient c.args.variables.now.names keys) (map region_tree rs)))) c.as_slice-written.ensures
    (subst (λ ns. IfOk r (IsUsed region_of (map (effect_region lenient ns keys) (map region_tree c.as_slice-written.result.now)))) c.names.ensures
    c.effect_regions.ensures))

pub returns-in_ok-known-in-None : goal.returns-in_ok-known-in-None
returns-in_ok-known-in-None c =
    let keys = regions_of c.args.keys.now in
    let vs = c.args.variables.now in
    let u : Used RegionId = record { known = c.in_ok-known-in-None.known; fault = None } in
    subst (λ (e : Option _). IsUsed region_of (effect_of c.args.lenient vs keys (effect_tree e)) u) (sym c.in-None.is)
    (levels_used keys vs.count u (c.in_ok-known-in-None.ensures ∙ ap (levels_but keys) c.count.ensures) refl)
