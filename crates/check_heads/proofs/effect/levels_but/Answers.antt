use Rattle.std.proofs.Common.{◌-◌, ◌∙◌, arith}
use Rattle.cyc_types.specs.Regions.{regions_of}
use Rattle.check_heads.proofs.Effects.{one_level}
use Rattle.check_heads.proofs.effect.levels_but.Goals as goal

pub each-preserved : goal.each-preserved
each-preserved c =
    one_level (regions_of c.args.keys.now) c.each.regions.items c.add_level.new.regions.items (c.each.rest - 1) c.each.rest (omega (arith, c.each-test.true))
    c.in_ok-add_level.ensures
    ∙ c.each.invariant
