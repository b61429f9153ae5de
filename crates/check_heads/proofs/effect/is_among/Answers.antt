use Rattle.std.proofs.Common.{◌∙◌}
use Rattle.cyc_types.specs.Regions.{region_of}
use Rattle.check_regions.proofs.Ruled.{any_among}
use Rattle.check_heads.proofs.effect.is_among.Goals as goal

pub returns : goal.returns
returns c = c.is_one_of.ensures ∙ any_among c.args.regions.now (region_of c.args.region)
