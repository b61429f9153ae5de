use Rattle.std.proofs.Common.{◌∙◌}
use Rattle.cyc_types.specs.Regions.{region_of}
use Rattle.check_regions.proofs.Ruled.{any_among}
use Rattle.check_regions.proofs.scope.is_among.Goals as goal

-- src/scope.rt:43:1
pub returns : goal.returns
returns c = c.is_one_of.ensures ∙ any_among c.args.regions.now (region_of c.args.region)
