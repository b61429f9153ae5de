use Rattle.std.proofs.Common.{◌∙◌}
use Rattle.check_regions.proofs.Naming.{found_now}
use Rattle.check_regions.proofs.names.RegionNames.find.Goals as goal

pub returns : goal.returns
returns c =
    found_now c.self.inside.names.entries c.self.invariant c.args.self.now c.self.view_is c.args.name.now c.copied.result
    (c.copied.ensures ∙ c.get.ensures.value)
