use Rattle.std.proofs.Common.{sym, ◌∙◌}
use Rattle.cyc_types.specs.Types.{static_type}
use Rattle.cyc_types.proofs.InLayouts.{extent_known}
use Rattle.cyc_types.proofs.tables.Tables.extent.Goals as goal

pub returns : goal.returns
returns c =
    let self = c.args.self.now in
    c.measure.ensures ∙ sym (extent_known self.tags.entries self.known (static_type c.args.of.now))
