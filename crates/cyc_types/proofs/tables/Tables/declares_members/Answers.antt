use Rattle.std.proofs.Common.{◌∙◌}
use Rattle.cyc_types.proofs.InOrder.{all_declared}
use Rattle.cyc_types.proofs.tables.Tables.declares_members.Goals as goal

pub returns : goal.returns
returns c = c.has_members.ensures ∙ all_declared c.args.self.now.tags.entries c.args.members.now
