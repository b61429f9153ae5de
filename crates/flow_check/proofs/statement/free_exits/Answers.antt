use Rattle.std.proofs.Common.{ap, ◌∙◌}
use Rattle.flow_summaries.specs.Exits.{ends_after}
use Rattle.flow_check.proofs.statement.free_exits.Goals as goal

pub returns : goal.returns
returns c g locals = c.ends_after.ensures ∙ ap ends_after (c.in_ok-freed.ensures g locals)
