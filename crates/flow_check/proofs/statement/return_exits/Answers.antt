use Rattle.std.proofs.Common.{ap, ◌∙◌}
use Rattle.std.specs.Prelude.{None}
use Rattle.flow_summaries.specs.Exits.{exits}
use Rattle.flow_check.proofs.statement.return_exits.Goals as goal

pub returns : goal.returns
returns c g known locals = c.returns.ensures ∙ ap (λ p. exits None None None p.faults) (c.in_ok-result_given.ensures g known locals)
