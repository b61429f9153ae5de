use Rattle.flow_summaries.proofs.Statements.{exits_told}
use Rattle.flow_summaries.proofs.laws.statements_leave_as_told.Goals as goal

pub returns : goal.returns
returns c = λ g x. exits_told x g
