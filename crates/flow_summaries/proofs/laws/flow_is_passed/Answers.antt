use Rattle.flow_summaries.proofs.Statements.{flow_told}
use Rattle.flow_summaries.proofs.laws.flow_is_passed.Goals as goal

pub returns : goal.returns
returns c = flow_told
