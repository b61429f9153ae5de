use Rattle.flow_summaries.proofs.Expressions.{uses_told}
use Rattle.flow_summaries.proofs.laws.expressions_do_as_told.Goals as goal

pub returns : goal.returns
returns c = λ g e. uses_told e g
