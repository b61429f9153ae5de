use Rattle.flow_summaries.specs.Passages.{unchanged}
use Rattle.flow_check.proofs.parts.idle.Goals as goal

pub returns : goal.returns
returns c = λ how. c.value.ensures how unchanged c.nothing.ensures
