use Rattle.flow_summaries.proofs.Effects.{head_is}
use Rattle.flow_summaries.proofs.laws.loops_turn_once.Goals as goal

pub returns : goal.returns
returns c = head_is
