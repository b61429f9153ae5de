use Rattle.stack_needs.proofs.Suffices.{answered_stack_suffices}
use Rattle.stack_needs.proofs.laws.answered_stack_suffices.Goals as goal

pub returns : goal.returns
returns c = answered_stack_suffices
