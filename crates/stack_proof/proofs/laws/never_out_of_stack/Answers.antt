use Rattle.stack_proof.proofs.Suffices.{never_out_of_stack}
use Rattle.stack_proof.proofs.laws.never_out_of_stack.Goals as goal

pub returns : goal.returns
returns c = never_out_of_stack
