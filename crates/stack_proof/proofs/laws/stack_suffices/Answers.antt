use Rattle.stack_proof.proofs.Runs.{stack_suffices}
use Rattle.stack_proof.proofs.laws.stack_suffices.Goals as goal

pub returns : goal.returns
returns c = stack_suffices
