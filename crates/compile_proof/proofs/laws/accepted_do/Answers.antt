use Rattle.compile_proof.proofs.AcceptedDo.{accepted_do}
use Rattle.compile_proof.proofs.laws.accepted_do.Goals as goal

pub returns : goal.returns
returns c = accepted_do
