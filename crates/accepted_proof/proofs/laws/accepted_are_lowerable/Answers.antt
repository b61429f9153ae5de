use Rattle.accepted_proof.proofs.Joined.{lowerable}
use Rattle.accepted_proof.proofs.laws.accepted_are_lowerable.Goals as goal

pub returns : goal.returns
returns c = lowerable
