use Rattle.accepted_proof.proofs.Joined.{have_main}
use Rattle.accepted_proof.proofs.laws.accepted_have_main.Goals as goal

pub returns : goal.returns
returns c = have_main
