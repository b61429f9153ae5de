use Rattle.accepted_proof.proofs.Joined.{judged}
use Rattle.accepted_proof.proofs.laws.accepted_are_judged.Goals as goal

pub returns : goal.returns
returns c = judged
