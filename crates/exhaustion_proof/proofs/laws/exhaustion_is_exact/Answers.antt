use Rattle.exhaustion_proof.proofs.Exhausted.{exhaustion_is_exact}
use Rattle.exhaustion_proof.proofs.laws.exhaustion_is_exact.Goals as goal

pub returns : goal.returns
returns c = exhaustion_is_exact
