use Rattle.type_proof.proofs.Never.{never_stuck}
use Rattle.type_proof.proofs.laws.never_stuck.Goals as goal

pub returns : goal.returns
returns c = never_stuck
