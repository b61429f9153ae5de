use Rattle.compile_proof.proofs.LowerableDo.{lowerable_do}
use Rattle.compile_proof.proofs.laws.lowerable_do.Goals as goal

pub returns : goal.returns
returns c = lowerable_do
