use Rattle.token_proof.proofs.ProgramSizes.{tokens_pay}
use Rattle.token_proof.proofs.laws.tokens_pay.Goals as goal

pub returns : goal.returns
returns c = tokens_pay
