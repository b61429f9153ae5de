use Rattle.source_grammar.proofs.Operands.{has_operands}
use Rattle.token_proof.proofs.laws.spelled_has_operands.Goals as goal

pub returns : goal.returns
returns c = has_operands
