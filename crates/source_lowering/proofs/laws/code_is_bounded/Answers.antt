use Rattle.source_lowering.proofs.bounds.Bounded.{code_bounded}
use Rattle.source_lowering.proofs.laws.code_is_bounded.Goals as goal

pub returns : goal.returns
returns c = code_bounded
