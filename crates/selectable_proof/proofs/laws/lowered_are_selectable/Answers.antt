use Rattle.selectable_proof.proofs.Selectable.{selectable}
use Rattle.selectable_proof.proofs.laws.lowered_are_selectable.Goals as goal

pub returns : goal.returns
returns c = selectable
