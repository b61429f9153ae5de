use Rattle.cyc_format.proofs.SpelledKinds.{same_kinds}
use Rattle.cyc_format.proofs.laws.kinds_are_spelled.Goals as goal

pub returns : goal.returns
returns c = same_kinds
