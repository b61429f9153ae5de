use Rattle.source_lowering.proofs.Programs.{programs_are_the_same}
use Rattle.source_lowering.proofs.laws.programs_are_the_same.Goals as goal

pub returns : goal.returns
returns c = programs_are_the_same
