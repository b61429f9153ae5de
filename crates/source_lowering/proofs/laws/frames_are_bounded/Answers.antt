use Rattle.source_lowering.proofs.bounds.Bounded.{program_frames_bounded}
use Rattle.source_lowering.proofs.laws.frames_are_bounded.Goals as goal

pub returns : goal.returns
returns c = program_frames_bounded
