use Rattle.accepted_proof.proofs.samples.RefusedPrograms.{each_is_needed}
use Rattle.accepted_proof.proofs.laws.refused_get_stuck.Goals as goal

pub returns : goal.returns
returns c = each_is_needed
