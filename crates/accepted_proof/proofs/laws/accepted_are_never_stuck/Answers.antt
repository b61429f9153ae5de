use Rattle.accepted_proof.proofs.Joined.{accepted_are_never_stuck}
use Rattle.accepted_proof.proofs.laws.accepted_are_never_stuck.Goals as goal

pub returns : goal.returns
returns c = accepted_are_never_stuck
