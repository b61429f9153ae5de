use Rattle.accepted_proof.proofs.Joined.{accepted_are_never_stuck}
use Rattle.cyc_meaning.proofs.laws.never_stuck.Goals as goal

pub returns : goal.returns
returns c = accepted_are_never_stuck c.args.checked.now c.program.ensures.accepted
