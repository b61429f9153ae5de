use Rattle.stack_proof.proofs.Suffices.{cuts_are_requests}
use Rattle.stack_proof.proofs.laws.cuts_are_requests.Goals as goal

pub returns : goal.returns
returns c = cuts_are_requests
