use Rattle.stack_proof.proofs.Suffices.{room_is_pages}
use Rattle.stack_proof.proofs.laws.room_is_pages.Goals as goal

pub returns : goal.returns
returns c = room_is_pages
