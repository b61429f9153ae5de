use Rattle.arena_laws.proofs.Living.{live_blocks}
use Rattle.arena_laws.proofs.laws.live_blocks.Goals as goal

pub returns : goal.returns
returns c = live_blocks
