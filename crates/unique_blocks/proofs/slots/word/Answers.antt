use Rattle.unique_blocks.proofs.Words.{unseen}
use Rattle.unique_blocks.proofs.slots.word.Goals as goal

pub returns-in-None : goal.returns-in-None
returns-in-None c = unseen c.args.pool.now c.args.page c.args.field c.in-None.ensures
