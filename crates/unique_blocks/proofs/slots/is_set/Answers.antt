use Rattle.region_runtime.specs.Pool.{word_of}
use Rattle.unique_blocks.proofs.Words.{bit_read}
use Rattle.unique_blocks.proofs.slots.is_set.Goals as goal

pub returns : goal.returns
returns c = bit_read (word_of c.args.pool.now) c.args.page c.args.slot c.word.result c.requires c.word.ensures
