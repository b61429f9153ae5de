use Rattle.region_runtime.specs.Pool.{word_of}
use Rattle.unique_blocks.proofs.Words.{bit_read}
use Rattle.unique_blocks.proofs.slots.finds.Goals as goal

pub returns-clause-value : goal.returns-clause-value
returns-clause-value c =
    bit_read (word_of c.args.pool.now) c.args.page c.args.slot c.read.result c.requires.slot c.read.ensures.value
