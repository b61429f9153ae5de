use Rattle.std.proofs.Common.{◌∙◌, ap}
use Rattle.region_runtime.specs.Pool.{word_of}
use Rattle.unique_blocks.specs.Slots.{slots_by}
use Rattle.unique_blocks.proofs.Words.{bit_set}
use Rattle.unique_blocks.proofs.slots.set_bit.Goals as goal

pub returns-clause-slots : goal.returns-clause-slots
returns-clause-slots c =
    ap slots_by c.set_word.ensures.words ∙ bit_set (word_of c.args.pool.now) c.args.page c.args.slot c.read.result c.requires.slot c.read.ensures.value
