use Rattle.std.proofs.Common.{◌∙◌, ap}
use Rattle.region_runtime.specs.Headers.{put_word}
use Rattle.region_runtime.specs.Pool.{word_of}
use Rattle.unique_blocks.specs.Slots.{slots_by}
use Rattle.unique_blocks.proofs.Words.{bits_cleared}
use Rattle.unique_blocks.proofs.slots.clear_bits.Goals as goal

pub returns-clause-slots : goal.returns-clause-slots
returns-clause-slots c =
    let p = c.args.page in
    ap slots_by (c.set_word-4.ensures.words ∙ ap (put_word p 8 0) (c.set_word-3.ensures.words ∙ ap (put_word p 7 0) (c.set_word-2.ensures.words
    ∙ ap (put_word p 6 0) c.set_word.ensures.words))) ∙ bits_cleared (word_of c.args.pool.now) p
