use Rattle.std.proofs.Common.{◌∙◌, ap}
use Rattle.region_runtime.specs.Pool.{word_of}
use Rattle.unique_blocks.specs.Slots.{slots_by, with_live, with_next, with_no_bits}
use Rattle.unique_blocks.proofs.Words.{class_put}
use Rattle.unique_blocks.proofs.slots.cut.Goals as goal

pub returns-clause-slots : goal.returns-clause-slots
returns-clause-slots c =
    let p = c.args.page in
    c.set_next.ensures.slots ∙ ap (with_next p 0) (c.set_live.ensures.slots ∙ ap (with_live p 0) (c.clear_bits.ensures.slots
    ∙ ap (with_no_bits p) (ap slots_by c.set_word.ensures.words ∙ class_put (word_of c.args.pool.now) p c.args.class)))
