use Rattle.core_eval.specs.Pendings.{exit_of}
use Rattle.core_eval.proofs.Taken.{block_left}
use Rattle.core_eval.proofs.take.take_block.Goals as goal

pub returns : goal.returns
returns c = λ ws frame. block_left (exit_of c.args.flow) ws frame c.args.memory.now c.leave_block.new.self
    c.leave_block.ensures.blocks c.leave_block.ensures.entered c.leave_block.ensures.owns c.leave_block.ensures.called c.leave_block.ensures.globals
    c.leave_block.ensures.regions c.leave_block.ensures.long_blocks
