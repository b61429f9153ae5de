use Rattle.std.proofs.Common.{rules}
use Rattle.core_eval.proofs.Lists.{first_left}
use Rattle.core_eval.proofs.memory.Memory.leave_block.Goals as goal

pub returns-in-Some-clause-blocks : goal.returns-in-Some-clause-blocks
returns-in-Some-clause-blocks c =
    first_left c.pop_front.result c.args.self.now.blocks.items c.pop_front.new.self.items c.pop_front.ensures.items (λ none. search rules)

pub returns-in-None-clause-blocks : goal.returns-in-None-clause-blocks
returns-in-None-clause-blocks c =
    first_left c.pop_front.result c.args.self.now.blocks.items c.pop_front.new.self.items c.pop_front.ensures.items (λ none. search rules)
