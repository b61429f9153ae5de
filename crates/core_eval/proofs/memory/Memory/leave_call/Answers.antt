use Rattle.std.proofs.Common.{rules}
use Rattle.core_eval.proofs.Lists.{first_left}
use Rattle.core_eval.proofs.memory.Memory.leave_call.Goals as goal

pub returns-in-Some-clause-owns : goal.returns-in-Some-clause-owns
returns-in-Some-clause-owns c =
    first_left c.pop_front.result c.args.self.now.owns.items c.pop_front.new.self.items c.pop_front.ensures.items (λ none. search rules)

pub returns-in-None-clause-owns : goal.returns-in-None-clause-owns
returns-in-None-clause-owns c =
    first_left c.pop_front.result c.args.self.now.owns.items c.pop_front.new.self.items c.pop_front.ensures.items (λ none. search rules)
