use Rattle.std.proofs.Common.{◌+◌}
use Rattle.core_eval.specs.Pendings.{next_of, waits_of}
use Rattle.core_eval.specs.Standing.{StandsStill, known_of}
use Rattle.core_eval.specs.Costs.{next_cost, waits_cost}
use Rattle.core_eval.proofs.running.advance.Given as goal

abbrev pub invariant-moves : goal.invariant-moves
invariant-moves l = StandsStill (next_of l.fn.start) (waits_of l.fn.stack.items) (known_of l.fn.frame l.fn.memory) (next_of l.due)
    (waits_of l.stack.items) (known_of l.frame l.memory)

abbrev pub decreases-moves : goal.decreases-moves
decreases-moves l = next_cost (next_of l.due) + waits_cost (waits_of l.stack.items)
