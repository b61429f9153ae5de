use Rattle.std.proofs.Common.{length}
use Rattle.core_meaning.specs.Steps.{Returns}
use Rattle.core_eval.specs.Pendings.{Leave, optional_value, waits_of}
use Rattle.core_eval.specs.Standing.{known_of}
use Rattle.core_eval.proofs.Follows.{Reaches}
use Rattle.core_eval.proofs.take.leave_function.Given as goal

abbrev pub invariant-waits : goal.invariant-waits
invariant-waits l = Reaches (Leave (Returns (optional_value l.fn.returned))) (waits_of l.fn.stack.items) (known_of l.fn.frame l.fn.memory)
    (Leave (Returns (optional_value l.fn.returned))) (waits_of l.stack.items) (known_of l.frame l.memory)

abbrev pub decreases-waits : goal.decreases-waits
decreases-waits l = length (waits_of l.stack.items)
