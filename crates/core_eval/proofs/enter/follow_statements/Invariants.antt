use Rattle.std.proofs.Common.{length}
use Rattle.cyc_core.specs.Trees.{body_tree}
use Rattle.core_eval.specs.Pendings.{Follow, waits_of}
use Rattle.core_eval.specs.Standing.{known_of}
use Rattle.core_eval.proofs.Follows.{Reaches}
use Rattle.core_eval.proofs.enter.follow_statements.Given as goal

abbrev pub invariant-each : goal.invariant-each
invariant-each l = Reaches (Follow (body_tree l.fn.statements)) (waits_of l.fn.stack.items) (known_of l.fn.frame l.fn.memory)
    (Follow (body_tree l.rest)) (waits_of l.stack.items) (known_of l.frame l.memory)

abbrev pub decreases-each : goal.decreases-each
decreases-each l = length l.rest
