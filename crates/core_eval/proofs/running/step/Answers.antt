use Rattle.std.proofs.Common.{ap}
use Rattle.cyc_core.specs.Trees.{body_tree}
use Rattle.core_eval.specs.Pendings.{Follow, Leave, exit_of, task_of, waits_of}
use Rattle.core_eval.specs.Standing.{known_of}
use Rattle.core_eval.proofs.Taken.{task_as}
use Rattle.core_eval.proofs.running.step.Goals as goal

pub returns-in-Follow : goal.returns-in-Follow
returns-in-Follow c =
    let known = known_of c.args.frame.now c.args.memory.now in
    task_as c.follow_statements.result (Follow (body_tree c.in-Follow.statements.now)) (task_of c.args.now) (waits_of c.args.stack.now.items) known _ _
    (ap task_of c.in-Follow.is) c.follow_statements.ensures

pub returns-in-Leave : goal.returns-in-Leave
returns-in-Leave c =
    let known = known_of c.args.frame.now c.args.memory.now in
    task_as c.take_flow.result (Leave (exit_of c.in-Leave.flow)) (task_of c.args.now) (waits_of c.args.stack.now.items) known _ _ (ap task_of c.in-Leave.is)
    c.take_flow.ensures
