use Rattle.core_meaning.specs.Steps.{Returns}
use Rattle.core_eval.specs.Pendings.{caller_of, next_of, optional_value, wait_of, waits_of}
use Rattle.core_eval.specs.Standing.{LeavesCall, known_of}
use Rattle.core_eval.proofs.Follows.{reached, reaches_move}
use Rattle.core_eval.proofs.Taken.{main_left}
use Rattle.core_eval.proofs.Returning.{ended, gone_on}
use Rattle.core_eval.proofs.take.leave_function.Goals as goal

pub waits-init : goal.waits-init
waits-init c = reached _ _ _

pub waits-preserved : goal.waits-preserved
waits-preserved c =
    ended c.waits.frame c.waits.memory c.waits.invariant (wait_of c.in-Some.pending) (waits_of c.next.new.stack.items) c.in-Some.ensures.some
    c.end_within.new.memory c.in_default-end_within.ensures.within

pub returns-in_default : goal.returns-in_default
returns-in_default c =
    let known = known_of c.waits.frame c.waits.memory in
    reaches_move c.waits.invariant (next_of c.status.result) (waits_of c.next.new.stack.items) known
    (main_left (Returns (optional_value c.args.returned)) (waits_of c.waits.stack.items) (waits_of c.next.new.stack.items) known (next_of c.status.result)
    c.in_default.ensures.none c.in_default.ensures.still (c.status.ensures known))

pub returns-in-Some-end_within : goal.returns-in-Some-end_within
returns-in-Some-end_within c =
    let m = c.end_within.new.memory in
    let m' = c.leave_call.new.self in
    let left : LeavesCall m m' = record {
      blocks = c.leave_call.ensures.blocks;
      entered = c.leave_call.ensures.entered;
      owns = c.leave_call.ensures.owns;
      called = c.leave_call.ensures.called;
      globals = c.leave_call.ensures.globals;
      regions = c.leave_call.ensures.regions;
      long_blocks = c.leave_call.ensures.long_blocks;
    } in
    gone_on c.waits.frame c.waits.memory c.waits.invariant (wait_of c.in-Some.pending) (waits_of c.next.new.stack.items) c.in-Some.ensures.some
    c.take_caller.result (caller_of c.in-Some-end_within.caller) c.take_caller.new.frame m m' c.in-Some-end_within.ensures.caller
    c.in-Some-end_within.ensures.same left c.take_caller.ensures
