use Rattle.std.proofs.Common.{◌∷◌, refl, ap, ◌∙◌}
use Rattle.cyc_core.specs.Trees.{optional_tree}
use Rattle.core_eval.specs.declared.caller.Waiting.{Waiting}
use Rattle.core_eval.specs.declared.pending.Pending.TheVariants as pending
use Rattle.core_eval.specs.Pendings.{Block, Breakable, Wrong, caller_of, exit_of, kept_temps, saved_of, wait_of, waits_of}
use Rattle.core_eval.specs.Standing.{LeavesCall, known_of}
use Rattle.core_eval.proofs.LeaveMoves.{main_wrong, caller_wrong}
use Rattle.core_eval.proofs.Taken.{left_as, left_ok, left_known, left_to, known_here, main_left}
use Rattle.core_eval.proofs.Returning.{no_return}
use Rattle.core_eval.proofs.take.take_flow.Goals as goal

pub returns-in_default : goal.returns-in_default
returns-in_default c =
    let known = known_of c.args.frame.now c.args.memory.now in
    main_left (exit_of c.args.flow) (waits_of c.args.stack.now.items) (waits_of c.next.new.stack.items) known Wrong
    c.in_default.ensures.none c.in_default.ensures.still (main_wrong known (exit_of c.args.flow) (no_return c.args.flow))

pub returns-in-Test-default : goal.returns-in-Test-default
returns-in-Test-default c =
    let ws = waits_of c.next.new.stack.items in
    left_as (exit_of c.args.flow) (exit_of c.args.flow)
    (wait_of (pending.Test c.in-Test-default.flag c.in-Test-default.both) ∷ ws)
    (waits_of c.args.stack.now.items) (known_of c.args.frame.now c.args.memory.now) _ ws _ refl
    (c.in-Some.ensures.some ∙ ap (λ p. wait_of p ∷ ws) c.in-Test-default.is-0)
    (c.take_test.ensures ws c.args.memory.now)

pub returns-in-Body-default : goal.returns-in-Body-default
returns-in-Body-default c =
    let ws = waits_of c.next.new.stack.items in
    let known = known_of c.args.frame.now c.args.memory.now in
    left_ok c.take_body.result (exit_of c.args.flow) (wait_of (pending.Body c.in-Body-default.flag c.in-Body-default.both) ∷ ws)
    (waits_of c.args.stack.now.items) known _ known
    (c.in-Some.ensures.some ∙ ap (λ p. wait_of p ∷ ws) c.in-Body-default.is-0)
    (known_here c.take_body.result _ _ _ known c.take_body.ensures)

pub returns-in-Block-default : goal.returns-in-Block-default
returns-in-Block-default c =
    let ws = waits_of c.next.new.stack.items in
    left_as (exit_of c.args.flow) (exit_of c.args.flow) (Block ∷ ws)
    (waits_of c.args.stack.now.items) (known_of c.args.frame.now c.args.memory.now) _ ws _ refl
    (c.in-Some.ensures.some ∙ ap (λ p. wait_of p ∷ ws) c.in-Block-default.is-0)
    (c.take_block.ensures ws c.args.frame.now)

pub returns-in-Breakable-default : goal.returns-in-Breakable-default
returns-in-Breakable-default c =
    let ws = waits_of c.next.new.stack.items in
    let known = known_of c.args.frame.now c.args.memory.now in
    left_as (exit_of c.args.flow) (exit_of c.args.flow) (Breakable ∷ ws) (waits_of c.args.stack.now.items) known _ ws known refl
    (c.in-Some.ensures.some ∙ ap (λ p. wait_of p ∷ ws) c.in-Breakable-default.is-0)
    (c.take_breakable.ensures ws known)

pub returns-in_ok-go_on-in-Caller-default : goal.returns-in_ok-go_on-in-Caller-default
returns-in_ok-go_on-in-Caller-default c =
    let ws = waits_of c.next.new.stack.items in
    let m = c.args.memory.now in
    let m' = c.leave_call.new.self in
    let left : LeavesCall m m' = record {
      blocks = c.leave_call.ensures.blocks;
      entered = c.leave_call.ensures.entered;
      owns = c.leave_call.ensures.owns;
      called = c.leave_call.ensures.called;
      globals = c.leave_call.ensures.globals;
      regions = c.leave_call.ensures.regions;
      long_blocks = c.leave_call.ensures.long_blocks;
    } in
    let caller = c.in-Caller-default.caller.value in
    let saved = saved_of caller in
    left_to (exit_of c.args.flow) (exit_of c.args.flow) (caller_of caller ∷ ws)
    (waits_of c.args.stack.now.items) (known_of c.args.frame.now m) Wrong ws _ (known_of c.go_on.new.frame m') refl
    (c.in-Some.ensures.some ∙ ap (λ p. wait_of p ∷ ws) c.in-Caller-default.is-0)
    (left_known c.args.frame.now c.go_on.new.frame m m' saved.temps saved.base
    (c.in_ok-go_on-in-Caller-default.ensures.temps ∙ ap (λ (w : Waiting). kept_temps w.temps) c.into_inner.ensures)
    (c.in_ok-go_on-in-Caller-default.ensures.base ∙ ap (λ (w : Waiting). w.base) c.into_inner.ensures) left)
    (caller_wrong (known_of c.args.frame.now m) ws (optional_tree caller.to) caller.function saved (exit_of c.args.flow)
    (no_return c.args.flow))
