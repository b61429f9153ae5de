use Rattle.std.proofs.Common.{ap, ◌∙◌, sym, subst}
use Rattle.core_meaning.specs.Steps as steps
use Rattle.core_eval.specs.Pendings.{Wait, caller_of, wait_of}
use Rattle.core_eval.specs.Standing.{known_of}
use Rattle.core_eval.specs.Costs.{EndsWithin}
use Rattle.core_eval.proofs.LeaveMoves.{then_returns, breakable_returns, test_leaves, turn_returns}
use Rattle.core_eval.proofs.Taken.{block_left}
use Rattle.core_eval.proofs.take.end_within.Goals as goal

pub returns-in-Caller-clause-caller : goal.returns-in-Caller-clause-caller
returns-in-Caller-clause-caller c = ap wait_of c.in-Caller.is ∙ ap caller_of (sym c.into_inner.ensures)

pub returns-in-Block-clause-within : goal.returns-in-Block-clause-within
returns-in-Block-clause-within c =
    let m = c.args.memory.now in
    let m' = c.leave_block.new.self in
    subst (λ (w : Wait). EndsWithin w m m') (sym (ap wait_of c.in-Block.is))
    (λ vs ws frame. block_left (steps.Returns vs) ws frame m m' c.leave_block.ensures.blocks c.leave_block.ensures.entered c.leave_block.ensures.owns
    c.leave_block.ensures.called c.leave_block.ensures.globals c.leave_block.ensures.regions c.leave_block.ensures.long_blocks)

pub returns-in-Then-clause-within : goal.returns-in-Then-clause-within
returns-in-Then-clause-within c =
    let m = c.args.memory.now in
    subst (λ (w : Wait). EndsWithin w m m) (sym (ap wait_of c.in-Then.is)) (λ vs ws frame. then_returns (known_of frame m) ws _ vs)

pub returns-in-Test-clause-within : goal.returns-in-Test-clause-within
returns-in-Test-clause-within c =
    let m = c.args.memory.now in
    subst (λ (w : Wait). EndsWithin w m m) (sym (ap wait_of c.in-Test.is)) (λ vs ws frame. test_leaves (known_of frame m) ws _ _ _ (steps.Returns vs) tt)

pub returns-in-Body-clause-within : goal.returns-in-Body-clause-within
returns-in-Body-clause-within c =
    let m = c.args.memory.now in
    subst (λ (w : Wait). EndsWithin w m m) (sym (ap wait_of c.in-Body.is)) (λ vs ws frame. turn_returns (known_of frame m) ws _ _ _ vs)

pub returns-in-Breakable-clause-within : goal.returns-in-Breakable-clause-within
returns-in-Breakable-clause-within c =
    let m = c.args.memory.now in
    subst (λ (w : Wait). EndsWithin w m m) (sym (ap wait_of c.in-Breakable.is)) (λ vs ws frame. breakable_returns (known_of frame m) ws vs)
