use Rattle.std.proofs.Common.{◌≡◌, ◌∷◌, true, length, refl, rules}
use Rattle.core_eval.specs.declared.pending.Flow.TheVariants as flow
use Rattle.core_eval.specs.declared.pending.Now.TheVariants as now
use Rattle.core_eval.specs.declared.pending.Due.TheVariants as due
use Rattle.core_eval.specs.Pendings.{waits_of}
use Rattle.core_eval.specs.Standing.{known_of}
use Rattle.core_eval.proofs.Follows.{reached, from_same, ends, entered_answer, operation_done, operation_due}
use Rattle.core_eval.proofs.enter.follow_statements.Goals as goal

pub each-init : goal.each-init
each-init c = reached _ _ _

pub returns-in_default : goal.returns-in_default
returns-in_default c =
    let none : length c.each.rest.now ≡ 0 = search rules in
    ends c.each.rest.now none c.each.invariant

pub returns-in_default-statement : goal.returns-in_default-statement
returns-in_default-statement c =
    let is : c.each.rest.now ≡ c.in-Some.statement.now ∷ c.in-Some.others.now = search rules in
    entered_answer c.each.rest.now c.in-Some.statement.now c.in-Some.others.now is c.each.invariant c.enter_statement.result
    (waits_of c.wait_for_others.new.stack.items) _ _ c.in_ok-wait_for_others.ensures c.enter_statement.ensures

pub returns-then-not-is_over : goal.returns-then-not-is_over
returns-then-not-is_over c =
    let is : c.each.rest.now ≡ c.in-Some.statement.now ∷ c.in-Some.others.now = search rules in
    operation_due c.each.rest.now c.in-Some.statement.now c.in-Some.others.now is c.each.invariant c.in-Do.field-0 c.in-Do.operation c.in-Do.is c.in_ok-due.due
    (waits_of c.wait_for_others-then-not-is_over.new.stack.items) (known_of c.operate.new.frame c.operate.new.memory)
    c.in_ok-wait_for_others-2.ensures (from_same _ _ _ _ _ (c.in_ok-is_done.ensures.kept c.if-is_done.false) c.in_ok-due.ensures)

pub each-preserved : goal.each-preserved
each-preserved c =
    let over : c.is_over.result ≡ true = search rules in
    let is : c.each.rest.now ≡ c.in-Some.statement.now ∷ c.in-Some.others.now = search rules in
    operation_done c.each.rest.now c.in-Some.statement.now c.in-Some.others.now is c.each.invariant c.in-Do.field-0 c.in-Do.operation c.in-Do.is c.in_ok-due.due
    (known_of c.operate.new.frame c.operate.new.memory) (c.is_over.ensures over)
    (from_same _ _ _ _ _ (c.in_ok-is_done.ensures.kept c.if-is_done.false) c.in_ok-due.ensures)

pub each-preserved-then-is_done : goal.each-preserved-then-is_done
each-preserved-then-is_done c =
    let is : c.each.rest.now ≡ c.in-Some.statement.now ∷ c.in-Some.others.now = search rules in
    operation_done c.each.rest.now c.in-Some.statement.now c.in-Some.others.now is c.each.invariant c.in-Do.field-0 c.in-Do.operation c.in-Do.is
    (due.Go (now.Leave flow.Falls))
    (known_of c.operate_on_words.new.frame c.operate_on_words.new.memory) refl (c.in_ok-is_done.ensures.done c.if-is_done.true)
