use Rattle.std.proofs.Common.{◌≡◌, ℕ, ◌<◌, List, [], map, Result, Ok, IfOk, OnOk, refl, sym, ap, ◌∙◌, subst, rules}
use Rattle.core_meaning.specs.Memory.{Word}
use Rattle.core_meaning.specs.Core.{Function}
use Rattle.core_meaning.specs.Steps as steps
use Rattle.cyc_core.specs.Trees.{function_tree, optional_tree, body_tree}
use Rattle.core_eval.specs.Values.{content_of}
use Rattle.core_eval.specs.declared.pending.Due.{Due}
use Rattle.core_eval.specs.Pendings.{Follow, Leave, Go, GetcharDue, PutcharDue, TurnDue, CallDue, next_of, waits_of}
use Rattle.core_eval.specs.Standing.{Gives, IsCall, known_of}
use Rattle.cyc_host.proofs.Transfers.{of_err, of_ok, all_written}
use Rattle.core_eval.proofs.Answered.{given_known}
use Rattle.core_eval.proofs.Stages.{stage_still, stage_put, stage_get, stage_turn, stage_call, stage_wrote, stage_as}
use Rattle.core_eval.proofs.Endings.{over_answer, stage_stopped, got_stopped, unput_stopped, put_stopped, fetch_answer}
use Rattle.core_eval.proofs.running.pay_unit.Goals as goal
use Rattle.core_eval.proofs.running.pay_unit.Goals.{in-Getchar+in-Ok-fetch, in-Putchar+else-is_err, in-Turn, in-Call}

pub returns-in_default-clause-ends : goal.returns-in_default-clause-ends
returns-in_default-clause-ends g c = λ p fuel read written stage. stage_stopped stage c.finish.result _ c.finish.ensures.same c.finish.ensures.written

pub returns-in-Some-clause-ends : goal.returns-in-Some-clause-ends
returns-in-Some-clause-ends g c = λ p fuel read written stage.
    let x = stage_still _ stage _ _ _ c.in-Ok.ensures.still in
    over_answer x c.in-Some.ending c.finish-in-Some.result _ c.in-Some.ensures.over c.finish-in-Some.ensures.same c.finish-in-Some.ensures.written

pub returns-in-Err-clause-ends : goal.returns-in-Err-clause-ends
returns-in-Err-clause-ends g c = λ p fuel read written stage.
    let some : 0 < c.args.left = c.in_default-ending_of.ensures.payable.1 in
    let x = stage_still _ stage _ _ _ c.in-Ok.ensures.still in
    let y = stage_as _ x (GetcharDue c.in-Getchar.to.0) _ _ _ (sym (ap next_of c.in-Getchar.is)) refl refl refl in
    fetch_answer y some c.in-Err.ending _ _ c.in-Err.ensures.fault

pub returns-then-is_err-clause-ends : goal.returns-then-is_err-clause-ends
returns-then-is_err-clause-ends g c = λ p fuel read written stage.
    let some : 0 < c.args.left = c.in_default-ending_of.ensures.payable.1 in
    let x = stage_still _ stage _ _ _ c.in-Ok.ensures.still in
    let y = stage_as _ x (PutcharDue c.in-Putchar.to.0 c.in-Putchar.byte) _ _ _ (sym (ap next_of c.in-Putchar.is)) refl refl refl in
    unput_stopped y some _ (of_err c.put.result c.put.ensures.some (sym c.is_err.ensures.value ∙ c.if-is_err.true))

pub returns-in-Err-paid-clause-ends : goal.returns-in-Err-paid-clause-ends
returns-in-Err-paid-clause-ends g c = λ p fuel read written stage.
    let some : 0 < c.args.left = c.in_default-ending_of.ensures.payable.1 in
    let x = stage_still _ stage _ _ _ c.in-Ok.ensures.still in
    let f = c.finish-in-Err-paid in
    elim c.match-rest-2.branch [
      | in-Getchar+in-Ok-fetch w ↦
          let y = stage_as _ x (GetcharDue w.in-Getchar.to.0) _ _ _ (sym (ap next_of w.in-Getchar.is)) refl refl refl in
          let flushed = stage_wrote _ y _ [] (all_written _ _ _ w.in-Ok-fetch.ensures.all) in
          let z = stage_as _ flushed _ _ _ w.fetch.new.gathered refl refl refl w.in-Ok-fetch.ensures.empty in
          rw w.reader-is (got_stopped z some _ _ w.in-Ok-fetch.answer w.in-Ok-fetch.ensures.answer (search rules) f.result _ f.ensures.same
          (rw (w.writer-is, w.streams-is) at f.ensures.written))
      | in-Putchar+else-is_err w ↦
          let y = stage_as _ x (PutcharDue w.in-Putchar.to.0 w.in-Putchar.byte) _ _ _ (sym (ap next_of w.in-Putchar.is)) refl refl refl in
          let moved = of_ok w.put.result w.put.ensures.all (sym w.is_err.ensures.value ∙ w.if-is_err.false) in
          rw w.reader-is (put_stopped y some _ _ moved f.result _ f.ensures.same (rw (w.writer-is, w.streams-is) at f.ensures.written))
      | in-Turn w ↦ rw w.reader-is (stage_stopped x f.result _ f.ensures.same (rw (w.writer-is, w.streams-is) at f.ensures.written))
      | in-Call w ↦ rw w.reader-is (stage_stopped x f.result _ f.ensures.same (rw (w.writer-is, w.streams-is) at f.ensures.written))
    ]

-- what a result that is `Ok` ensures
if_ok : {E : Type 0} (r : Result Due E) (P : Due → Type 0) (due : Due) → r ≡ Ok due → IfOk r P → P due
if_ok {E = E} r P due is h = subst (λ (x : Result Due E). IfOk x P) is h

on_ok : {E P : Type 0} (r : Result Due E) (due : Due) → r ≡ Ok due → OnOk r P → P
on_ok {E = E} {P = P} r due is h = subst (λ (x : Result Due E). OnOk x P) is h

pub returns-in-Ok-paid-clause-goes_on : goal.returns-in-Ok-paid-clause-goes_on
returns-in-Ok-paid-clause-goes_on g c = λ p fuel read written same stage.
    let next = c.in-Ok-paid.next in
    let some : 0 < c.args.left = c.in_default-ending_of.ensures.payable.1 in
    let x = stage_still _ stage _ _ _ c.in-Ok.ensures.still in
    elim c.match-rest-2.branch [
      | in-Getchar+in-Ok-fetch w ↦
          let e = sym w.paid-is ∙ c.in-Ok-paid.is in
          let y = stage_as _ x (GetcharDue w.in-Getchar.to.0) _ _ _ (sym (ap next_of w.in-Getchar.is)) refl refl refl in
          let flushed = stage_wrote _ y _ [] (all_written _ _ _ w.in-Ok-fetch.ensures.all) in
          let z = stage_as _ flushed _ _ _ w.fetch.new.gathered refl refl refl w.in-Ok-fetch.ensures.empty in
          let gives = subst (λ (n : ℕ). Gives w.in-Getchar.to.0 (Word n) c.advance.new.frame.temps.items w.give.new.frame.temps.items) w.byte_word.ensures
          (on_ok w.give.result next e w.give.ensures.gives) in
          let got = stage_get w.in-Getchar.to.0 w.give.new.frame.temps.items z some _ _ w.in-Ok-fetch.answer w.in-Ok-fetch.ensures.answer
          (search rules) gives in
          rw (w.reader-is, w.writer-is, w.streams-is, w.run-is)
          (stage_as _ got _ _ _ _ (if_ok w.give.result (λ due. next_of due ≡ Go (Leave steps.Falls)) next e w.give.ensures.next) refl
          (given_known c.advance.new.frame w.give.new.frame c.advance.new.memory (on_ok w.give.result next e w.give.ensures.base)) refl)
      | in-Putchar+else-is_err w ↦
          let e = sym w.paid-is ∙ c.in-Ok-paid.is in
          let y = stage_as _ x (PutcharDue w.in-Putchar.to.0 w.in-Putchar.byte) _ _ _ (sym (ap next_of w.in-Putchar.is)) refl refl refl in
          let ok = sym w.is_err.ensures.value ∙ w.if-is_err.false in
          let z = stage_put w.in-Putchar.to.0 w.in-Putchar.byte w.give-paid.new.frame.temps.items y some
          (on_ok w.give-paid.result next e w.give-paid.ensures.gives) in
          let moved = stage_wrote _ z _ _ (of_ok w.put.result w.put.ensures.all ok) in
          rw (w.reader-is, w.writer-is, w.streams-is, w.run-is)
          (stage_as _ moved _ _ _ _ (if_ok w.give-paid.result (λ due. next_of due ≡ Go (Leave steps.Falls)) next e w.give-paid.ensures.next) refl
          (given_known c.advance.new.frame w.give-paid.new.frame c.advance.new.memory
          (on_ok w.give-paid.result next e w.give-paid.ensures.base)) refl)
      | in-Turn w ↦
          let e = sym w.paid-is ∙ c.in-Ok-paid.is in
          let test = body_tree w.in-Turn.both.now.value.0.items in
          let body = body_tree w.in-Turn.both.now.value.1.items in
          let y = stage_as _ x (TurnDue test w.in-Turn.flag.0 body) _ _ _ (sym (ap next_of w.in-Turn.is)) refl refl refl in
          rw (w.reader-is, w.writer-is, w.streams-is, w.run-is)
          (stage_as _ (stage_turn test w.in-Turn.flag.0 body y some) _ _ _ _
          (if_ok w.enter_turn-paid.result (λ due. next_of due ≡ Go (Follow body)) next e w.enter_turn-paid.ensures.next)
          (on_ok w.enter_turn-paid.result next e w.enter_turn-paid.ensures.waits) refl refl)
      | in-Call w ↦
          let e = sym w.paid-is ∙ c.in-Ok-paid.is in
          let m = c.advance.new.memory in
          let called = map content_of w.in-Call.arguments.items in
          let y = stage_as _ x (CallDue (optional_tree w.in-Call.to) w.in-Call.function called) _ _ _ (sym (ap next_of w.in-Call.is)) refl refl refl in
          let entered = if_ok w.enter_call-paid.result
          (λ due. IsCall (map function_tree c.args.run.now.functions.now) (optional_tree w.in-Call.to)
          w.in-Call.function called (waits_of c.advance.new.stack.items) (known_of c.advance.new.frame m) (next_of due)
          (waits_of w.enter_call-paid.new.run.stack.items) (known_of w.enter_call-paid.new.run.frame w.enter_call-paid.new.run.memory))
          next e w.enter_call-paid.ensures.enters in
          let call = subst (λ (fs : List Function). IsCall fs (optional_tree w.in-Call.to) w.in-Call.function called
          (waits_of c.advance.new.stack.items) (known_of c.advance.new.frame m) (next_of next)
          (waits_of w.enter_call-paid.new.run.stack.items) (known_of w.enter_call-paid.new.run.frame w.enter_call-paid.new.run.memory))
          same entered in
          rw (w.reader-is, w.writer-is, w.streams-is, w.run-is)
          (stage_call (optional_tree w.in-Call.to) w.in-Call.function called _ _ _ y some call)
    ]
