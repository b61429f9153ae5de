-- What an evaluation within bounds is told as, and what its status says.
use Rattle.std.proofs.Common.{◌≡◌, ◌≢◌, ℕ, ℤ, List, Option, None, pos, negsuc, zero, suc, Result, IfOk, inl, inr, ap, subst, ◌∙◌, arith}
use Rattle.std.proofs.lemmas.Result.{IfOk-weaker}
use Rattle.core_eval.specs.Evaluated.{reads_failed, writes_failed}
use Rattle.core_eval.specs.declared.bounds.Exceeded.{Exceeded}
use Rattle.core_eval.specs.declared.ending.EvalEnding.{EvalEnding}
use Rattle.core_eval.specs.declared.ending.EvalEnding.TheVariants as eval
use Rattle.cycc_driver.specs.Evaluated.{IsTextEvaluated}
use Rattle.cycc_answer.specs.Answers.{IsEvalWithin}
use Rattle.cycc_answer.specs.Devices.{AreCounted}
use Rattle.cycc_answer.specs.Statuses.{IsToldAs, ended_status, evaluated_status}
use Rattle.cycc_answer.proofs.Counts.{evaluation, none_failed}

module _ {E : Type 0} (result : Result ℕ E) (why : EvalEnding) (exceeded : Option Exceeded) (told : IfOk result (IsToldAs why exceeded)) where
  -- what `eval` says
  pub of_told : (calls bytes : Option ℕ) (text : List ℕ) (fuel : ℕ) (reader_old reader_new writer_old writer_new : Option (List ℕ))
      → IsTextEvaluated text fuel why reader_old reader_new writer_old writer_new → (calls ≡ None → bytes ≡ None → exceeded ≡ None)
      → IfOk result (IsEvalWithin calls bytes text fuel reader_old reader_new writer_old writer_new)
  of_told calls bytes text fuel reader_old reader_new writer_old writer_new evaluated unbounded =
      IfOk-weaker result (IsToldAs why exceeded) (IsEvalWithin calls bytes text fuel reader_old reader_new writer_old writer_new)
      (λ status t. elim t [
        | inl shown ↦ inl (inl (record { why = why; evaluated = evaluated; shown = shown }))
        | inr (is, there, four) ↦ inr (record {
          some = λ no_calls no_bytes. there (unbounded no_calls no_bytes);
          evaluated = subst (λ (e : EvalEnding). IsTextEvaluated text fuel e reader_old reader_new writer_old writer_new) is evaluated;
          shown = four;
        })
      ]) told

  -- how many calls of devices have failed
  pub counted_within : (r_old r_new w_old w_new : ℕ) → r_new ≡ reads_failed why r_old → w_new ≡ writes_failed why w_old
      → IfOk result (λ status. AreCounted status r_old r_new w_old w_new)
  counted_within r_old r_new w_old w_new reads writes =
      IfOk-weaker result (IsToldAs why exceeded) (λ (status : ℕ). AreCounted status r_old r_new w_old w_new)
      (λ status t. elim t [
        | inl shown ↦ evaluation status r_old r_new w_old w_new why shown reads writes
        | inr (is, there, four) ↦
            none_failed status r_old r_new w_old w_new (λ six. omega (arith, six, four)) (reads ∙ ap (λ (e : EvalEnding). reads_failed e r_old) is)
            (writes ∙ ap (λ (e : EvalEnding). writes_failed e w_old) is)
      ]) told

-- the status of a run is none of a refusal
ended_not_refused : (status : ℕ) (number : ℤ) → status ≡ ended_status number → status ≢ 8
ended_not_refused status (pos zero) shown = λ eight. omega arith
ended_not_refused status (pos (suc n)) shown = λ eight. omega arith
ended_not_refused status (negsuc n) shown = λ eight. omega arith

not_refused : (status : ℕ) (why : EvalEnding) → status ≡ evaluated_status why → status ≢ 8
not_refused status (eval.Ended number) shown = ended_not_refused status number shown
not_refused status (eval.Raised kind) shown = λ eight. omega arith
not_refused status eval.Running shown = λ eight. omega arith
not_refused status eval.Stuck shown = λ eight. omega arith
not_refused status eval.ReadFault shown = λ eight. omega arith
not_refused status eval.WriteFault shown = λ eight. omega arith
not_refused status eval.HostMemory shown = λ eight. omega arith

told_not_refused : (status : ℕ) (why : EvalEnding) (exceeded : Option Exceeded) → IsToldAs why exceeded status → status ≢ 8
told_not_refused status why exceeded t =
    λ eight. elim t [ inl shown ↦ not_refused status why shown eight | inr (is, there, four) ↦ omega (arith, eight, four) ]

pub if_told_refused : {E : Type 0} (A : Type 0) (result : Result ℕ E) (why : EvalEnding) (exceeded : Option Exceeded)
    → IfOk result (IsToldAs why exceeded) → IfOk result (λ status. status ≡ 8 → A)
if_told_refused A result why exceeded told =
    IfOk-weaker result (IsToldAs why exceeded) (λ (status : ℕ). status ≡ 8 → A)
    (λ status t eight. absurd (told_not_refused status why exceeded t eight)) told
