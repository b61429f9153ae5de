-- The failed calls of a run, by its ending.
use Rattle.std.proofs.Common.{◌≡◌, ◌≢◌, ℕ, ℤ, pos, negsuc, zero, suc, Result, IfOk, inl, inr, arith}
use Rattle.std.proofs.lemmas.Result.{IfOk-weaker}
use Rattle.cyc_words.specs.Devices.{one_more}
use Rattle.cyc_host.specs.Failures.{reads_failed, writes_failed}
use Rattle.cyc_host.specs.declared.ending.Ending.{Ending}
use Rattle.cyc_host.specs.declared.ending.Ending.TheVariants as ending
use Rattle.core_eval.specs.Evaluated.{reads_failed as eval_reads_failed, writes_failed as eval_writes_failed}
use Rattle.core_eval.specs.declared.ending.EvalEnding.{EvalEnding}
use Rattle.core_eval.specs.declared.ending.EvalEnding.TheVariants as eval
use Rattle.cycc_answer.specs.Statuses.{ended_status, status_of, evaluated_status}
use Rattle.cycc_answer.specs.Devices.{AreCounted}

module _ (status r_old r_new w_old w_new : ℕ) where
  pub none_failed : status ≢ 6 → r_new ≡ r_old → w_new ≡ w_old → AreCounted status r_old r_new w_old w_new
  none_failed other reads writes = record { failed = λ six. absurd (other six); none = λ _. (reads, writes) }

  read_failed : status ≡ 6 → r_new ≡ one_more r_old → w_new ≡ w_old → AreCounted status r_old r_new w_old w_new
  read_failed six reads writes = record { failed = λ _. inl (reads, writes); none = λ other. absurd (other six) }

  write_failed : status ≡ 6 → r_new ≡ r_old → w_new ≡ one_more w_old → AreCounted status r_old r_new w_old w_new
  write_failed six reads writes = record { failed = λ _. inr (reads, writes); none = λ other. absurd (other six) }

  -- the status of a program that ended is 0 or 1
  ended : (number : ℤ) → status ≡ ended_status number → r_new ≡ r_old → w_new ≡ w_old → AreCounted status r_old r_new w_old w_new
  ended (pos zero) shown = none_failed (λ six. omega arith)
  ended (pos (suc n)) shown = none_failed (λ six. omega arith)
  ended (negsuc n) shown = none_failed (λ six. omega arith)

  run : (why : Ending) → status ≡ status_of why → r_new ≡ reads_failed why r_old → w_new ≡ writes_failed why w_old
      → AreCounted status r_old r_new w_old w_new
  run (ending.Ended number) shown = ended number shown
  run (ending.Raised kind) shown = none_failed (λ six. omega arith)
  run ending.Exhausted shown = none_failed (λ six. omega arith)
  run ending.StepLimit shown = none_failed (λ six. omega arith)
  run (ending.Fault fault) shown = none_failed (λ six. omega arith)
  run ending.ReadFault shown = read_failed shown
  run ending.WriteFault shown = write_failed shown
  run ending.HostMemory shown = none_failed (λ six. omega arith)

  pub evaluation : (why : EvalEnding) → status ≡ evaluated_status why → r_new ≡ eval_reads_failed why r_old → w_new ≡ eval_writes_failed why w_old
      → AreCounted status r_old r_new w_old w_new
  evaluation (eval.Ended number) shown = ended number shown
  evaluation (eval.Raised kind) shown = none_failed (λ six. omega arith)
  evaluation eval.Running shown = none_failed (λ six. omega arith)
  evaluation eval.Stuck shown = none_failed (λ six. omega arith)
  evaluation eval.ReadFault shown = read_failed shown
  evaluation eval.WriteFault shown = write_failed shown
  evaluation eval.HostMemory shown = none_failed (λ six. omega arith)

-- the status of a run is none of a refusal
not_ended : (status : ℕ) (number : ℤ) → status ≡ ended_status number → status ≢ 8
not_ended status (pos zero) shown = λ eight. omega arith
not_ended status (pos (suc n)) shown = λ eight. omega arith
not_ended status (negsuc n) shown = λ eight. omega arith

not_refused : (status : ℕ) (why : Ending) → status ≡ status_of why → status ≢ 8
not_refused status (ending.Ended number) shown = not_ended status number shown
not_refused status (ending.Raised kind) shown = λ eight. omega arith
not_refused status ending.Exhausted shown = λ eight. omega arith
not_refused status ending.StepLimit shown = λ eight. omega arith
not_refused status (ending.Fault fault) shown = λ eight. omega arith
not_refused status ending.ReadFault shown = λ eight. omega arith
not_refused status ending.WriteFault shown = λ eight. omega arith
not_refused status ending.HostMemory shown = λ eight. omega arith

pub if_refused : {E : Type 0} (A : Type 0) (result : Result ℕ E) (why : Ending) → IfOk result (λ status. status ≡ status_of why)
    → IfOk result (λ status. status ≡ 8 → A)
if_refused A result why shown = IfOk-weaker result _ _ (λ status s eight. absurd (not_refused status why s eight)) shown

module _ {E : Type 0} (result : Result ℕ E) (r_old r_new w_old w_new : ℕ) where
  -- of a machine's run
  pub of_run : (why : Ending) → IfOk result (λ status. status ≡ status_of why) → r_new ≡ reads_failed why r_old → w_new ≡ writes_failed why w_old
      → IfOk result (λ status. AreCounted status r_old r_new w_old w_new)
  of_run why shown reads writes = IfOk-weaker result _ _ (λ status s. run status r_old r_new w_old w_new why s reads writes) shown
