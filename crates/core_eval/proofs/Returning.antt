-- A function returns: what waits within it ends, and its caller goes on.
use Rattle.std.proofs.Common.{◌≡◌, ℕ, Option, List, ◌∷◌, Result, Ok, Err, IfOk, ap, ◌∙◌, sym, subst, arith}
use Rattle.core_meaning.specs.Memory.{Content}
use Rattle.core_meaning.specs.Core as core
use Rattle.core_meaning.specs.Steps as steps
use Rattle.core_meaning.specs.Meaning.{values_of}
use Rattle.cyc_core.specs.declared.operation.Words.{Words}
use Rattle.cyc_core.specs.declared.statement.Statement.TheVariants as form
use Rattle.core_eval.specs.declared.frame.Frame.{Frame}
use Rattle.core_eval.specs.declared.memory.Memory.{Memory}
use Rattle.core_eval.specs.declared.pending.Due.{Due}
use Rattle.core_eval.specs.declared.pending.Flow as code
use Rattle.core_eval.specs.declared.pending.Flow.TheVariants as flow
use Rattle.core_eval.specs.Values.{temp_of}
use Rattle.core_eval.specs.Pendings.{Task, Execute, Leave, Wait, Go, exit_of, next_of, rest_of}
use Rattle.core_eval.specs.Standing.{Known, LeavesCall, known_of}
use Rattle.core_eval.specs.Costs.{EndsWithin, IsMove}
use Rattle.core_eval.proofs.EnterMoves.{same_state}
use Rattle.core_eval.proofs.Follows.{Reaches, reached, reaches_on, reaches_move}
use Rattle.core_eval.proofs.LeaveMoves.{IsNoReturn}

-- ---- the statement

return_enters : (known : Known) (ws : List Wait) (ts : List ℕ) (vs : List Content) → values_of (temp_of known.temps) ts ≡ vs
    → IsMove (Execute (core.Return ts)) ws known (Go (Leave (steps.Returns vs))) ws known
return_enters known ws ts vs is =
    same_state (Execute (core.Return ts)) ws (Go (Leave (steps.Returns vs))) ws known
    (λ main marks c h. (
      h,
      ap (λ (us : List Content). rest_of main ws marks (steps.Returns us) c)
          (ap (λ (temps : ℕ → Content). values_of temps ts) (λ i k. h.temps k i) ∙ is),
    )) (omega arith)

pub return_answer : {E : Type 0} (r : Result Due E) (s : core.Statement) (ts : List ℕ) (vs : List Content) (ws : List Wait) (known : Known) (ws' : List Wait)
    (known' : Known) → s ≡ core.Return ts → values_of (temp_of known.temps) ts ≡ vs
    → IfOk r (λ due. IsMove (Leave (steps.Returns vs)) ws known (next_of due) ws' known') → IfOk r (λ due. IsMove (Execute s) ws known (next_of due) ws' known')
return_answer (Ok due) s ts vs ws known ws' known' is same m =
    subst (λ (t : core.Statement). IsMove (Execute t) ws known (next_of due) ws' known') (sym is)
    (reaches_move (reaches_on (reached (Execute (core.Return ts)) ws known) (Leave (steps.Returns vs)) ws known (return_enters known ws ts vs same))
    (next_of due) ws' known' m)
return_answer (Err e) s ts vs ws known ws' known' is same m = tt

-- ---- what waits

pub no_return : (f : code.Flow) → IsNoReturn (exit_of f)
no_return flow.Falls = tt
no_return flow.Breaks = tt
no_return flow.Continues = tt

module _ {task : Task} {ws : List Wait} {known : Known} {vs : List Content} {waits : List Wait} (f : Frame) (m : Memory)
    (r : Reaches task ws known (Leave (steps.Returns vs)) waits (known_of f m)) (w : Wait) (rest : List Wait) (is : waits ≡ w ∷ rest) where
  -- something within the function
  pub ended : (m' : Memory) → EndsWithin w m m' → Reaches task ws known (Leave (steps.Returns vs)) rest (known_of f m')
  ended m' ends =
      reaches_on r (Leave (steps.Returns vs)) rest (known_of f m')
      (subst (λ (l : List Wait). IsMove (Leave (steps.Returns vs)) l (known_of f m) (Go (Leave (steps.Returns vs))) rest (known_of f m')) (sym is)
      (ends vs rest f))

  -- its caller
  pub gone_on : {E : Type 0} (a : Result Due E) (caller : Wait) (f' : Frame) (before after : Memory) → w ≡ caller → before ≡ m → LeavesCall before after
      → IfOk a (λ due. (ws : List Wait) (memory after : Memory) → LeavesCall memory after
      → IsMove (Leave (steps.Returns vs)) (caller ∷ ws) (known_of f memory) (next_of due) ws (known_of f' after))
      → IfOk a (λ due. IsMove task ws known (next_of due) rest (known_of f' after))
  gone_on (Ok due) caller f' before after waits_so same left goes =
      reaches_move r (next_of due) rest (known_of f' after)
      (subst (λ (l : List Wait). IsMove (Leave (steps.Returns vs)) l (known_of f m) (next_of due) rest (known_of f' after))
      (sym (is ∙ ap (λ v. v ∷ rest) waits_so))
      (goes rest m after (subst (λ (x : Memory). LeavesCall x after) same left)))
  gone_on (Err e) caller f' before after waits_so same left goes = tt
