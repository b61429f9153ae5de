-- The moves of checks.
use Rattle.std.proofs.Common.{◌≡◌, ℕ, List, true, false, Some, None, refl, ◌∙◌, sym, arith}
use Rattle.cyc_words.specs.declared.faults.Kind.{Kind}
use Rattle.core_meaning.specs.Core.{If, Statements, NoStatements, MoreStatements}
use Rattle.core_meaning.specs.Steps as steps
use Rattle.cyc_core.specs.Trees.{raise_tree}
use Rattle.core_eval.specs.declared.value.Value.{Value}
use Rattle.core_eval.specs.Values.{content_of, temp_of, truth_of}
use Rattle.core_eval.specs.Pendings.{Follow, Execute, Leave, Wait, Next, Go, Raised, Wrong}
use Rattle.core_eval.specs.Standing.{Known}
use Rattle.core_eval.specs.Costs.{IsMove}
use Rattle.core_eval.proofs.EnterMoves.{branches, same_state, if_goes}
use Rattle.core_eval.proofs.Follows.{reached, reaches_on, reaches_move}

module _ (known : Known) (ws : List Wait) where
  -- one exception
  pub raises : (kind : Kind) → IsMove (Follow (raise_tree kind)) ws known (Raised kind) ws known
  raises kind = same_state (Follow (raise_tree kind)) ws (Raised kind) ws known (λ main marks c h. (h, refl)) (omega arith)

  module _ (t : ℕ) (v : Value) (read : content_of v ≡ temp_of known.temps t) where
    -- either of two
    abbrev by_test : Kind → Kind → Statements
    by_test first second = MoreStatements (If t (raise_tree first) (raise_tree second)) NoStatements

    pub raises_first : (first second : Kind) → truth_of v ≡ Some true → IsMove (Follow (by_test first second)) ws known (Raised first) ws known
    raises_first first second is =
        same_state (Follow (by_test first second)) ws (Raised first) ws known
        (λ main marks c h. (h, branches (c.temps t) v (Some true) _ _ (h.temps t ∙ sym read) is)) (omega arith)

    pub raises_second : (first second : Kind) → truth_of v ≡ Some false → IsMove (Follow (by_test first second)) ws known (Raised second) ws known
    raises_second first second is =
        same_state (Follow (by_test first second)) ws (Raised second) ws known
        (λ main marks c h. (h, branches (c.temps t) v (Some false) _ _ (h.temps t ∙ sym read) is)) (omega arith)

    pub raises_neither : (first second : Kind) → truth_of v ≡ None → IsMove (Follow (by_test first second)) ws known Wrong ws known
    raises_neither first second is =
        same_state (Follow (by_test first second)) ws Wrong ws known
        (λ main marks c h. (h, branches (c.temps t) v None _ _ (h.temps t ∙ sym read) is)) (omega arith)

    -- a check passes, or what its failure does is done
    pub check_passes : (failed : Statements) → truth_of v ≡ Some true
        → IsMove (Execute (If t NoStatements failed)) ws known (Go (Leave steps.Falls)) ws known
    check_passes failed is =
        same_state (Execute (If t NoStatements failed)) ws (Go (Leave steps.Falls)) ws known
        (λ main marks c h. (h, branches (c.temps t) v (Some true) _ _ (h.temps t ∙ sym read) is)) (omega arith)

    pub check_fails : (failed : Statements) → truth_of v ≡ Some false → (next : Next) (ws' : List Wait) (known' : Known)
        → IsMove (Follow failed) ws known next ws' known' → IsMove (Execute (If t NoStatements failed)) ws known next ws' known'
    check_fails failed is next ws' known' m =
        reaches_move (reaches_on (reached (Execute (If t NoStatements failed)) ws known) (Follow failed) ws known
        (if_goes known ws t v read NoStatements failed false is)) next ws' known' m
