-- View of code: when a run goes on only with a unit of fuel, or is over.
use Rattle.std.specs.Prelude.{◌≡◌, ℕ}
use Rattle.cyc_words.specs.Words.{word}
use Rattle.core_eval.specs.declared.ending.EvalEnding.{EvalEnding}
use Rattle.core_eval.specs.declared.ending.EvalEnding.TheVariants as ending
use Rattle.core_eval.specs.Pendings.{Next, Go, Over, Raised, Wrong}

-- no move is left before a unit is paid
abbrev pub IsAtRest : Next → Type 0
IsAtRest (Go task) = ⊥
IsAtRest _ = Unit {0}

-- a unit is due
abbrev pub IsPayable : Next → Type 0
IsPayable (Go task) = ⊥
IsPayable (Over status) = ⊥
IsPayable (Raised kind) = ⊥
IsPayable Wrong = ⊥
IsPayable _ = Unit {0}

-- the run ends so, with so many units left
abbrev pub EndsNow : EvalEnding → Next → ℕ → Type 0
EndsNow (ending.Ended status) next left = next ≡ Over (word status)
EndsNow (ending.Raised kind) next left = next ≡ Raised kind
EndsNow ending.Stuck next left = next ≡ Wrong
EndsNow ending.Running next left = IsPayable next × (left ≡ 0)
EndsNow _ next left = ⊥
