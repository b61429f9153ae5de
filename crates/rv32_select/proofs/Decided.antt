-- Checks of what is known to be a number.
use Rattle.std.proofs.Common.{◌≡◌, ℕ, zero, suc, List, ◌++◌, Some, refl, sym, ◌∙◌, arith}
use Rattle.std.proofs.lemmas.List.{append-nil}
use Rattle.cyc_words.specs.declared.faults.Kind.{Kind}
use Rattle.core_lines.specs.declared.line.Line.{Line}
use Rattle.core_lines.specs.Checks.{Failure, either_code, failure_code, tested_code}
use Rattle.core_lines.specs.Frames.{raise_code}
use Rattle.core_lines.specs.Held.{Holding}

module _ (passed : ℕ) (hs : List Holding) (t n : ℕ) (old new : List Line) where
  pub second_raised : (first second : Kind) → n ≡ 0 → new ≡ old ++ raise_code second → new ≡ old ++ either_code passed hs t first second (Some n)
  second_raised first second none e = by n none
    where
      by : (k : ℕ) → k ≡ 0 → new ≡ old ++ either_code passed hs t first second (Some k)
      by zero is = e
      by (suc k) is = absurd (omega (arith, is))

  pub first_raised : (first second : Kind) → (n ≡ 0 → ⊥) → new ≡ old ++ raise_code first → new ≡ old ++ either_code passed hs t first second (Some n)
  first_raised first second some e = by n some
    where
      by : (k : ℕ) → (k ≡ 0 → ⊥) → new ≡ old ++ either_code passed hs t first second (Some k)
      by zero is = absurd (is refl)
      by (suc k) is = e

  pub fails_check : (f : Failure) → n ≡ 0 → new ≡ old ++ failure_code passed hs f → new ≡ old ++ tested_code passed hs t f (Some n)
  fails_check f none e = by n none
    where
      by : (k : ℕ) → k ≡ 0 → new ≡ old ++ tested_code passed hs t f (Some k)
      by zero is = e
      by (suc k) is = absurd (omega (arith, is))

  pub passes_check : (f : Failure) → (n ≡ 0 → ⊥) → new ≡ old → new ≡ old ++ tested_code passed hs t f (Some n)
  passes_check f some e = by n some
    where
      by : (k : ℕ) → (k ≡ 0 → ⊥) → new ≡ old ++ tested_code passed hs t f (Some k)
      by zero is = absurd (is refl)
      by (suc k) is = e ∙ sym (append-nil old)
