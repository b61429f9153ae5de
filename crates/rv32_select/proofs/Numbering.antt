-- The number other than 0 that a word is known to be.
use Rattle.std.proofs.Common.{◌≡◌, ℕ, zero, suc, Option, Some, None, refl, ap, arith}
use Rattle.core_lines.specs.Held as lines
use Rattle.core_lines.specs.Held.{some_number}

pub some_zero : (w : ℕ) (s : Option lines.Source) → Some (lines.Number w) ≡ s → w ≡ 0 → None ≡ some_number s
some_zero zero s is none = ap some_number is
some_zero (suc w) s is none = absurd (omega (arith, none))

pub some_more : (w : ℕ) (s : Option lines.Source) → Some (lines.Number w) ≡ s → (w ≡ 0 → ⊥) → Some w ≡ some_number s
some_more zero s is some = absurd (some refl)
some_more (suc w) s is some = ap some_number is
