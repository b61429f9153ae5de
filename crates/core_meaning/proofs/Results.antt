-- What an operation gives is a word.
use Rattle.std.proofs.Common.{ℕ, ◌^◌, ◌<◌, Bool, true, false, ℤ, pos, negsuc, arith}
use Rattle.std.specs.Prelude.{if◌then◌else◌}
use Rattle.cyc_words.specs.Words.{word}
use Rattle.core_meaning.specs.Words.{truth}

pub word_below : (z : ℤ) → word z < 2 ^ 32
word_below (pos n) = omega arith
word_below (negsuc n) = omega arith

pub truth_below : (b : Bool) → truth b < 2 ^ 32
truth_below true = omega arith
truth_below false = omega arith

pub either_below : (b : Bool) (v w : ℕ) → v < 2 ^ 32 → w < 2 ^ 32 → (if b then v else w) < 2 ^ 32
either_below true v w l m = l
either_below false v w l m = m
