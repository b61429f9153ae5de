-- Numbers of elements as words, and pointers that lead to one element.
use Rattle.std.proofs.Common.{◌≡◌, Bool, true, false, ℕ, ◌<◌, ◌^◌, ◌%◌, refl, arith}
use Rattle.source_meaning.specs.Shapes.{may_be_null, single}

pub word_is : (n : ℕ) → n < 2 ^ 32 → n ≡ n % 2 ^ 32
word_is n h = omega (arith, h)
