-- Words in memory: what a word that was written reads as, and that other words stay.
use Rattle.std.proofs.Common.{◌≡◌, ℕ, zero, suc, ◌+◌, ◌*◌, ◌/◌, ◌%◌, ◌^◌, ◌<◌, ◌≤◌, ◌⊎◌, refl, ap, ◌∙◌, arith, if◌then◌else◌}
use Rattle.std.specs.Prelude.{nat_eq}
use Rattle.std.proofs.lemmas.Bool.Decides.{nat_tests}
use Rattle.rv32_machine.specs.State.{word_at, set_word}

-- one of four bytes that were written
byte_of_word : (at v : ℕ) (bytes : ℕ → ℕ) (q : ℕ) →
    set_word at v bytes q ≡ (if nat_eq q (at + 3) then v / 2 ^ 24 % 2 ^ 8 else (if nat_eq q (at + 2) then v / 2 ^ 16 % 2 ^ 8 else
    (if nat_eq q (at + 1) then v / 2 ^ 8 % 2 ^ 8 else (if nat_eq q at then v % 2 ^ 8 else bytes q))))
unfolding set_word
byte_of_word at v bytes q = refl

first_byte : (at v : ℕ) (bytes : ℕ → ℕ) → set_word at v bytes at ≡ v % 2 ^ 8
first_byte at v bytes = byte_of_word at v bytes at ∙ grind (arith, nat_tests)

second_byte : (at v : ℕ) (bytes : ℕ → ℕ) → set_word at v bytes (at + 1) ≡ v / 2 ^ 8 % 2 ^ 8
second_byte at v bytes = byte_of_word at v bytes (at + 1) ∙ grind (arith, nat_tests)

third_byte : (at v : ℕ) (bytes : ℕ → ℕ) → set_word at v bytes (at + 2) ≡ v / 2 ^ 16 % 2 ^ 8
third_byte at v bytes = byte_of_word at v bytes (at + 2) ∙ grind (arith, nat_tests)

fourth_byte : (at v : ℕ) (bytes : ℕ → ℕ) → set_word at v bytes (at + 3) ≡ v / 2 ^ 24 % 2 ^ 8
fourth_byte at v bytes = byte_of_word at v bytes (at + 3) ∙ grind (arith, nat_tests)

pub same_word : (at v : ℕ) (bytes : ℕ → ℕ) → v < 2 ^ 32 → word_at (set_word at v bytes) at ≡ v
same_word at v bytes within = rw (first_byte at v bytes, second_byte at v bytes, third_byte at v bytes, fourth_byte at v bytes) (omega arith)

-- each of the four is that byte of the word
pub byte_in_word : (at v : ℕ) (bytes : ℕ → ℕ) (d : ℕ) → d < 4 → set_word at v bytes (at + d) ≡ v / 2 ^ (8 * d) % 2 ^ 8
byte_in_word at v bytes zero less = let e : at + zero ≡ at = omega arith in ap (λ q. set_word at v bytes q) e ∙ first_byte at v bytes ∙ omega arith
byte_in_word at v bytes (suc zero) less = second_byte at v bytes ∙ omega arith
byte_in_word at v bytes (suc (suc zero)) less = third_byte at v bytes ∙ omega arith
byte_in_word at v bytes (suc (suc (suc zero))) less = fourth_byte at v bytes ∙ omega arith
byte_in_word at v bytes (suc (suc (suc (suc d)))) less = absurd (omega (arith, less))

pub other_byte : (at v : ℕ) (bytes : ℕ → ℕ) (q : ℕ) → (q < at) ⊎ (at + 4 ≤ q) → set_word at v bytes q ≡ bytes q
other_byte at v bytes q apart = byte_of_word at v bytes q ∙ grind (arith, nat_tests)

pub other_word : (at v : ℕ) (bytes : ℕ → ℕ) (q : ℕ) → (q + 4 ≤ at) ⊎ (at + 4 ≤ q) → word_at (set_word at v bytes) q ≡ word_at bytes q
other_word at v bytes q apart = rw (
  other_byte at v bytes q (grind arith),
  other_byte at v bytes (q + 1) (grind arith),
  other_byte at v bytes (q + 2) (grind arith),
  other_byte at v bytes (q + 3) (grind arith),
) refl

-- bytes stay bytes
pub byte_is_small : (at v : ℕ) (bytes : ℕ → ℕ) (q : ℕ) → bytes q < 256 → set_word at v bytes q < 256
byte_is_small at v bytes q small = rw (byte_of_word at v bytes q) (grind (arith, nat_tests))

-- the word of four bytes
pub word_is_small : (bytes : ℕ → ℕ) (at : ℕ) → bytes at < 256 → bytes (at + 1) < 256 → bytes (at + 2) < 256 → bytes (at + 3) < 256 → word_at bytes at < 2 ^ 32
word_is_small bytes at a b c d = omega arith

-- words of the same bytes
pub word_from_bytes : (f g : ℕ → ℕ) (at : ℕ) → f at ≡ g at → f (at + 1) ≡ g (at + 1) → f (at + 2) ≡ g (at + 2) → f (at + 3) ≡ g (at + 3)
    → word_at f at ≡ word_at g at
word_from_bytes f g at a b c d = cc (a, b, c, d)
