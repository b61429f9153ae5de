-- Words that instructions put together.
use Rattle.std.proofs.Common.{◌≡◌, ℕ, zero, suc, ◌+◌, ◌*◌, ◌%◌, ◌^◌, ◌<◌, ◌≤◌, ◌⊎◌, pos, ◌-ℤ◌, inl, inr, ⊎_elim, true, arith, lt-ltb}
use Rattle.std.proofs.lemmas.Bool.{cases_lt, le-ltb}
use Rattle.std.proofs.lemmas.Bool.Decides.{nat_tests}
use Rattle.cyc_words.specs.Words.{word, sum_of}
use Rattle.rv32_isa.specs.Numbers.{signed}
use Rattle.core_lines.specs.Frames.{is_short, upper_of, lower_of}

-- the word of twelve bits with their sign
twelve_bits : (v : ℕ) → v < 2 ^ 12 → ((v < 2048) × (word (signed 12 v) ≡ v)) ⊎ ((2048 ≤ v) × (word (signed 12 v) ≡ v + 4294963200))
twelve_bits v within = ⊎_elim
    (λ below. inl (below, rw (lt-ltb v 2048 below) (omega arith)))
    (λ above. inr (above, rw (le-ltb v 2048 above) (omega arith)))
    (cases_lt v 2048)

-- the two parts of a word, added to another word
pub parts_added : (w base : ℕ) → sum_of (sum_of (upper_of w * 2 ^ 12) base) (word (lower_of w)) ≡ (base + w) % 2 ^ 32
parts_added w base = ⊎_elim (λ h. let e = h.1 in omega arith) (λ h. let e = h.1 in omega arith) (twelve_bits (w % 2 ^ 12) (omega arith))

short_cases : (w : ℕ) → is_short w ≡ true → (w < 2048) ⊎ (0xfffff800 ≤ w)
short_cases w short = grind (arith, nat_tests)

-- the lower part of a short word is the word
pub short_word : (w : ℕ) → is_short w ≡ true → w < 2 ^ 32 → word (lower_of w) ≡ w
short_word w short within = ⊎_elim
    (λ h. let e = h.1 in ⊎_elim (λ few. omega arith) (λ many. omega arith) (short_cases w short))
    (λ h. let e = h.1 in ⊎_elim (λ few. omega arith) (λ many. omega arith) (short_cases w short))
    (twelve_bits (w % 2 ^ 12) (omega arith))

-- the two parts of a word, added
pub parts_joined : (w : ℕ) → sum_of (upper_of w * 2 ^ 12) (word (lower_of w)) ≡ w % 2 ^ 32
parts_joined w = ⊎_elim (λ h. let e = h.1 in omega arith) (λ h. let e = h.1 in omega arith) (twelve_bits (w % 2 ^ 12) (omega arith))

-- a jump by the offset from one place to another, counted from the same base
pub offset_joined : (base to place : ℕ) → base + place < 2 ^ 31 → base + to < 2 ^ 31 → sum_of (base + place) (word (pos to -ℤ pos place)) ≡ base + to
offset_joined base to zero from_within within = omega arith
offset_joined base to (suc place) from_within within = ⊎_elim
    (λ back. rw (lt-ltb to (suc place) back) (omega arith))
    (λ ahead. rw (le-ltb to (suc place) ahead) (omega arith))
    (cases_lt to (suc place))
