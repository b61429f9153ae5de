-- What the tests of bytes imply.
use Rattle.std.proofs.Common.{◌≡◌, ℕ, ◌<◌, ◌≤◌, true, false, eqb, leb, ◌||◌, ◌⊎◌, inl, inr, arith}
use Rattle.std.proofs.lemmas.Bool.{and_parts, and_from, or_cases, or_left, or_right, or_from, leb-true, le-leb, lt-leb, ne_eqb, and_left}
use Rattle.cyc_lexer.specs.Bytes.{is_between, is_letter, is_digit, is_octal_digit, is_hexadecimal_digit, is_word_byte}
use Rattle.cyc_lexer.specs.Reading.{is_suffix}

pub between : (low high b : ℕ) → is_between low high b ≡ true → (low ≤ b) × (b ≤ high)
between low high b h = let both = and_parts (leb low b) (leb b high) h in (leb-true low b both.0, leb-true b high both.1)

pub is_between-in : (low high b : ℕ) → low ≤ b → b ≤ high → is_between low high b ≡ true
is_between-in low high b h k = and_from (leb low b) (leb b high) (le-leb low b h) (le-leb b high k)

pub is_between-below : (low high b : ℕ) → b < low → is_between low high b ≡ false
is_between-below low high b h = and_left (leb low b) (leb b high) (lt-leb low b h)

-- where a hexadecimal digit lies
pub hexadecimal_lies : (b : ℕ) → is_hexadecimal_digit b ≡ true → ((48 ≤ b) × (b ≤ 57)) ⊎ (((65 ≤ b) × (b ≤ 70)) ⊎ ((97 ≤ b) × (b ≤ 102)))
hexadecimal_lies b h =
    elim (or_cases (is_digit b || is_between 65 70 b) (is_between 97 102 b) h) [
      | inr k ↦ inr (inr (between 97 102 b k))
      | inl j ↦ elim (or_cases (is_digit b) (is_between 65 70 b) j) [ inl k ↦ inl (between 48 57 b k) | inr k ↦ inr (inl (between 65 70 b k)) ]
    ]

pub digit_hexadecimal : (b : ℕ) → is_digit b ≡ true → is_hexadecimal_digit b ≡ true
digit_hexadecimal b h = or_left (is_digit b || is_between 65 70 b) (is_between 97 102 b) (or_left (is_digit b) (is_between 65 70 b) h)

pub octal_digit : (b : ℕ) → is_octal_digit b ≡ true → is_digit b ≡ true
octal_digit b h = let k = between 48 55 b h in is_between-in 48 57 b k.0 (omega arith)

pub octal_hexadecimal : (b : ℕ) → is_octal_digit b ≡ true → is_hexadecimal_digit b ≡ true
octal_hexadecimal b h = digit_hexadecimal b (octal_digit b h)

pub upper_letter : (b : ℕ) → 65 ≤ b → b ≤ 90 → is_letter b ≡ true
upper_letter b h k = or_left (eqb b 95 || is_between 65 90 b) (is_between 97 122 b) (or_right (eqb b 95) (is_between 65 90 b) (is_between-in 65 90 b h k))

pub lower_letter : (b : ℕ) → 97 ≤ b → b ≤ 122 → is_letter b ≡ true
lower_letter b h k = or_right (eqb b 95 || is_between 65 90 b) (is_between 97 122 b) (is_between-in 97 122 b h k)

pub letter_word : (b : ℕ) → is_letter b ≡ true → is_word_byte b ≡ true
letter_word b h = or_left (is_letter b) (is_digit b) h

pub digit_word : (b : ℕ) → is_digit b ≡ true → is_word_byte b ≡ true
digit_word b h = or_right (is_letter b) (is_digit b) h

pub hexadecimal_word : (b : ℕ) → is_hexadecimal_digit b ≡ true → is_word_byte b ≡ true
hexadecimal_word b h =
    elim (hexadecimal_lies b h) [
      | inl k ↦ digit_word b (is_between-in 48 57 b k.0 k.1)
      | inr (inl k) ↦ letter_word b (upper_letter b k.0 (omega (arith, k.1)))
      | inr (inr k) ↦ letter_word b (lower_letter b k.0 (omega (arith, k.1)))
    ]

pub hexadecimal_no_suffix : (b : ℕ) → is_hexadecimal_digit b ≡ true → is_suffix b ≡ false
hexadecimal_no_suffix b h =
    elim (hexadecimal_lies b h) [
      | inl k ↦ or_from (eqb b 117) (eqb b 85) (ne_eqb b 117 (λ e. absurd (omega (arith, k.1)))) (ne_eqb b 85 (λ e. absurd (omega (arith, k.1))))
      | inr (inl k) ↦ or_from (eqb b 117) (eqb b 85) (ne_eqb b 117 (λ e. absurd (omega (arith, k.1)))) (ne_eqb b 85 (λ e. absurd (omega (arith, k.1))))
      | inr (inr k) ↦ or_from (eqb b 117) (eqb b 85) (ne_eqb b 117 (λ e. absurd (omega (arith, k.1)))) (ne_eqb b 85 (λ e. absurd (omega (arith, k.0))))
    ]

pub digit_no_letter : (b : ℕ) → is_digit b ≡ true → is_letter b ≡ false
digit_no_letter b h =
    let k = between 48 57 b h in
    or_from (eqb b 95 || is_between 65 90 b) (is_between 97 122 b)
    (or_from (eqb b 95) (is_between 65 90 b) (ne_eqb b 95 (λ e. absurd (omega (arith, k.1)))) (is_between-below 65 90 b (omega (arith, k.1))))
    (is_between-below 97 122 b (omega (arith, k.1)))
