-- Numbers with or without a suffix are read as they are spelled.
use Rattle.std.proofs.Common.{◌≡◌, ℕ, zero, suc, ◌+◌, ◌-◌, Bool, true, false, eqb, ◌&&◌, List, [], ◌∷◌, ◌++◌, length, take, get_or, Option, Some, None, refl}
use Rattle.std.proofs.Common.{ap, sym, ◌∙◌, arith, inl, inr, ◌⊎◌, length-append}
use Rattle.std.proofs.lemmas.Bool.{cond_both, cond-true, cond-false, and_parts, and_from, or_cases, or_left, or_right, eqb-true, eq-eqb, false≢true}
use Rattle.std.proofs.lemmas.List.{take_more, take_all, take_at, get_or_push, length_push}
use Rattle.cyc_lexer.specs.Bytes.{is_digit, is_octal_digit, is_hexadecimal_digit, is_word_byte, all_bytes}
use Rattle.cyc_lexer.specs.Spelling.{IsDecimal, IsOctal, IsHexadecimal, IsNumber, Spells}
use Rattle.cyc_lexer.specs.Reading.{digits_of, is_suffix, with_suffix, number_of}
use Rattle.cyc_lexer.specs.declared.token.TokenKind.{TokenKind}
use Rattle.cyc_lexer.specs.declared.token.TokenKind.TheVariants as kind
use Rattle.cyc_lexer.proofs.ByteTests.{between, is_between-in, octal_digit, octal_hexadecimal, digit_hexadecimal, hexadecimal_no_suffix, hexadecimal_word}
use Rattle.cyc_lexer.proofs.ByteTests.{letter_word, digit_word, lower_letter, upper_letter}
use Rattle.cyc_lexer.proofs.ReadRuns.{all_bytes_wider, all_bytes-append}
use Rattle.cyc_lexer.proofs.ReadNumbers.{NumberMeans, digits_of_read, digits_of_again}

-- ---- the bytes of a number

decimal_first : (d : ℕ) (ds : List ℕ) (n : ℕ) → IsDecimal (d ∷ ds) n → is_digit d ≡ true
decimal_first d ds n h = let lies = between 49 57 d h.0 in is_between-in 48 57 d (omega (arith, lies.0)) lies.1

zero_digit : (d : ℕ) → d ≡ 48 → is_digit d ≡ true
zero_digit d e = is_between-in 48 57 d (omega arith) (omega arith)

hexadecimal_first : (d : ℕ) (ds : List ℕ) (n : ℕ) → IsHexadecimal (d ∷ ds) n → d ≡ 48
hexadecimal_first d [] n h = absurd h
hexadecimal_first d (x ∷ ds) n h = h.0

number_first : (d : ℕ) (ds : List ℕ) (n : ℕ) → IsNumber (d ∷ ds) n → is_digit d ≡ true
number_first d ds n (inl h, le) = decimal_first d ds n h
number_first d ds n (inr (inl h), le) = zero_digit d h.0
number_first d ds n (inr (inr h), le) = zero_digit d (hexadecimal_first d ds n h)

number_not_empty : (n : ℕ) → IsNumber [] n → ⊥
number_not_empty n (inl h, le) = h
number_not_empty n (inr (inl h), le) = h
number_not_empty n (inr (inr h), le) = h

x_word : (x : ℕ) → ((x ≡ 120) ⊎ (x ≡ 88)) → is_word_byte x ≡ true
x_word x (inl e) = letter_word x (lower_letter x (omega arith) (omega arith))
x_word x (inr e) = letter_word x (upper_letter x (omega arith) (omega arith))

decimal_words : (s : List ℕ) (n : ℕ) → IsDecimal s n → all_bytes is_word_byte s ≡ true
decimal_words [] n h = absurd h
decimal_words (d ∷ ds) n h = and_from (is_word_byte d) (all_bytes is_word_byte ds) (digit_word d (decimal_first d ds n h))
    (all_bytes_wider is_digit is_word_byte ds digit_word h.1)

octal_words : (s : List ℕ) (n : ℕ) → IsOctal s n → all_bytes is_word_byte s ≡ true
octal_words [] n h = absurd h
octal_words (d ∷ ds) n h =
    and_from (is_word_byte d) (all_bytes is_word_byte ds) (digit_word d (zero_digit d h.0))
    (all_bytes_wider is_octal_digit is_word_byte ds (λ b k. digit_word b (octal_digit b k)) h.1)

hexadecimal_words : (s : List ℕ) (n : ℕ) → IsHexadecimal s n → all_bytes is_word_byte s ≡ true
hexadecimal_words [] n h = absurd h
hexadecimal_words (d ∷ []) n h = absurd h
hexadecimal_words (d ∷ x ∷ ds) n h =
    and_from (is_word_byte d) (is_word_byte x && all_bytes is_word_byte ds) (digit_word d (zero_digit d h.0))
    (and_from (is_word_byte x) (all_bytes is_word_byte ds) (x_word x h.1) (all_bytes_wider is_hexadecimal_digit is_word_byte ds hexadecimal_word h.3))

number_words : (s : List ℕ) (n : ℕ) → IsNumber s n → all_bytes is_word_byte s ≡ true
number_words s n (inl h, le) = decimal_words s n h
number_words s n (inr (inl h), le) = octal_words s n h
number_words s n (inr (inr h), le) = hexadecimal_words s n h

-- no suffix is a part of a number

last_digit : (ds : List ℕ) (k : ℕ) → all_bytes is_hexadecimal_digit ds ≡ true → is_suffix (get_or ds k 0) ≡ false
last_digit [] k h = refl
last_digit (d ∷ ds) zero h = hexadecimal_no_suffix d (and_parts (is_hexadecimal_digit d) (all_bytes is_hexadecimal_digit ds) h).0
last_digit (d ∷ ds) (suc k) h = last_digit ds k (and_parts (is_hexadecimal_digit d) (all_bytes is_hexadecimal_digit ds) h).1

decimal_last : (s : List ℕ) (n : ℕ) → IsDecimal s n → is_suffix (get_or s (length s - 1) 0) ≡ false
decimal_last [] n h = refl
decimal_last (d ∷ ds) n h =
    last_digit (d ∷ ds) (length (d ∷ ds) - 1)
    (and_from (is_hexadecimal_digit d) (all_bytes is_hexadecimal_digit ds) (digit_hexadecimal d (decimal_first d ds n h))
    (all_bytes_wider is_digit is_hexadecimal_digit ds digit_hexadecimal h.1))

octal_last : (s : List ℕ) (n : ℕ) → IsOctal s n → is_suffix (get_or s (length s - 1) 0) ≡ false
octal_last [] n h = refl
octal_last (d ∷ ds) n h =
    last_digit (d ∷ ds) (length (d ∷ ds) - 1)
    (and_from (is_hexadecimal_digit d) (all_bytes is_hexadecimal_digit ds) (digit_hexadecimal d (zero_digit d h.0))
    (all_bytes_wider is_octal_digit is_hexadecimal_digit ds octal_hexadecimal h.1))

hexadecimal_last : (s : List ℕ) (n : ℕ) → IsHexadecimal s n → is_suffix (get_or s (length s - 1) 0) ≡ false
hexadecimal_last [] n h = refl
hexadecimal_last (d ∷ []) n h = absurd h
hexadecimal_last (d ∷ x ∷ []) n h = absurd (h.2 refl)
hexadecimal_last (d ∷ x ∷ y ∷ ys) n h =
    let at : length (d ∷ x ∷ y ∷ ys) - 1 ≡ suc (suc (length ys)) = omega arith in
    ap (λ k. is_suffix (get_or (d ∷ x ∷ y ∷ ys) k 0)) at ∙ last_digit (y ∷ ys) (length ys) h.3

number_last : (s : List ℕ) (n : ℕ) → IsNumber s n → is_suffix (get_or s (length s - 1) 0) ≡ false
number_last s n (inl h, le) = decimal_last s n h
number_last s n (inr (inl h), le) = octal_last s n h
number_last s n (inr (inr h), le) = hexadecimal_last s n h

-- ---- tokens that are numbers

suffix_test : (u : ℕ) → ((u ≡ 117) ⊎ (u ≡ 85)) → is_suffix u ≡ true
suffix_test u (inl e) = or_left (eqb u 117) (eqb u 85) (eq-eqb u 117 e)
suffix_test u (inr e) = or_right (eqb u 117) (eqb u 85) (eq-eqb u 85 e)

suffix_word : (u : ℕ) → ((u ≡ 117) ⊎ (u ≡ 85)) → is_word_byte u ≡ true
suffix_word u (inl e) = letter_word u (lower_letter u (omega arith) (omega arith))
suffix_word u (inr e) = letter_word u (upper_letter u (omega arith) (omega arith))

pub spelled_words : (n : ℕ) (u : Bool) (s : List ℕ) → Spells (kind.Number n u) s → all_bytes is_word_byte s ≡ true
spelled_words n false s h = number_words s n h
spelled_words n true s (digits, u, is, which, h) =
    ap (all_bytes is_word_byte) is
    ∙ all_bytes-append is_word_byte digits (u ∷ []) (number_words digits n h) (and_from (is_word_byte u) true (suffix_word u which) refl)

suffixed_first : (b : ℕ) (bs digits : List ℕ) (u n : ℕ) → b ∷ bs ≡ digits ++ u ∷ [] → IsNumber digits n → is_digit b ≡ true
suffixed_first b bs [] u n e h = absurd (number_not_empty n h)
suffixed_first b bs (d ∷ ds) u n e h = ap (λ s. is_digit (get_or s 0 0)) e ∙ number_first d ds n h

pub spelled_first : (n : ℕ) (u : Bool) (b : ℕ) (bs : List ℕ) → Spells (kind.Number n u) (b ∷ bs) → is_digit b ≡ true
spelled_first n false b bs h = number_first b bs n h
spelled_first n true b bs (digits, u, is, which, h) = suffixed_first b bs digits u n is h

pub spelled_some : (n : ℕ) (u : Bool) → Spells (kind.Number n u) [] → ⊥
spelled_some n false h = number_not_empty n h
spelled_some n true (digits, u, is, which, h) = let e = ap length is in absurd (omega (arith, e, length-append digits (u ∷ [])))

pub number_again : (n : ℕ) (u : Bool) (s : List ℕ) → Spells (kind.Number n u) s → number_of s ≡ Some (kind.Number n u)
number_again n false s h =
    cond-false (is_suffix (get_or s (length s - 1) 0)) (with_suffix true (digits_of (take (length s - 1) s))) (with_suffix false (digits_of s))
    (number_last s n h)
    ∙ ap (with_suffix false) (digits_of_again s n h)
number_again n true s (digits, u, is, which, h) =
    let size : length s - 1 ≡ length digits = omega (arith, ap length is, length_push digits u) in
    let last : get_or s (length s - 1) 0 ≡ u = ap (λ k. get_or s k 0) size ∙ ap (λ t. get_or t (length digits) 0) is
    ∙ get_or_push digits u 0 (length digits) refl in
    let front : take (length s - 1) s ≡ digits = ap (λ k. take k s) size ∙ ap (take (length digits)) is ∙ take_at digits (u ∷ []) (length digits) refl in
    cond-true (is_suffix (get_or s (length s - 1) 0)) (with_suffix true (digits_of (take (length s - 1) s))) (with_suffix false (digits_of s))
    (ap is_suffix last ∙ suffix_test u which)
    ∙ ap (λ t. with_suffix true (digits_of t)) front
    ∙ ap (with_suffix true) (digits_of_again digits n h)

-- ---- what is read is a number

pub record IsNumberToken (s : List ℕ) (k : TokenKind) : Type 0 where
  pub value : ℕ
  pub suffix : Bool
  pub is : k ≡ kind.Number value suffix
  pub spelled : Spells (kind.Number value suffix) s

abbrev pub NumberTokenMeans : List ℕ → Option TokenKind → Type 0
NumberTokenMeans s None = Unit {0}
NumberTokenMeans s (Some k) = IsNumberToken s k

plain_means : (s : List ℕ) (o : Option ℕ) → NumberMeans s o → NumberTokenMeans s (with_suffix false o)
plain_means s None h = tt
plain_means s (Some n) h = record { value = n; suffix = false; is = refl; spelled = h }

suffixed_means : (s digits : List ℕ) (u : ℕ) → s ≡ digits ++ u ∷ [] → ((u ≡ 117) ⊎ (u ≡ 85)) → (o : Option ℕ) → NumberMeans digits o
    → NumberTokenMeans s (with_suffix true o)
suffixed_means s digits u is which None h = tt
suffixed_means s digits u is which (Some n) h = record { value = n; suffix = true; is = refl; spelled = (digits, u, is, which, h) }

suffix_cases : (u : ℕ) → is_suffix u ≡ true → (u ≡ 117) ⊎ (u ≡ 85)
suffix_cases u h = elim (or_cases (eqb u 117) (eqb u 85) h) [ inl k ↦ inl (eqb-true u 117 k) | inr k ↦ inr (eqb-true u 85 k) ]

split_last : (s : List ℕ) → is_suffix (get_or s (length s - 1) 0) ≡ true → s ≡ take (length s - 1) s ++ get_or s (length s - 1) 0 ∷ []
split_last [] h = absurd (false≢true h)
split_last (b ∷ bs) h =
    let s = b ∷ bs in
    let size : length s - 1 + 1 ≡ length s = omega arith in
    sym (take_all (length s - 1 + 1) s (omega arith)) ∙ take_more s (length s - 1) 0 (omega arith)

pub number_read : (s : List ℕ) → NumberTokenMeans s (number_of s)
number_read s =
    let last = get_or s (length s - 1) 0 in
    let digits = take (length s - 1) s in
    cond_both (is_suffix last) (with_suffix true (digits_of digits)) (with_suffix false (digits_of s)) (NumberTokenMeans s)
    (λ h. suffixed_means s digits last (split_last s h) (suffix_cases last h) (digits_of digits) (digits_of_read digits))
    (λ h. plain_means s (digits_of s) (digits_of_read s))
