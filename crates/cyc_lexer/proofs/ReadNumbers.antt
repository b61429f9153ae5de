-- Numbers are read as they are spelled.
use Rattle.std.proofs.Common.{◌≡◌, ℕ, ◌+◌, ◌*◌, ◌≤◌, true, cond, eqb, leb, ◌||◌, List, [], ◌∷◌, Option, Some, None, refl, ap, sym, ◌∙◌, arith, inl, inr, ◌⊎◌}
use Rattle.std.proofs.Math.Nat.{mul-le-mul_left}
use Rattle.std.proofs.lemmas.Bool.{cond_both, cond-true, cond-false, and_parts, and_from, or_cases, or_left, or_right, or_from, leb-true, le-leb, eqb-true}
use Rattle.std.proofs.lemmas.Bool.{eqb-false, eq-eqb, ne_eqb}
use Rattle.cyc_lexer.specs.Bytes.{is_digit, is_octal_digit, digit_value, all_bytes, value_after, value_of}
use Rattle.cyc_lexer.specs.Spelling.{IsDecimal, IsOctal, IsHexadecimal, IsNumber}
use Rattle.cyc_lexer.specs.Reading.{is_digit_to, digits_value, after_x, after_zero, digits_of}
use Rattle.cyc_lexer.proofs.ByteTests.{between, is_between-in}

-- ---- digits to a base

value_grows : (base before : ℕ) (ds : List ℕ) → 1 ≤ base → before ≤ value_after base before ds
value_grows base before [] pos = omega arith
value_grows base before (d ∷ ds) pos =
    omega (arith, mul-le-mul_left before pos, value_grows base (before * base + digit_value d) ds pos)

abbrev DigitsMean : ℕ → ℕ → List ℕ → Option ℕ → Type 0
DigitsMean base before ds None = Unit {0}
DigitsMean base before ds (Some n) = (all_bytes (is_digit_to base) ds ≡ true) × (n ≡ value_after base before ds) × (n ≤ 4294967295)

digits_more : (base before d : ℕ) (ds : List ℕ) → is_digit_to base d ≡ true → (o : Option ℕ) → DigitsMean base (before * base + digit_value d) ds o
    → DigitsMean base before (d ∷ ds) o
digits_more base before d ds h None m = tt
digits_more base before d ds h (Some n) m = (and_from (is_digit_to base d) (all_bytes (is_digit_to base) ds) h m.0, m.1, m.2)

digits_read : (base before : ℕ) (ds : List ℕ) → before ≤ 4294967295 → DigitsMean base before ds (digits_value base before ds)
digits_read base before [] le = (refl, refl, le)
digits_read base before (d ∷ ds) le =
    let next = before * base + digit_value d in
    let more = digits_value base next ds in
    cond_both (is_digit_to base d) (cond (leb next 4294967295) more None) None (DigitsMean base before (d ∷ ds))
    (λ h. cond_both (leb next 4294967295) more None (DigitsMean base before (d ∷ ds))
    (λ k. digits_more base before d ds h more (digits_read base next ds (leb-true next 4294967295 k))) (λ k. tt))
    (λ h. tt)

digits_again : (base before : ℕ) (ds : List ℕ) → 1 ≤ base → all_bytes (is_digit_to base) ds ≡ true → value_after base before ds ≤ 4294967295 →
    digits_value base before ds ≡ Some (value_after base before ds)
digits_again base before [] pos h le = refl
digits_again base before (d ∷ ds) pos h le =
    let both = and_parts (is_digit_to base d) (all_bytes (is_digit_to base) ds) h in
    let next = before * base + digit_value d in
    let more = digits_value base next ds in
    cond-true (is_digit_to base d) (cond (leb next 4294967295) more None) None both.0
    ∙ cond-true (leb next 4294967295) more None (le-leb next 4294967295 (omega (arith, value_grows base next ds pos, le)))
    ∙ digits_again base next ds pos both.1 le

-- ---- numbers without a suffix

abbrev pub NumberMeans : List ℕ → Option ℕ → Type 0
NumberMeans s None = Unit {0}
NumberMeans s (Some n) = IsNumber s n

hexadecimal_means : (d x y : ℕ) (ys : List ℕ) → d ≡ 48 → ((x ≡ 120) ⊎ (x ≡ 88)) → (o : Option ℕ) → DigitsMean 16 0 (y ∷ ys) o → NumberMeans (d ∷ x ∷ y ∷ ys) o
hexadecimal_means d x y ys e f None m = tt
hexadecimal_means d x y ys e f (Some n) m = (inr (inr (e, f, (λ k. cc), m.0, m.1)), m.2)

after_x_read : (d x : ℕ) (ds : List ℕ) → d ≡ 48 → ((x ≡ 120) ⊎ (x ≡ 88)) → NumberMeans (d ∷ x ∷ ds) (after_x ds)
after_x_read d x [] e f = tt
after_x_read d x (y ∷ ys) e f = hexadecimal_means d x y ys e f (digits_value 16 0 (y ∷ ys)) (digits_read 16 0 (y ∷ ys) (omega arith))

octal_means : (d : ℕ) (ds : List ℕ) → d ≡ 48 → (o : Option ℕ) → DigitsMean 8 0 ds o → NumberMeans (d ∷ ds) o
octal_means d ds e None m = tt
octal_means d ds e (Some n) m = (inr (inl (e, m.0, m.1)), m.2)

x_cases : (x : ℕ) → (eqb x 120 || eqb x 88) ≡ true → (x ≡ 120) ⊎ (x ≡ 88)
x_cases x h = elim (or_cases (eqb x 120) (eqb x 88) h) [ inl k ↦ inl (eqb-true x 120 k) | inr k ↦ inr (eqb-true x 88 k) ]

after_zero_read : (d : ℕ) (ds : List ℕ) → d ≡ 48 → NumberMeans (d ∷ ds) (after_zero ds)
after_zero_read d [] e = (inr (inl (e, refl, refl)), omega arith)
after_zero_read d (x ∷ xs) e =
    cond_both (eqb x 120 || eqb x 88) (after_x xs) (digits_value 8 0 (x ∷ xs)) (NumberMeans (d ∷ x ∷ xs))
    (λ h. after_x_read d x xs e (x_cases x h)) (λ h. octal_means d (x ∷ xs) e (digits_value 8 0 (x ∷ xs)) (digits_read 8 0 (x ∷ xs) (omega arith)))

decimal_means : (d : ℕ) (ds : List ℕ) → (d ≡ 48 → ⊥) → (o : Option ℕ) → DigitsMean 10 0 (d ∷ ds) o → NumberMeans (d ∷ ds) o
decimal_means d ds e None m = tt
decimal_means d ds e (Some n) m =
    let both = and_parts (is_digit d) (all_bytes is_digit ds) m.0 in
    let lies = between 48 57 d both.0 in
    let low : 49 ≤ d = omega (arith, e, lies.0) in
    (inl (is_between-in 49 57 d low lies.1, both.1, m.1), m.2)

pub digits_of_read : (s : List ℕ) → NumberMeans s (digits_of s)
digits_of_read [] = tt
digits_of_read (d ∷ ds) =
    cond_both (eqb d 48) (after_zero ds) (digits_value 10 0 (d ∷ ds)) (NumberMeans (d ∷ ds))
    (λ h. after_zero_read d ds (eqb-true d 48 h))
    (λ h. decimal_means d ds (eqb-false d 48 h) (digits_value 10 0 (d ∷ ds)) (digits_read 10 0 (d ∷ ds) (omega arith)))

decimal_again : (s : List ℕ) (n : ℕ) → IsDecimal s n → n ≤ 4294967295 → digits_of s ≡ Some n
decimal_again [] n h le = absurd h
decimal_again (d ∷ ds) n h le =
    let lies = between 49 57 d h.0 in
    let first : is_digit d ≡ true = is_between-in 48 57 d (omega (arith, lies.0)) lies.1 in
    cond-false (eqb d 48) (after_zero ds) (digits_value 10 0 (d ∷ ds)) (ne_eqb d 48 (λ e. absurd (omega (arith, lies.0))))
    ∙ digits_again 10 0 (d ∷ ds) (omega arith) (and_from (is_digit d) (all_bytes is_digit ds) first h.1) (omega (arith, h.2, le))
    ∙ ap Some (sym h.2)

octal_again : (d : ℕ) (ds : List ℕ) (n : ℕ) → all_bytes is_octal_digit ds ≡ true → n ≡ value_of 8 ds → n ≤ 4294967295 → after_zero ds ≡ Some n
octal_again d [] n h e le = ap Some (sym e)
octal_again d (x ∷ xs) n h e le =
    let both = and_parts (is_octal_digit x) (all_bytes is_octal_digit xs) h in
    let lies = between 48 55 x both.0 in
    cond-false (eqb x 120 || eqb x 88) (after_x xs) (digits_value 8 0 (x ∷ xs))
    (or_from (eqb x 120) (eqb x 88) (ne_eqb x 120 (λ k. absurd (omega (arith, lies.1)))) (ne_eqb x 88 (λ k. absurd (omega (arith, lies.1)))))
    ∙ digits_again 8 0 (x ∷ xs) (omega arith) h (omega (arith, e, le))
    ∙ ap Some (sym e)

x_test : (x : ℕ) → ((x ≡ 120) ⊎ (x ≡ 88)) → (eqb x 120 || eqb x 88) ≡ true
x_test x (inl e) = or_left (eqb x 120) (eqb x 88) (eq-eqb x 120 e)
x_test x (inr e) = or_right (eqb x 120) (eqb x 88) (eq-eqb x 88 e)

zero_first : (d : ℕ) (ds : List ℕ) → d ≡ 48 → digits_of (d ∷ ds) ≡ after_zero ds
zero_first d ds e = cond-true (eqb d 48) (after_zero ds) (digits_value 10 0 (d ∷ ds)) (eq-eqb d 48 e)

hexadecimal_again : (s : List ℕ) (n : ℕ) → IsHexadecimal s n → n ≤ 4294967295 → digits_of s ≡ Some n
hexadecimal_again [] n h le = absurd h
hexadecimal_again (d ∷ []) n h le = absurd h
hexadecimal_again (d ∷ x ∷ []) n h le = absurd (h.2 refl)
hexadecimal_again (d ∷ x ∷ y ∷ ys) n h le =
    zero_first d (x ∷ y ∷ ys) h.0
    ∙ cond-true (eqb x 120 || eqb x 88) (after_x (y ∷ ys)) (digits_value 8 0 (x ∷ y ∷ ys)) (x_test x h.1)
    ∙ digits_again 16 0 (y ∷ ys) (omega arith) h.3 (omega (arith, h.4, le))
    ∙ ap Some (sym h.4)

octal_whole : (s : List ℕ) (n : ℕ) → IsOctal s n → n ≤ 4294967295 → digits_of s ≡ Some n
octal_whole [] n h le = absurd h
octal_whole (d ∷ ds) n h le = zero_first d ds h.0 ∙ octal_again d ds n h.1 h.2 le

pub digits_of_again : (s : List ℕ) (n : ℕ) → IsNumber s n → digits_of s ≡ Some n
digits_of_again s n (inl h, le) = decimal_again s n h le
digits_of_again s n (inr (inl h), le) = octal_whole s n h le
digits_of_again s n (inr (inr h), le) = hexadecimal_again s n h le
