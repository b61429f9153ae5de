-- The numbers of temporary objects.
use Rattle.std.proofs.Common.{◌≡◌, ℕ, zero, suc, ◌+◌, List, [], ◌∷◌, ◌++◌, length, Some, refl, sym, ap, ◌∙◌, arith}
use Rattle.std.specs.Prelude.{slice_get}
use Rattle.source_meaning.specs.Shapes.{Shape}

-- these are the values from a number on
abbrev pub AreNumbered : List Shape → ℕ → List Shape → Type 0
AreNumbered owned own values = (i : ℕ) (s : Shape) → slice_get values i ≡ Some s → slice_get owned (own + i) ≡ Some s

first_of_both : (xs ys : List Shape) (i : ℕ) (s : Shape) → slice_get xs i ≡ Some s → slice_get (xs ++ ys) i ≡ Some s
first_of_both [] ys i s e = absurd (cc e)
first_of_both (x ∷ xs) ys zero s e = e
first_of_both (x ∷ xs) ys (suc i) s e = first_of_both xs ys i s e

after_both : (xs ys : List Shape) (i : ℕ) → slice_get (xs ++ ys) (length xs + i) ≡ slice_get ys i
after_both [] ys i = ap (slice_get ys) (zero_on i)
  where
    zero_on : (i : ℕ) → 0 + i ≡ i
    zero_on i = omega arith
after_both (x ∷ xs) ys i = ap (slice_get (x ∷ (xs ++ ys))) (next (length xs) i) ∙ after_both xs ys i
  where
    next : (k i : ℕ) → suc k + i ≡ suc (k + i)
    next k i = omega arith

pub numbered_first : (owned : List Shape) (own : ℕ) (xs ys : List Shape) → AreNumbered owned own (xs ++ ys) → AreNumbered owned own xs
numbered_first owned own xs ys h i s e = h i s (first_of_both xs ys i s e)

pub numbered_after : (owned : List Shape) (own : ℕ) (xs ys : List Shape) → AreNumbered owned own (xs ++ ys) → AreNumbered owned (own + length xs) ys
numbered_after owned own xs ys h i s e =
    let same : own + (length xs + i) ≡ own + length xs + i = omega arith in
    ap (slice_get owned) (sym same) ∙ h (length xs + i) s (after_both xs ys i ∙ e)

pub numbered_one : (owned : List Shape) (own : ℕ) (s : Shape) (ss : List Shape) → AreNumbered owned own (s ∷ ss) → slice_get owned own ≡ Some s
numbered_one owned own s ss h = let same : own ≡ own + 0 = omega arith in ap (slice_get owned) same ∙ h 0 s refl

pub numbered_more : (owned : List Shape) (own : ℕ) (s : Shape) (ss : List Shape) → AreNumbered owned own (s ∷ ss) → AreNumbered owned (suc own) ss
numbered_more owned own s ss h i z e =
    let same : suc own + i ≡ own + suc i = omega arith in ap (slice_get owned) same ∙ h (suc i) z e
