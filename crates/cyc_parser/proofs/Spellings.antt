-- Spellings that are the same, from the test of it.
use Rattle.std.proofs.Common.{◌≡◌, ℕ, true, false, List, [], ◌∷◌, refl, subst}
use Rattle.std.proofs.lemmas.Bool.{eq-eqb, false_from_ne_true}
use Rattle.cyc_lexer.specs.Reading.{same}
use Rattle.cyc_lexer.proofs.ReadWords.{same-true}

pub same_self : (a : List ℕ) → same a a ≡ true
same_self [] = refl
same_self (x ∷ xs) = rw (eq-eqb x x refl) (same_self xs)

pub are_same : (a b : List ℕ) → a ≡ b → same a b ≡ true
are_same a b e = subst (λ x. same a x ≡ true) e (same_self a)

pub are_other : (a b : List ℕ) → (a ≡ b → ⊥) → same a b ≡ false
are_other a b other = false_from_ne_true (same a b) (λ e. other (same-true a b e))
