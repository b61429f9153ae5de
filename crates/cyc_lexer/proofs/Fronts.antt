-- The front of a text that a reader takes.
use Rattle.std.proofs.Common.{◌≡◌, ℕ, ◌≤◌, List, ◌++◌, length, take, drop, Option, Some, None, refl, ap, sym, ◌∙◌, arith, length-append}
use Rattle.std.proofs.lemmas.List.{take_at, drop_at}

-- the first n bytes of t, which P holds of, before the rest
pub record Cut (P : List ℕ → List ℕ → Type 0) (n : ℕ) (t : List ℕ) : Type 0 where
  pub front : List ℕ
  pub rest : List ℕ
  pub is : t ≡ front ++ rest
  pub size : length front ≡ n
  pub holds : P front rest

-- what a reader's answer means: nothing at None
abbrev pub Reads : {X : Type 0} → (X → List ℕ → List ℕ → Type 0) → List ℕ → Option (X × ℕ) → Type 0
Reads P t None = Unit {0}
Reads P t (Some x) = Cut (P x.0) x.1 t

pub Cut-within : (P : List ℕ → List ℕ → Type 0) (n : ℕ) (t : List ℕ) → Cut P n t → n ≤ length t
Cut-within P n t w = omega (arith, ap length w.is, length-append w.front w.rest, w.size)

pub Cut-take : (P : List ℕ → List ℕ → Type 0) (n : ℕ) (t : List ℕ) → (w : Cut P n t) → take n t ≡ w.front
Cut-take P n t w = ap (take n) w.is ∙ take_at w.front w.rest n w.size

pub Cut-drop : (P : List ℕ → List ℕ → Type 0) (n : ℕ) (t : List ℕ) → (w : Cut P n t) → drop n t ≡ w.rest
Cut-drop P n t w = ap (drop n) w.is ∙ drop_at w.front w.rest n w.size

-- two fronts of one text, of the same length
pub same_fronts : (s r s' r' : List ℕ) → s ++ r ≡ s' ++ r' → length s ≡ length s' → (s ≡ s') × (r ≡ r')
same_fronts s r s' r' e n = (
  sym (take_at s r (length s) refl) ∙ ap (take (length s)) e ∙ take_at s' r' (length s) (sym n),
  sym (drop_at s r (length s) refl) ∙ ap (drop (length s)) e ∙ drop_at s' r' (length s) (sym n),
)
