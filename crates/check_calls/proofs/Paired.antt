-- What two lists give, one of each at a time.
use Rattle.std.specs.Prelude.{min, ◌+◌, ◌++◌}
use Rattle.std.proofs.Common.{◌≡◌, ◌<◌, ◌≤◌, ℕ, zero, suc, List, [], ◌∷◌, sym, ◌∙◌, ap, arith, drop, get_or, length}
use Rattle.std.proofs.lemmas.List.{drop_more}

module _ {X Y Z : Type 0} (F : List X → List Y → List Z) (one : X → Y → List Z) (first : (ys : List Y) → F [] ys ≡ []) (second : (xs : List X) → F xs [] ≡ [])
    (step : (x : X) (xs : List X) (y : Y) (ys : List Y) → F (x ∷ xs) (y ∷ ys) ≡ one x y ++ F xs ys) where
  pub past : (i : ℕ) (xs : List X) (ys : List Y) → min (length xs) (length ys) ≤ i → F (drop i xs) (drop i ys) ≡ []
  past zero [] ys h = first ys
  past zero (x ∷ xs) [] h = second (x ∷ xs)
  past zero (x ∷ xs) (y ∷ ys) h = absurd (omega (arith, h))
  past (suc i) [] ys h = first (drop (suc i) ys)
  past (suc i) (x ∷ xs) [] h = second (drop i xs)
  past (suc i) (x ∷ xs) (y ∷ ys) h = past i xs ys (omega (arith, h))

  pub next_given : (i : ℕ) (xs : List X) (ys : List Y) (x d : X) (y e : Y) → i < min (length xs) (length ys) → x ≡ get_or xs i d → y ≡ get_or ys i e
      → F (drop i xs) (drop i ys) ≡ one x y ++ F (drop (i + 1) xs) (drop (i + 1) ys)
  next_given i xs ys x d y e h p q =
      ap (λ l. F l (drop i ys)) (drop_more xs i d (omega (arith, h)) ∙ ap (λ z. z ∷ drop (i + 1) xs) (sym p))
      ∙ ap (λ l. F (x ∷ drop (i + 1) xs) l) (drop_more ys i e (omega (arith, h)) ∙ ap (λ z. z ∷ drop (i + 1) ys) (sym q))
      ∙ step x (drop (i + 1) xs) y (drop (i + 1) ys)
