-- Items one by one.
use Rattle.std.proofs.Common.{◌≡◌, ℕ, ◌+◌, ◌<◌, List, ◌∷◌, sym, ap, ◌∙◌, drop, get_or, length}
use Rattle.std.proofs.lemmas.List.{drop_more}

-- what is left before an item, by what is left after it
pub next_of : {X : Type 0} (xs : List X) (i : ℕ) (x : X) → i < length xs → x ≡ get_or xs i x → drop i xs ≡ x ∷ drop (i + 1) xs
next_of xs i x h is_item = drop_more xs i x h ∙ ap (λ y. y ∷ drop (i + 1) xs) (sym is_item)
