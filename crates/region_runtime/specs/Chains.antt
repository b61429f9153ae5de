-- Believed: chains of pages through a word of each header. How many pages a chain has is known beside it.
use Rattle.std.specs.Prelude.{ℕ, zero, suc, List, [], ◌∷◌, nat_eq, if◌then◌else◌}

-- the given number of pages, from one on along the links
unfoldable pub follow : (ℕ → ℕ) → ℕ → ℕ → List ℕ
follow next zero from = []
follow next (suc n) from = from ∷ follow next n (next from)

-- how often a page is on a list
unfoldable pub times : ℕ → List ℕ → ℕ
times x [] = 0
times x (y ∷ ys) = (if nat_eq x y then suc (times x ys) else times x ys)

-- the last page of a list, or another where it has none
unfoldable pub last_or : ℕ → List ℕ → ℕ
last_or x [] = x
last_or x (y ∷ ys) = last_or y ys
