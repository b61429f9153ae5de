-- The greatest nesting of a list's items, an item at a time.
use Rattle.std.proofs.Common.{◌≡◌, ℕ, ◌-◌, ◌^◌, min, max, List, drop}

-- the greatest so far and the nesting of the rest are the nesting of all
abbrev pub IsGreatestWith : {X : Type 0} → (List X → ℕ) → List X → ℕ → ℕ → Type 0
IsGreatestWith nested xs i greatest = max greatest (min (nested (drop i xs)) (2 ^ 32 - 1)) ≡ min (nested xs) (2 ^ 32 - 1)
