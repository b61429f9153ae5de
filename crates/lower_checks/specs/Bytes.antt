-- View of code: bytes, as lists of numbers.
use Rattle.std.specs.Prelude.{◌≡◌, ℕ, ◌<◌, List, Some, slice_get}

-- each of them is below 256
abbrev pub AreLow : List ℕ → Type 0
AreLow bytes = (k b : ℕ) → slice_get bytes k ≡ Some b → b < 256
