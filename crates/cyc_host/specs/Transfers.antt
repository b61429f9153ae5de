-- View of code: what goes to a writer and what comes from a reader.
use Rattle.std.specs.Prelude.{◌≡◌, ℕ, ◌++◌, ◌∷◌, ◌⊎◌, Bool, true, false, List, [], Option, Some, None, take}
use Rattle.std.specs.Io.KnownBytes.{Appends, Consumes, IsAtEnd}

-- some of the bytes were written, from the first on
abbrev pub WritesSome : Option (List ℕ) → Option (List ℕ) → List ℕ → Type 0
WritesSome old new bytes = (count : ℕ) × Appends old new (take count bytes)

-- bytes were written from the first on, and these are left
pub record WritesBut (old new : Option (List ℕ)) (bytes rest : List ℕ) : Type 0 where
  pub written : List ℕ
  pub appended : Appends old new written
  pub split : bytes ≡ written ++ rest

-- A byte was taken from the reader; or the reader is at its end, and from there on nothing more is taken.
abbrev pub Answers : Option (List ℕ) → Option (List ℕ) → (was_over is_over : Bool) → Option ℕ → Type 0
Answers old new was_over is_over (Some byte) = Consumes old new (byte ∷ []) × (was_over ≡ false) × (is_over ≡ false)
Answers old new was_over is_over None = Consumes old new [] × (is_over ≡ true) × (IsAtEnd new ⊎ ((was_over ≡ true) × (new ≡ old)))
