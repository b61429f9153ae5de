-- View of code: strings.
use Rattle.std.specs.Prelude.{ℕ, ◌<◌, ◌^◌, List}
use Rattle.std.specs.List.{AllByRecursion}

-- each is a byte
abbrev pub AreChars : List ℕ → Type 0
AreChars bs = AllByRecursion (λ b. b < 2 ^ 8) bs
