-- View of code: bounds, each of them once.
use Rattle.std.specs.Prelude.{Bool, List, map, ℕ, ◌≡◌}
use Rattle.std.specs.List.{list_all}
use Rattle.source_typing.specs.Regions.{Region}
use Rattle.check_regions.specs.Reached.{past}

-- A test holds of all of the first ones where it holds of all of the second ones.
pub record HaveSame (xs ys : List (Region × Region)) : Type 0 where
  pub all : (test : Region × Region → Bool) → list_all test xs ≡ list_all test ys

abbrev pub place_of : Region × Region → ℕ × ℕ
place_of b = (past b.0, past b.1)

-- What is taken of those that were given so far, each once, is what is marked as seen.
pub record AreTaken (seen : List (ℕ × ℕ)) (once given : List (Region × Region)) : Type 0 where
  pub places : seen ≡ map place_of once
  pub same : HaveSame once given
