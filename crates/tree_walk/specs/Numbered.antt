-- Believed, for this crate's laws: strings by their numbers and places.
use Rattle.std.specs.Prelude.{ℕ, suc, ◌+◌, ◌≡◌, List, [], ◌∷◌, Option, Some, None, length, nat_eq, if◌then◌else◌}
use Rattle.indexmap.specs.IndexMap.{get_by}
use Rattle.source_meaning.specs.Strings.{Literal}
use Rattle.tree_walk.specs.declared.places.Numbered as code
use Rattle.tree_walk.specs.declared.places.Places.{Places}

-- a string of a number, with its bytes and the final 0
abbrev pub numbered : Literal → ℕ → code.Numbered
numbered s number = record { number = number; count = length s.1 + 1 }

-- the first string of a place, where they have numbers from k on
abbrev pub first_at : List Literal → ℕ → ℕ → Option code.Numbered
first_at [] k at = None
first_at (s ∷ ss) k at = (if nat_eq s.0 at then Some (numbered s k) else first_at ss (suc k) at)

-- the string that a table has at a place
abbrev pub in_places : Places → ℕ → Option code.Numbered
in_places places at = get_by (λ key. nat_eq at key) places.by_place

-- the table has the first one of each place
abbrev pub AreFirst : List Literal → Places → Type 0
AreFirst ss places = (at : ℕ) → in_places places at ≡ first_at ss 0 at
