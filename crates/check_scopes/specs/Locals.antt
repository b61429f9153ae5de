-- View of code: locals in code, the latest first.
use Rattle.std.specs.Prelude.{Bool, List, None, Option, Some, bytes_eq, false, length, nat_le, ℕ, ◌&&◌, ◌||◌, if◌then◌else◌, [], ◌∷◌}
use Rattle.check_scopes.specs.declared.locals.What.{What}

-- a name, with what it is
pub record Known : Type 0 where
  pub name : List ℕ
  pub what : What

abbrev pub known : List ℕ → What → Known
known x w = record { name = x; what = w }

-- the latest one of a name hides the others
abbrev pub find_what : List Known → List ℕ → Option What
find_what [] x = None
find_what (l ∷ ls) x = (if bytes_eq l.name x then Some l.what else find_what ls x)

-- whether a local of this name stands after the first `outer` ones
abbrev pub is_after : List Known → ℕ → List ℕ → Bool
is_after [] outer x = false
is_after (l ∷ ls) outer x = (nat_le outer (length ls) && bytes_eq l.name x) || is_after ls outer x

-- only the earliest `n` locals stay
abbrev pub dropped_to : ℕ → List Known → List Known
dropped_to n [] = []
dropped_to n (l ∷ ls) = (if nat_le n (length ls) then dropped_to n ls else l ∷ ls)
