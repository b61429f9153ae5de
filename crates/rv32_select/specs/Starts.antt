-- View of code: where the statements of a list begin: the homes of the names to come there, and what is known of temporaries.
use Rattle.std.specs.Prelude.{ℕ, List, [], ◌∷◌, drop}
use Rattle.core_meaning.specs.Core.{Statements, NoStatements, MoreStatements}
use Rattle.core_lines.specs.Held.{Holding, held_behind}
use Rattle.core_lines.specs.LocalPlaces.{names_after}
use Rattle.core_lines.specs.Selected.{Surroundings, holding, naming}
use Rattle.rv32_select.specs.declared.place.Point.{Point}

pub record Start : Type 0 where
  pub names : List ℕ
  pub held : List Holding

abbrev pub start_at : Surroundings → Start
start_at u = record { names = u.names; held = u.held }

-- the same surroundings there
abbrev pub starting : Start → Surroundings → Surroundings
starting s u = holding s.held (naming s.names u)

-- by the homes of a function's locals
abbrev pub point_start : List ℕ → Point → Start
point_start homes p = record { names = drop p.named homes; held = p.held }

abbrev pub starts_of : (homes : List (List ℕ)) → (statics names : List ℕ) → List Holding → Statements → List Start
starts_of homes statics names hs NoStatements = []
starts_of homes statics names hs (MoreStatements s ss) =
    record { names = names; held = hs } ∷ starts_of homes statics (names_after s names) (held_behind homes statics hs s) ss
