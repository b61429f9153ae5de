-- View of code: when what is known of structs and unions in code is what the rules' tables know of them.
use Rattle.std.specs.Prelude.{Bool, List, length, ℕ, ◌≡◌, ◌≤◌}
use Rattle.source_typing.specs.Extents.{layouts_of}
use Rattle.source_typing.specs.Tables.{tag_in}
use Rattle.cyc_types.specs.Tables.{tables_of}
use Rattle.cyc_types.specs.declared.tables.Tables.{Tables}
use Rattle.source_typing.specs.Tables as rules

pub record HasTags (tables : Tables) (g : rules.Tables) : Type 0 where
  -- each name means the same struct or union, or none
  pub tags : (x : List ℕ) → tag_in g x ≡ tag_in (tables_of tables) x
  -- structs are laid out alike, and unions
  pub layouts : (union : Bool) → layouts_of union g ≡ layouts_of union (tables_of tables)
  -- the rules know of at least as many names, so that they look into structs as deep
  pub depth : length (tables_of tables) ≤ length g
