-- View of code: the locals that are visible at a point, between the beginnings of the open blocks.
use Rattle.std.specs.Prelude.{ℕ, List, [], ◌∷◌, Option, Some, None}
use Rattle.source_lowering.specs.Lowered.{Named}
use Rattle.source_lowering.specs.Programs.{named_here, outward}
use Rattle.lower_checks.specs.Views.{stored_tree}
use Rattle.lower_checks.specs.declared.stored.Stored as code

-- a local: its name, what it is, and its number in its block
pub record Declared : Type 0 where
  pub name : List ℕ
  pub stored : code.Stored
  pub index : ℕ

abbrev pub declared : List ℕ → code.Stored → ℕ → Declared
declared name stored index = record { name = name; stored = stored; index = index }

-- what was declared, the last one first; `None` where a block begins, out of which each local before it is one block further out
abbrev pub names_of : List (Option Declared) → List Named
names_of [] = []
names_of (Some d ∷ others) = named_here d.name (stored_tree d.stored) d.index ∷ names_of others
names_of (None ∷ others) = outward (names_of others)

-- what was declared before the innermost block began
abbrev pub left : List (Option Declared) → List (Option Declared)
left [] = []
left (Some d ∷ others) = left others
left (None ∷ others) = others
