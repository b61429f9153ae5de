-- View of code: a type's cells are found struct by struct: what is found, and the members that are still to come.
use Rattle.std.specs.Prelude.{List, None, Option, Some, map, zero, ℕ, ◌+◌, ◌≡◌, ◌≤◌, [], ◌∷◌, ◌++◌}
use Rattle.source_meaning.specs.Sizes.{Extent}
use Rattle.source_typing.specs.Extents.{most_bytes}
use Rattle.source_typing.specs.Tables.{Part}
use Rattle.source_typing.specs.Types.{StaticType, Struct}
use Rattle.cyc_types.specs.Cells.{KindAt, cells_found, cells_of, moved_by, placed_onto, spread}
use Rattle.cyc_types.specs.Known.{Entry}
use Rattle.cyc_types.specs.Measures.{extent_of, quick_laid, quick_measure}
use Rattle.cyc_types.specs.Tags.{members_of}
use Rattle.cyc_types.specs.declared.laying.Laying.{Laying}
use Rattle.cyc_types.specs.declared.laying.Waiting.{Waiting}
use Rattle.cyc_types.specs.declared.tag.Known.{Known}

-- ---- members that are still to come

abbrev pub waiting_parts : Waiting → List Part
waiting_parts w = members_of w.members.now

-- their cells
abbrev pub waiting_cells : List Entry → Waiting → List KindAt
waiting_cells es w = map (moved_by w.at) (placed_onto (quick_measure es) (cells_found es) (Some (extent_of w.so_far)) (waiting_parts w))

-- the latest come first
abbrev pub all_waiting : List Entry → List Waiting → List KindAt
all_waiting es [] = []
all_waiting es (w ∷ ws) = all_waiting es ws ++ waiting_cells es w

-- what is found, and the cells that are still to come
abbrev pub whole_cells : List Entry → Laying → List KindAt
whole_cells es l = cells_of l.cells.items ++ all_waiting es l.waiting.items

-- bytes from this offset on aren't too many
abbrev pub EndsIn : ℕ → Option Extent → Type 0
EndsIn at None = ⊥
EndsIn at (Some e) = at + e.size ≤ most_bytes

-- the bytes of the struct aren't too many
pub record IsWithin (es : List Entry) (w : Waiting) : Type 0 where
  pub extent : Extent
  pub laid : quick_laid (quick_measure es) (Some (extent_of w.so_far)) (waiting_parts w) ≡ Some extent
  pub ends : w.at + extent.size ≤ most_bytes

abbrev pub AreWithin : List Entry → List Waiting → Type 0
AreWithin es [] = Unit {0}
AreWithin es (w ∷ ws) = IsWithin es w × AreWithin es ws

-- ---- how many steps it takes

abbrev pub type_steps : (List ℕ → ℕ) → StaticType → ℕ
type_steps of (Struct tag rs) = of tag
type_steps of t = zero

abbrev pub part_steps : (List ℕ → ℕ) → Option StaticType → ℕ
part_steps of None = zero
part_steps of (Some t) = type_steps of t

abbrev pub all_steps : (List ℕ → ℕ) → List Part → ℕ
all_steps of [] = 1
all_steps of (p ∷ ps) = 1 + part_steps of p.type + all_steps of ps

abbrev pub known_steps : (List ℕ → ℕ) → Known → ℕ
known_steps of k = all_steps of (members_of k.tag.members.items)

abbrev pub no_steps : List ℕ → ℕ
no_steps tag = zero

abbrev pub found_steps : List Entry → List ℕ → ℕ
found_steps es = spread known_steps no_steps es

abbrev pub waiting_steps : List Entry → List Waiting → ℕ
waiting_steps es [] = zero
waiting_steps es (w ∷ ws) = all_steps (found_steps es) (waiting_parts w) + waiting_steps es ws

-- ---- one more part

-- one laying after another, with more cells, in at most `steps` steps
pub record Goes (es : List Entry) (more : List KindAt) (steps : ℕ) (from to : Laying) : Type 0 where
  pub cells : whole_cells es to ≡ cells_of from.cells.items ++ (more ++ all_waiting es from.waiting.items)
  pub within : AreWithin es from.waiting.items → AreWithin es to.waiting.items
  pub fewer : waiting_steps es to.waiting.items ≤ steps + waiting_steps es from.waiting.items
