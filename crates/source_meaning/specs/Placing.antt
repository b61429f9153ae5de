-- Believed: where the cells of a shape lie in bytes.
use Rattle.std.specs.Prelude.{ℕ, ◌+◌, List, [], ◌∷◌, ◌++◌, map, bytes_eq, if◌then◌else◌}
use Rattle.source_meaning.specs.Shapes.{Shape, VoidShape, StructShape, ArrayShape, Part, Layout}
use Rattle.source_meaning.specs.Sizes.{Extent, rounded_up, extent_by, struct_extent, union_extent}

-- one cell, and its offset in bytes from the first one
pub record Placed : Type 0 where
  pub offset : ℕ
  pub shape : Shape

abbrev pub moved : ℕ → Placed → Placed
moved by p = record p { offset = by + p.offset }

-- a scalar is one cell; an array's cells aren't placed one by one
abbrev pub placed_by : (List ℕ → List Placed) → Shape → List Placed
placed_by of_struct (StructShape tag) = of_struct tag
placed_by of_struct VoidShape = []
placed_by of_struct (ArrayShape count of) = []
placed_by of_struct s = (record { offset = 0; shape = s }) ∷ []

-- the cells of all parts, where the first part begins behind `so_far` bytes
abbrev pub all_placed : (Shape → List Placed) → (Shape → Extent) → ℕ → List Part → List Placed
all_placed placed extent so_far [] = []
all_placed placed extent so_far (p ∷ ps) =
    let at = rounded_up so_far (extent p.shape).align in
    map (moved at) (placed p.shape) ++ all_placed placed extent (at + (extent p.shape).size) ps

-- the latest struct comes first, and is made of earlier ones
abbrev pub struct_placed : List Layout → List Layout → List ℕ → List Placed
struct_placed unions [] tag = []
struct_placed unions (l ∷ earlier) tag =
    (if bytes_eq l.tag tag
    then all_placed (placed_by (struct_placed unions earlier)) (extent_by (struct_extent unions earlier) (union_extent unions)) 0 l.parts
    else struct_placed unions earlier tag)
