-- View of two runs side by side: what an object is made of, by the structs that are declared: its cells, where they are placed, and how large it is.
use Rattle.std.specs.Prelude.{◌≡◌, true, List, [], ◌∷◌}
use Rattle.source_meaning.specs.Shapes.{Shape, UnionShape, Layout, has_tag}
use Rattle.source_meaning.specs.Sizes.{Extent, cells_by, struct_cells, extent_by, union_extent, struct_extent}
use Rattle.source_meaning.specs.Placing.{Placed, placed_by, struct_placed}
use Rattle.source_lowering.specs.Lowerable.{IsValueShape}

abbrev pub cells_in : List Layout → Shape → List Shape
cells_in structs s = cells_by (struct_cells structs) s

abbrev pub placed_in : List Layout → List Layout → Shape → List Placed
placed_in unions structs s = placed_by (struct_placed unions structs) s

abbrev pub extent_in : List Layout → List Layout → Shape → Extent
extent_in unions structs s = extent_by (struct_extent unions structs) (union_extent unions) s

abbrev pub shapes_in : List Placed → List Shape
shapes_in [] = []
shapes_in (p ∷ ps) = p.shape ∷ shapes_in ps

-- a cell: a word, a fat pointer, or one of these unions
abbrev pub IsCellShape : List Layout → Shape → Type 0
IsCellShape unions (UnionShape tag) = (has_tag unions tag ≡ true)
IsCellShape unions s = IsValueShape s

abbrev pub AreCellShapes : List Layout → List Shape → Type 0
AreCellShapes unions [] = Unit {0}
AreCellShapes unions (s ∷ ss) = IsCellShape unions s × AreCellShapes unions ss

-- the cells of an object are the same, placed and not, and each is one of a shape that is taken; the first of them begins with it
pub record HasCells (unions structs : List Layout) (s : Shape) : Type 0 where
  pub shapes : shapes_in (placed_in unions structs s) ≡ cells_in structs s
  pub cells : AreCellShapes unions (cells_in structs s)
  pub first : Placed
  pub others : List Placed
  pub is : placed_in unions structs s ≡ first ∷ others
  pub begins : first.offset ≡ 0
