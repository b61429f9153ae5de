-- View of code: how far the members of structs lie from where an object begins: each struct takes at most 4,096 bytes, and none has more cells than bytes.
use Rattle.std.specs.Prelude.{ℕ, ◌+◌, ◌≤◌, List, length}
use Rattle.source_meaning.specs.Shapes.{Part, Shape}
use Rattle.source_meaning.specs.Sizes.{all_cells}
use Rattle.source_meaning.specs.Steps.{World}
use Rattle.source_meaning.specs.Conversions.{cells_of}
use Rattle.source_lowering.specs.Layouts.{bytes_through, extent_of}
use Rattle.source_lowering.specs.Lowerable.{AreStructs, AreUnions}
use Rattle.lower_checks.specs.Reaching.{Place}
use Rattle.lower_checks.specs.Views.{shape_tree}
use Rattle.lower_checks.specs.declared.shape.Shape as code

-- a program's unions have words and fat pointers for members, and its structs are made of earlier ones, each of at most 4,096 bytes
pub record AreSmall (w : World) : Type 0 where
  pub unions : AreUnions w.unions
  pub structs : AreStructs w.unions w.structs

-- an object that lies so far on lies within one of a shape
pub record IsInside (w : World) (p : Place) (s : Shape) : Type 0 where
  pub bytes : p.bytes + (extent_of w p.shape).size ≤ (extent_of w s).size
  pub cells : p.cells + length (cells_of w p.shape) ≤ length (cells_of w s)

-- it lies within one of some shape of the code, at most 4,096 cells and bytes on from where that one begins
pub record IsWithin (w : World) (p : Place) : Type 0 where
  pub whole : code.Shape
  pub inside : IsInside w p (shape_tree whole)
  pub near : p.bytes ≤ 4096
  pub few : p.cells ≤ 4096

-- members end within 4,096 bytes and cells, where so many lie before them
pub record AreWithin (w : World) (bytes cells : ℕ) (ps : List Part) : Type 0 where
  pub ends : bytes_through (extent_of w) bytes ps ≤ 4096
  pub few : cells + length (all_cells (cells_of w) ps) ≤ 4096
