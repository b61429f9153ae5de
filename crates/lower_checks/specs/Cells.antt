-- View of code: what cells of shapes are made for.
use Rattle.std.specs.Prelude.{Option, Some, None}
use Rattle.source_meaning.specs.Shapes.{Shape, IntShape, UnsignedShape, CharShape, ThinShape, FatShape, HandleShape, KeyShape}
use Rattle.cyc_core.specs.declared.operation.Cell.{Cell}
use Rattle.cyc_core.specs.declared.operation.Cell.TheVariants as cell

-- what a cell of a shape is made for; nothing where it is no integer, no pointer, no handle and no key
abbrev pub cell_for : Shape → Option Cell
cell_for IntShape = Some cell.Word
cell_for UnsignedShape = Some cell.Word
cell_for CharShape = Some cell.Byte
cell_for (ThinShape bound owner to) = Some cell.Pointer
cell_for (FatShape to) = Some cell.Fat
cell_for HandleShape = Some cell.Handle
cell_for KeyShape = Some cell.Handle
cell_for _ = None
