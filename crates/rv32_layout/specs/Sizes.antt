-- View of code: how many bytes globals and strings take, cell by cell.
use Rattle.std.specs.Prelude.{ℕ, ◌+◌, ◌*◌, List, [], ◌∷◌, length}
use Rattle.cyc_core.specs.declared.layout.CellLayout.{CellLayout}
use Rattle.cyc_core.specs.declared.program.Datum.{Datum}
use Rattle.cyc_core.specs.declared.program.Datum.TheVariants as datum
use Rattle.cyc_core.specs.Trees.{cell_bytes}

-- a cell, with the bytes behind it that hold nothing
abbrev pub cell_size : CellLayout → ℕ
cell_size c = cell_bytes c.cell + c.padding

abbrev pub cells_size : List CellLayout → ℕ
cells_size [] = 0
cells_size (c ∷ cs) = cell_size c + cells_size cs

abbrev pub datum_size : Datum → ℕ
datum_size (datum.Byte b) = 1
datum_size (datum.Word w) = 4
datum_size datum.Null = 4
datum_size (datum.Text bytes) = length bytes.items + 1
datum_size (datum.Address object) = 4
datum_size (datum.Bounds object count) = 12
datum_size (datum.Whole l count) = count * cells_size l.value.cells.items
