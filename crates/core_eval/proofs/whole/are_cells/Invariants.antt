use Rattle.std.specs.Prelude.{option_map}
use Rattle.std.proofs.Common.{◌≡◌, drop}
use Rattle.core_eval.specs.Values.{cell_in}
use Rattle.core_eval.specs.Elements.{cells_of}
use Rattle.core_eval.specs.Whole.{are_alike, are_cells}
use Rattle.core_eval.proofs.whole.are_cells.Given as goal

abbrev pub invariant-each : goal.invariant-each
invariant-each l = record {
  whole : are_cells (cell_in (option_map (λ o. cells_of o.now) l.object)) l.at l.place.byte (drop l.cell-index l.cells)
      ≡ are_cells (cell_in (option_map (λ o. cells_of o.now) l.object)) l.place.cell l.place.byte l.cells;
  alike : are_alike (cell_in (option_map (λ o. cells_of o.now) l.object)) l.at (drop l.cell-index l.cells)
      ≡ are_alike (cell_in (option_map (λ o. cells_of o.now) l.object)) l.place.cell l.cells;
}
