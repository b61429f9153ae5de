use Rattle.std.specs.Prelude.{option_map}
use Rattle.std.proofs.Common.{◌≡◌, ◌++◌, drop}
use Rattle.core_eval.specs.Values.{cell_in}
use Rattle.core_eval.specs.Elements.{cells_of}
use Rattle.core_eval.specs.Whole.{values_from}
use Rattle.core_eval.proofs.whole.values_from.Given as goal

abbrev pub invariant-each : goal.invariant-each
invariant-each l = record {
  whole : l.values.items ++ values_from (cell_in (option_map (λ o. cells_of o.now) l.object)) l.at (drop l.cell-index l.cells)
      ≡ values_from (cell_in (option_map (λ o. cells_of o.now) l.object)) l.first l.cells;
}
