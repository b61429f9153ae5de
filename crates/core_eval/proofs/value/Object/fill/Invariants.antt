use Rattle.std.proofs.Common.{◌≡◌, drop}
use Rattle.core_eval.specs.Elements.{cells_of}
use Rattle.core_eval.specs.Whole.{fill_cells}
use Rattle.core_eval.proofs.value.Object.fill.Given as goal

abbrev pub invariant-each : goal.invariant-each
invariant-each l = record {
  whole : fill_cells (cells_of l.self) l.at (drop l.held-index l.values) ≡ fill_cells (cells_of l.fn.self) l.cell l.values;
}
