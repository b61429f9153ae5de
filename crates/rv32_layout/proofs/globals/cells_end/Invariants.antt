use Rattle.std.proofs.Common.{◌≡◌, ◌+◌, ◌≤◌, drop}
use Rattle.cyc_image.specs.Format.{data_limit}
use Rattle.rv32_layout.specs.Sizes.{cells_size}
use Rattle.rv32_layout.proofs.globals.cells_end.Given as goal

abbrev pub invariant-each : goal.invariant-each
invariant-each l = record {
  whole : l.at + cells_size (drop l.cell-index l.cells) ≡ l.start + cells_size l.cells;
  within : l.at ≤ data_limit;
}
