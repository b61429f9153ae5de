use Rattle.std.proofs.Common.{◌≡◌, drop, map}
use Rattle.cyc_core.specs.Trees.{cell_parts}
use Rattle.core_lines.specs.Loops.{are_word_cells}
use Rattle.rv32_select.proofs.whole.are_words.Given as goal

abbrev pub invariant-each : goal.invariant-each
invariant-each l = record {
  whole : are_word_cells (map cell_parts (drop l.cell-index l.cells)) ≡ are_word_cells (map cell_parts l.cells);
}
