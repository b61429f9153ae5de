use Rattle.std.proofs.Common.{◌≡◌, ◌++◌, drop, map}
use Rattle.cyc_core.specs.Trees.{datum_tree}
use Rattle.core_lines.specs.Selected.{offsets_from, datum_locals}
use Rattle.rv32_select.proofs.layout.statics.Given as goal

abbrev pub invariant-each : goal.invariant-each
invariant-each l = record {
  whole : l.offsets.items ++ offsets_from l.at (datum_locals (map datum_tree (drop l.global-index l.globals))) ≡
      offsets_from 0 (datum_locals (map datum_tree l.globals));
}
