use Rattle.std.proofs.Common.{◌≡◌, ◌++◌, drop, map, vec_len}
use Rattle.cyc_core.specs.Trees.{datum_tree}
use Rattle.core_lines.specs.Statics.{data_bytes}
use Rattle.rv32_layout.proofs.globals.globals_bytes.Given as goal

abbrev pub invariant-each : goal.invariant-each
invariant-each l = record {
  whole : l.bytes.items ++ data_bytes l.offsets (vec_len l.bytes) (map datum_tree (drop l.global-index l.globals))
      ≡ data_bytes l.offsets 0 (map datum_tree l.globals);
}
