use Rattle.std.specs.Prelude.{length}
use Rattle.std.proofs.Common.{◌≡◌, ◌+◌, ◌≤◌, drop, map}
use Rattle.cyc_image.specs.Format.{data_limit}
use Rattle.cyc_core.specs.Trees.{datum_tree}
use Rattle.core_lines.specs.Running.{data_offsets}
use Rattle.core_lines.specs.Statics.{data_bytes}
use Rattle.rv32_layout.proofs.globals.are_too_large.Given as goal

abbrev pub invariant-each : goal.invariant-each
invariant-each l = record {
  whole : l.at + length (data_bytes (data_offsets (map datum_tree l.globals)) l.at (map datum_tree (drop l.global-index l.globals)))
      ≡ length (data_bytes (data_offsets (map datum_tree l.globals)) 0 (map datum_tree l.globals));
  within : l.at ≤ data_limit;
}
