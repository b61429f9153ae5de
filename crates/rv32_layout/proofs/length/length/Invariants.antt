use Rattle.std.proofs.Common.{◌≡◌, ◌+◌, ◌≤◌, drop}
use Rattle.cyc_image.specs.Format.{code_limit}
use Rattle.core_lines.specs.Lines.{code_length}
use Rattle.rv32_layout.proofs.length.length.Given as goal

abbrev pub invariant-each : goal.invariant-each
invariant-each l = record {
  whole : l.length + code_length (drop l.line-index l.lines) ≡ code_length l.lines;
  within : l.length ≤ code_limit;
}
