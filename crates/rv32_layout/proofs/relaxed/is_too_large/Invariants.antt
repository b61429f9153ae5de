use Rattle.std.proofs.Common.{◌≡◌, ◌+◌, ◌≤◌, drop}
use Rattle.cyc_image.specs.Format.{code_limit}
use Rattle.core_lines.specs.Lines.{code_length}
use Rattle.core_lines.specs.Relaxed.{shortened, none_wide}
use Rattle.rv32_layout.proofs.relaxed.is_too_large.Given as goal

abbrev pub invariant-each : goal.invariant-each
invariant-each l = record {
  whole : l.length + code_length (shortened (none_wide (drop l.line-index l.lines)) (drop l.line-index l.lines))
      ≡ code_length (shortened (none_wide l.lines) l.lines);
  within : l.length ≤ code_limit;
}
