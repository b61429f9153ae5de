use Rattle.std.proofs.Common.{◌≡◌, ◌+◌, drop}
use Rattle.core_lines.specs.Lines.{code_length}
use Rattle.rv32_layout.specs.Placing.{place_in, all_reach}
use Rattle.rv32_layout.proofs.relaxed.all_reach.Given as goal

abbrev pub invariant-each : goal.invariant-each
invariant-each l = record {
  whole : l.at + code_length (drop l.line-index l.lines) ≡ code_length l.lines;
  rest : all_reach (place_in l.places) l.at (drop l.line-index l.lines) ≡ all_reach (place_in l.places) 0 l.lines;
}
