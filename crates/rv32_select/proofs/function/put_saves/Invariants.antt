use Rattle.std.proofs.Common.{◌≡◌, ◌++◌, drop}
use Rattle.core_lines.specs.Frames.{saves_code}
use Rattle.rv32_select.proofs.function.put_saves.Given as goal

abbrev pub invariant-each : goal.invariant-each
invariant-each l = record {
  whole : l.lines.items ++ saves_code l.slot (drop l.register-index l.saved) ≡ l.initial.lines.items ++ saves_code l.first l.saved;
}
