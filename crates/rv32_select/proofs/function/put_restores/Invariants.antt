use Rattle.std.proofs.Common.{◌≡◌, ◌++◌, drop}
use Rattle.core_lines.specs.Frames.{restores_code}
use Rattle.rv32_select.proofs.function.put_restores.Given as goal

abbrev pub invariant-each : goal.invariant-each
invariant-each l = record {
  whole : l.lines.items ++ restores_code l.slot (drop l.register-index l.saved) ≡ l.initial.lines.items ++ restores_code l.first l.saved;
}
