use Rattle.std.proofs.Common.{◌≡◌, ◌++◌, drop}
use Rattle.core_lines.specs.Relaxed.{shortened, none_wide}
use Rattle.rv32_layout.proofs.relaxed.shortest.Given as goal

abbrev pub invariant-each : goal.invariant-each
invariant-each l =
    l.short.items ++ shortened (none_wide (drop l.line-index l.lines)) (drop l.line-index l.lines) ≡ shortened (none_wide l.lines) l.lines
