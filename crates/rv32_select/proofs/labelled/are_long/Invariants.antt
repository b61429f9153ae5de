use Rattle.std.proofs.Common.{◌≡◌, drop}
use Rattle.rv32_select.specs.Beginning.{are_long}
use Rattle.rv32_select.proofs.labelled.are_long.Given as goal

abbrev pub invariant-each : goal.invariant-each
invariant-each l = record { long : are_long (drop l.line-index l.lines) ≡ are_long l.lines }
