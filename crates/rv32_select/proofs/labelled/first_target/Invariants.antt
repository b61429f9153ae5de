use Rattle.std.proofs.Common.{◌≡◌, drop}
use Rattle.rv32_select.specs.Beginning.{first_target}
use Rattle.rv32_select.proofs.labelled.first_target.Given as goal

abbrev pub invariant-each : goal.invariant-each
invariant-each l = record { first : first_target (drop l.line-index l.lines) ≡ first_target l.lines }
