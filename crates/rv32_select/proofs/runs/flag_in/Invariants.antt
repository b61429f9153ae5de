use Rattle.std.proofs.Common.{◌≡◌, drop}
use Rattle.core_lines.specs.Homes.{flag_at}
use Rattle.rv32_select.specs.Runs.{flags_in}
use Rattle.rv32_select.proofs.runs.flag_in.Given as goal

abbrev pub invariant-each : goal.invariant-each
invariant-each l = record { whole : flag_at (flags_in (drop l.run-index l.runs)) l.left ≡ flag_at (flags_in l.runs) l.number }
