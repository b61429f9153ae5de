use Rattle.std.proofs.Common.{◌≡◌, ◌++◌, drop}
use Rattle.rv32_select.specs.Runs.{flags_in}
use Rattle.rv32_select.proofs.runs.put_flags.Given as goal

abbrev pub invariant-each : goal.invariant-each
invariant-each l = record { whole : l.flags.items ++ flags_in (drop l.run-index l.runs) ≡ l.fn.flags.items ++ flags_in l.runs }
