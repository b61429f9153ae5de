use Rattle.std.proofs.Common.{◌≡◌, ◌++◌, drop}
use Rattle.core_lines.specs.Saved.{cleared}
use Rattle.rv32_select.specs.Runs.{flags_in}
use Rattle.rv32_select.proofs.runs.all_cleared.Given as goal

abbrev pub invariant-each : goal.invariant-each
invariant-each l = record { whole : flags_in l.none.items ++ cleared (flags_in (drop l.run-index l.runs)) ≡ cleared (flags_in l.runs) }
