use Rattle.std.proofs.Common.{◌≡◌, ◌++◌, drop}
use Rattle.core_lines.specs.Saved.{flagged}
use Rattle.rv32_select.specs.Runs.{flags_in, set_at}
use Rattle.rv32_select.proofs.runs.with_set.Given as goal

abbrev pub invariant-each : goal.invariant-each
invariant-each l = record {
  whole : flags_in l.set.items ++ set_at l.value l.left (flags_in (drop l.run-index l.runs)) ≡ flagged l.value l.number (flags_in l.runs);
}
