use Rattle.std.proofs.Common.{◌≡◌, ◌+◌, ◌++◌, length, reverse}
use Rattle.core_lines.specs.Saved.{either_flagged}
use Rattle.rv32_select.specs.Runs.{flags_in}
use Rattle.rv32_select.proofs.runs.either_of.Given as goal

abbrev pub invariant-each : goal.invariant-each
invariant-each l = record {
  whole : flags_in l.both.items ++ either_flagged (flags_in (reverse l.ones.items)) (flags_in (reverse l.others.items))
      ≡ either_flagged (flags_in l.first) (flags_in l.second);
}

abbrev pub decreases-each : goal.decreases-each
decreases-each l = length l.ones.items + length l.others.items
