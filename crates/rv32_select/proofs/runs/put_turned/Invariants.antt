use Rattle.std.proofs.Common.{◌≡◌, ◌++◌, length, reverse}
use Rattle.rv32_select.specs.Runs.{flags_in}
use Rattle.rv32_select.proofs.runs.put_turned.Given as goal

abbrev pub invariant-each : goal.invariant-each
invariant-each l = record {
  whole : flags_in l.runs.items ++ flags_in (reverse l.left.items) ≡ flags_in l.fn.runs.items ++ flags_in (reverse l.fn.turned.items);
}

abbrev pub decreases-each : goal.decreases-each
decreases-each l = length l.left.items
