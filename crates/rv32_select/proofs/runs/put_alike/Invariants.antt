use Rattle.std.proofs.Common.{◌≡◌, ◌-◌, ◌++◌, replicate}
use Rattle.rv32_select.proofs.runs.put_alike.Given as goal

abbrev pub invariant-each : goal.invariant-each
invariant-each l = record { whole : l.flags.items ++ replicate (l.count - l.counter) l.value ≡ l.fn.flags.items ++ replicate l.count l.value }
