use Rattle.std.proofs.Common.{◌≡◌, replicate}
use Rattle.cyc_host.specs.Watched.{executed_in}
use Rattle.cyc_host.proofs.counts.none_of.Given as goal

abbrev pub invariant-each : goal.invariant-each
invariant-each l = executed_in l.counts.items ≡ replicate l.counter 0
