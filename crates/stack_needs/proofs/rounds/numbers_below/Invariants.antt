use Rattle.std.proofs.Common.{◌≡◌}
use Rattle.stack_needs.specs.Graph.{numbers_below}
use Rattle.stack_needs.proofs.rounds.numbers_below.Given as goal

abbrev pub invariant-each : goal.invariant-each
invariant-each l = l.all.items ≡ numbers_below l.k
