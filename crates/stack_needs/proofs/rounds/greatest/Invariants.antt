use Rattle.std.proofs.Common.{◌≡◌, drop}
use Rattle.stack_needs.specs.Graph.{greatest}
use Rattle.stack_needs.proofs.rounds.greatest.Given as goal

abbrev pub invariant-each : goal.invariant-each
invariant-each l = greatest l.needs (drop l.called-index l.calls) l.most ≡ greatest l.needs l.calls 0
