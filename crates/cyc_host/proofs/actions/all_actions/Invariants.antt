use Rattle.std.proofs.Common.{◌≡◌}
use Rattle.cyc_host.specs.Watched.{actions_of}
use Rattle.cyc_host.proofs.actions.all_actions.Given as goal

abbrev pub invariant-each : goal.invariant-each
invariant-each l = l.all.items ≡ actions_of l.code l.number
