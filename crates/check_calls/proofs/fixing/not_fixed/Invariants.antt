use Rattle.std.proofs.Common.{◌≡◌}
use Rattle.std.specs.Prelude.{None, replicate}
use Rattle.check_calls.specs.Fixings.{fixings_of}
use Rattle.check_calls.proofs.fixing.not_fixed.Given as goal

-- so many so far
abbrev pub invariant-each : goal.invariant-each
invariant-each l = fixings_of l.fixings.items ≡ replicate l._variable None
