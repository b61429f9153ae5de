use Rattle.std.proofs.Common.{◌≡◌, ◌+◌, ◌-◌, ◌++◌, map}
use Rattle.cyc_core.specs.Trees.{temporary_tree}
use Rattle.source_lowering.specs.Lowered.{from_on}
use Rattle.lower_checks.proofs.call.passed_from.Given as goal

-- so many are passed, up to the next one
abbrev pub invariant-each : goal.invariant-each
invariant-each l = record {
  passed : map temporary_tree l.passed.items ++ from_on l.next.0 (l.count - l.counter) ≡ from_on l.fn.first.0 l.count;
  next : l.next.0 ≡ l.fn.first.0 + l.counter;
}
