use Rattle.std.proofs.Common.{◌≡◌}
use Rattle.check_regions.specs.Entered.{variables_at}
use Rattle.check_regions.proofs.entry.variables.Given as goal

abbrev pub invariant-each : goal.invariant-each
invariant-each l = l.begun.items ≡ variables_at l.marks.live.now l.marks.over_heap.now l.marks.over_later.now l.level
