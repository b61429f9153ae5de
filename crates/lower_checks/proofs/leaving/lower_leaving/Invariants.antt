use Rattle.std.proofs.Common.{◌≤◌, length, take}
use Rattle.std.specs.Prelude.{reverse}
use Rattle.source_lowering.specs.Programs.{leaving_code}
use Rattle.lower_checks.specs.Writing.{IsEmitting, IsSound}
use Rattle.lower_checks.proofs.leaving.lower_leaving.Given as goal

-- what is appended, and what leaves those that are left, is what leaves all
abbrev pub invariant-each : goal.invariant-each
invariant-each l = record {
  within : l.at ≤ length l.opened;
  code : IsSound l.body → IsEmitting l.initial.body l.body (leaving_code (reverse l.opened) l.all l.count)
      (leaving_code (reverse (take l.at l.opened)) l.regions l.more);
}

abbrev pub decreases-each : goal.decreases-each
decreases-each l = l.at
