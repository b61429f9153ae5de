use Rattle.std.proofs.Common.{◌≡◌, drop, false}
use Rattle.cyc_types.specs.Tags.{members_of}
use Rattle.check_statements.specs.Switching.{all_counted, times_of}
use Rattle.check_statements.proofs.named_members.all_counted.Given as goal

-- the members so far are named
abbrev pub invariant-each : goal.invariant-each
invariant-each l =
    all_counted (times_of l.times) (members_of l.members) false ≡ all_counted (times_of l.times) (members_of (drop l.member-index l.members)) false
