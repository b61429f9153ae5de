use Rattle.std.proofs.Common.{◌≡◌, take}
use Rattle.cyc_types.specs.Tags.{members_of}
use Rattle.source_typing.specs.Calls.{part_types}
use Rattle.check_calls.specs.Fitted.{parameter_types}
use Rattle.check_calls.proofs.making.member_types.Given as goal

-- the types of the members so far
abbrev pub invariant-each : goal.invariant-each
invariant-each l = parameter_types l.types.items ≡ part_types (members_of (take l.member-index l.members))
