use Rattle.std.proofs.Common.{drop, map}
use Rattle.cyc_tree.specs.View.{member_tree}
use Rattle.check_structs.specs.Members.{RepeatedLeft}
use Rattle.check_structs.proofs.member.repeated_fault.Given as goal

-- what was found, and the second names of the rest, are all of them
abbrev pub invariant-each : goal.invariant-each
invariant-each l = RepeatedLeft (map member_tree l.members) l.found (map member_tree (drop l.member-index l.members)) l.names
