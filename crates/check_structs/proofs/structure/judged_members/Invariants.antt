use Rattle.std.proofs.Common.{◌≡◌, ℕ, ◌++◌, drop, map}
use Rattle.cyc_tree.specs.View.{member_tree}
use Rattle.cyc_types.specs.Tables.{tables_of}
use Rattle.cyc_types.specs.Tags.{members_of}
use Rattle.source_typing.specs.Faults.{earliest}
use Rattle.source_typing.specs.Tables.{Tables}
use Rattle.source_typing.specs.Tags.{member_faults, parts_by}
use Rattle.check_faults.specs.Faults.{faults_of, first_of}
use Rattle.check_structs.specs.Members.{scoped}
use Rattle.check_structs.specs.Tags.{StandsAt}
use Rattle.check_structs.proofs.structure.judged_members.Given as goal

-- the members so far and the rest are all of them
abbrev pub invariant-each : goal.invariant-each
invariant-each l = (g : Tables) (i : ℕ) → StandsAt l.known.judged.now l.known.first.now (tables_of l.known.tables.now) i g →
    (members_of l.judged.members.items
    ++ parts_by (scoped g i l.names) l.is_union (map member_tree (drop l.member-index l.members))
    ≡ parts_by (scoped g i l.names) l.is_union (map member_tree l.members))
    × (first_of (faults_of l.judged.fault)
    (earliest (member_faults (scoped g i l.names) l.is_union (map member_tree (drop l.member-index l.members))))
    ≡ earliest (member_faults (scoped g i l.names) l.is_union (map member_tree l.members)))
