use Rattle.std.proofs.Common.{◌≡◌, ℕ, List, drop, map}
use Rattle.cyc_tree.specs.View.{member_tree}
use Rattle.source_meaning.specs.Places.{or_else}
use Rattle.source_meaning.specs.Shapes.{part_of}
use Rattle.lower_checks.specs.UnionMembers.{member_from, member_in}
use Rattle.lower_checks.proofs.union_members.members_by_name.Given as goal

-- what the table has, or else the first of the rest, is the first of all
abbrev pub invariant-each : goal.invariant-each
invariant-each l = record {
  counted : l.number ≡ l.member-index;
  first : (name : List ℕ) →
      or_else (member_in l.table name) (member_from (map part_of (map member_tree (drop l.member-index l.members))) l.number name) ≡
      member_from (map part_of (map member_tree l.members)) 0 name;
}
