use Rattle.std.proofs.Common.{◌≡◌, ℕ, List, drop}
use Rattle.cyc_tree.specs.View.{program_tree}
use Rattle.source_meaning.specs.Programs.{unions_of}
use Rattle.source_meaning.specs.Shapes.{parts_of}
use Rattle.source_lowering.specs.Lowerable.{AreUnions}
use Rattle.lower_checks.specs.UnionMembers.{AreMet, members_at}
use Rattle.lower_checks.proofs.union_members.all_members.Given as goal

-- each tag has a table of its members, or else they are among those of the rest
abbrev pub invariant-each : goal.invariant-each
invariant-each l = record {
  met : (tag : List ℕ) → AreMet (members_at l.members tag) (parts_of (unions_of (program_tree (drop l.item-index l.items))) tag)
      (parts_of (unions_of (program_tree l.items)) tag);
  taken : AreUnions (unions_of (program_tree (drop l.item-index l.items)));
}
