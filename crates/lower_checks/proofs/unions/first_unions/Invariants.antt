use Rattle.std.proofs.Common.{◌≡◌, ℕ, List, drop}
use Rattle.cyc_tree.specs.View.{program_tree}
use Rattle.source_meaning.specs.Places.{or_else}
use Rattle.source_meaning.specs.Programs.{unions_of}
use Rattle.source_lowering.specs.Lowerable.{AreUnions}
use Rattle.lower_checks.specs.Unions.{AreUnionsLaid, first_union, union_in}
use Rattle.lower_checks.proofs.unions.first_unions.Given as goal

-- what the table has, or else the first of the rest, is the first of all
abbrev pub invariant-each : goal.invariant-each
invariant-each l = record {
  first : (tag : List ℕ) →
      or_else (union_in l.unions tag) (first_union (unions_of (program_tree (drop l.item-index l.items))) tag) ≡
      first_union (unions_of (program_tree l.items)) tag;
  laid : AreUnionsLaid (unions_of (program_tree (drop l.item-index l.items))) → AreUnionsLaid (unions_of (program_tree l.items));
  taken : AreUnions (unions_of (program_tree (drop l.item-index l.items)));
}
