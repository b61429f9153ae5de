use Rattle.std.proofs.Common.{◌≡◌, map, drop, if◌then◌else◌}
use Rattle.cyc_tree.specs.View.{member_tree}
use Rattle.source_meaning.specs.Shapes.{part_of, part_shapes}
use Rattle.source_lowering.specs.Layouts.{has_fat}
use Rattle.source_lowering.specs.Lowerable.{AreValues}
use Rattle.cyc_core.specs.declared.operation.Cell.TheVariants as cell
use Rattle.lower_checks.specs.Unions.{AreCells, cell_by}
use Rattle.lower_checks.proofs.unions.union_cell.Given as goal

-- what the cell is made for, with the rest, is what it is made for with all
abbrev pub invariant-each : goal.invariant-each
invariant-each l = record {
  cell : (if has_fat (map part_of (map member_tree (drop l.member-index l.members))) then cell.TaggedFat else l.cell) ≡
      cell_by (has_fat (map part_of (map member_tree l.members)));
  laid : AreCells (map part_of (map member_tree (drop l.member-index l.members))) → AreCells (map part_of (map member_tree l.members));
  taken : AreValues (part_shapes (map part_of (map member_tree (drop l.member-index l.members))));
}
