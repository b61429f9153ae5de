use Rattle.std.proofs.Common.{◌≡◌, ◌+◌, map, drop}
use Rattle.cyc_tree.specs.View.{member_tree}
use Rattle.source_meaning.specs.Shapes.{part_of, part_shape}
use Rattle.source_meaning.specs.Sizes.{cells_before}
use Rattle.source_meaning.specs.Conversions.{cells_of}
use Rattle.source_meaning.specs.Programs.{world_of}
use Rattle.source_lowering.specs.Layouts.{bytes_before, extent_of}
use Rattle.lower_checks.specs.Within.{AreWithin}
use Rattle.lower_checks.proofs.member.among.Given as goal

-- what is found among the rest, behind those before, is what is found among all
abbrev pub invariant-each : goal.invariant-each
invariant-each l = record {
  shape : part_shape (map part_of (map member_tree (drop l.member-index l.members))) l.name ≡ part_shape (map part_of (map member_tree l.members)) l.name;
  cells : l.cells + cells_before (cells_of (world_of l.program)) (map part_of (map member_tree (drop l.member-index l.members))) l.name ≡
      cells_before (cells_of (world_of l.program)) (map part_of (map member_tree l.members)) l.name;
  bytes : bytes_before (extent_of (world_of l.program)) l.bytes (map part_of (map member_tree (drop l.member-index l.members))) l.name ≡
      bytes_before (extent_of (world_of l.program)) 0 (map part_of (map member_tree l.members)) l.name;
  within : AreWithin (world_of l.program) l.bytes l.cells (map part_of (map member_tree (drop l.member-index l.members)));
}
