use Rattle.std.proofs.Common.{◌≡◌, ◌≤◌, ◌++◌, map, drop}
use Rattle.cyc_tree.specs.View.{member_tree}
use Rattle.source_meaning.specs.Shapes.{part_of}
use Rattle.source_meaning.specs.Sizes.{laid_out}
use Rattle.source_lowering.specs.Layouts.{bytes_through}
use Rattle.lower_checks.specs.Structs.{AreLaid, bytes_and, laid_cell, laid_cells, room_in, room_tree}
use Rattle.lower_checks.proofs.layouts.Structs.lay_all.Given as goal

-- what is laid, with the rest, is all
abbrev pub invariant-each : goal.invariant-each
invariant-each l = record {
  room : laid_out (room_in l.self) (room_tree l.laying.room) (map part_of (map member_tree (drop l.member-index l.members))) ≡
      laid_out (room_in l.self) (bytes_and 0 1) (map part_of (map member_tree l.members));
  cells : map laid_cell l.laying.cells.items ++
      laid_cells l.self l.laying.room.size (map part_of (map member_tree (drop l.member-index l.members))) ≡
      laid_cells l.self 0 (map part_of (map member_tree l.members));
  small : bytes_through (room_in l.self) l.laying.room.size (map part_of (map member_tree (drop l.member-index l.members))) ≤ 4096;
  taken : AreLaid l.self (map part_of (map member_tree (drop l.member-index l.members)));
}
