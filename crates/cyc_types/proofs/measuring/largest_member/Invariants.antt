use Rattle.std.proofs.Common.{◌≡◌, ◌≤◌, drop}
use Rattle.source_meaning.specs.Sizes.{extent_by, largest, no_extent}
use Rattle.source_typing.specs.Extents.{part_shapes}
use Rattle.cyc_types.specs.Tags.{members_of}
use Rattle.cyc_types.proofs.measuring.largest_member.Given as goal

-- with the rest the most is that of all
abbrev pub invariant-each : goal.invariant-each
invariant-each l = record {
  most : l.most ≤ 12;
  whole : largest (extent_by no_extent no_extent) l.most (part_shapes (members_of (drop l.member-index l.members)))
      ≡ largest (extent_by no_extent no_extent) 0 (part_shapes (members_of l.members));
}
