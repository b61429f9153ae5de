use Rattle.std.proofs.Common.{◌≡◌, ℕ, List, drop, map}
use Rattle.cyc_tree.specs.View.{member_tree}
use Rattle.source_meaning.specs.Places.{or_else}
use Rattle.source_meaning.specs.Programs.{world_of}
use Rattle.source_meaning.specs.Shapes.{part_of}
use Rattle.lower_checks.specs.MemberPlaces.{place_from, place_in}
use Rattle.lower_checks.specs.Within.{AreWithin}
use Rattle.lower_checks.proofs.member_places.places_by_name.Given as goal

-- what the table has, or else the first of the rest behind those before, is the first of all; the rest ends within 4,096 bytes and cells
abbrev pub invariant-each : goal.invariant-each
invariant-each l = record {
  first : (name : List ℕ) →
      or_else (place_in l.table name) (place_from (world_of l.program) (map part_of (map member_tree (drop l.member-index l.members))) l.cells l.bytes name) ≡
      place_from (world_of l.program) (map part_of (map member_tree l.members)) 0 0 name;
  within : AreWithin (world_of l.program) l.bytes l.cells (map part_of (map member_tree (drop l.member-index l.members)));
}
