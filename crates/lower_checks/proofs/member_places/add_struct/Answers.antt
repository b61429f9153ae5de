use Rattle.std.proofs.Common.{sym, subst, List, Option}
use Rattle.std.specs.Cmp.Lexicographic.{bytes_decides}
use Rattle.std.specs.Prelude.{bytes_eq, IfSome}
use Rattle.source_meaning.specs.Programs.{world_of}
use Rattle.source_meaning.specs.Shapes.{Part, parts_of}
use Rattle.lower_checks.specs.MemberPlaces.{HasPlaces, places_at}
use Rattle.lower_checks.specs.declared.first.Firsts.{Firsts}
use Rattle.lower_checks.specs.declared.member.Reached.{Reached}
use Rattle.lower_checks.proofs.MemberPlaces.{place_more}
use Rattle.lower_checks.proofs.Within.{members_within}
use Rattle.lower_checks.proofs.member_places.add_struct.Goals as goal

-- a struct's members end within 4,096 bytes and cells
pub places_by_name-requires : goal.places_by_name-requires
places_by_name-requires c = record {
  within = members_within (world_of c.args.program.now) c.args.tag.now c.in-Some.known.now c.struct_of.ensures.small c.in-Some.ensures.found;
}

-- its places are those of the members, and the others stay
pub returns : goal.returns
returns c = λ before other.
    let w = world_of c.args.program.now in
    let tag = c.args.tag.now in
    let table = c.in_ok-table.table in
    let has : HasPlaces w (parts_of w.structs tag) table =
    subst (λ (ps : List Part). HasPlaces w ps table) (sym c.in-Some.ensures.found.parts) c.in_ok-table.ensures in
    subst (λ (o : Option (Firsts Reached)). IfSome o (λ t. HasPlaces w (parts_of w.structs other) t)) (sym (c.in_ok-add.ensures other))
    (place_more w (bytes_eq tag other) tag other table (places_at c.args.places.now other) (λ same. (bytes_decides tag other).0 same) has (before other))
