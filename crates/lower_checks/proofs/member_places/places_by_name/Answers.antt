use Rattle.std.proofs.Common.{◌≡◌, ◌∙◌, ◌+◌, ℕ, List, Option, Some, None, arith, sym, ap, subst, length, map, drop}
use Rattle.std.proofs.lemmas.List.{drop_all}
use Rattle.std.specs.Prelude.{bytes_eq, option_map, if◌then◌else◌}
use Rattle.cyc_tree.specs.View.{member_tree}
use Rattle.source_meaning.specs.Conversions.{cells_of}
use Rattle.source_meaning.specs.Places.{or_else}
use Rattle.source_meaning.specs.Programs.{world_of}
use Rattle.source_meaning.specs.Shapes.{Part, Shape, part_of}
use Rattle.source_meaning.specs.Sizes.{Extent, rounded_up}
use Rattle.source_lowering.specs.Layouts.{extent_of}
use Rattle.lower_checks.specs.Firsts.{first_in}
use Rattle.lower_checks.specs.MemberPlaces.{place_from, place_in}
use Rattle.lower_checks.specs.Reaching.{Place, reached_place}
use Rattle.lower_checks.specs.Structs.{room_tree}
use Rattle.lower_checks.specs.Within.{AreWithin}
use Rattle.lower_checks.specs.declared.member.Reached.{Reached}
use Rattle.lower_checks.proofs.Bodies.{left_parameters}
use Rattle.lower_checks.proofs.Tables.{first_kept}
use Rattle.source_meaning.proofs.Firsts.{nothing_more}
use Rattle.lower_checks.proofs.Within.{next_within}
use Rattle.lower_checks.proofs.member_places.places_by_name.Goals as goal

-- the member lies within 4,096 bytes
pub rounded-at-requires : goal.rounded-at-requires
rounded-at-requires c =
    let w = world_of c.args.program.now in
    let p = part_of (member_tree c.member-item.result) in
    let left = left_parameters c.args.members.now c.each.member-index c.member-item.result c.each-test.true c.member-item.is in
    record { small = (next_within w c.each.bytes c.each.cells p _ (subst (AreWithin w c.each.bytes c.each.cells) left c.each.invariant.within)).before }

-- the number of cells before the next one fits, and that of bytes
pub overflow_add-cells : goal.overflow_add-cells
overflow_add-cells c =
    let w = world_of c.args.program.now in
    let p = part_of (member_tree c.member-item.result) in
    let left = left_parameters c.args.members.now c.each.member-index c.member-item.result c.each-test.true c.member-item.is in
    let next = next_within w c.each.bytes c.each.cells p _ (subst (AreWithin w c.each.bytes c.each.cells) left c.each.invariant.within) in
    let count_is = c.count-cells.ensures ∙ ap (λ s. length (cells_of w s)) c.of-shape.ensures in
    omega (arith, next.few, count_is)

pub overflow_add-bytes : goal.overflow_add-bytes
overflow_add-bytes c =
    let w = world_of c.args.program.now in
    let p = part_of (member_tree c.member-item.result) in
    let left = left_parameters c.args.members.now c.each.member-index c.member-item.result c.each-test.true c.member-item.is in
    let next = next_within w c.each.bytes c.each.cells p _ (subst (AreWithin w c.each.bytes c.each.cells) left c.each.invariant.within) in
    let room_is : room_tree c.extent-room.result ≡ extent_of w p.shape = c.extent-room.ensures ∙ ap (extent_of w) c.of-shape.ensures in
    let bytes_are = ap (λ n. n + c.extent-room.result.size) c.rounded-at.ensures.rounded
    ∙ ap (λ (x : Extent). rounded_up c.each.bytes x.align + x.size) room_is in
    omega (arith, next.behind, bytes_are)

-- the next member is in front of those that are left
pub each-preserved : goal.each-preserved
each-preserved c =
    let w = world_of c.args.program.now in
    let k = c.each.member-index in
    let members = c.args.members.now in
    let p = part_of (member_tree c.member-item.result) in
    let others = map part_of (map member_tree (drop (k + 1) members)) in
    let left = left_parameters members k c.member-item.result c.each-test.true c.member-item.is in
    let so_far = c.each.bytes in
    let cells = cells_of w in
    let extent = extent_of w in
    let at = rounded_up so_far (extent p.shape).align in
    let room_is : room_tree c.extent-room.result ≡ extent p.shape = c.extent-room.ensures ∙ ap extent c.of-shape.ensures in
    let at_is : c.rounded-at.result ≡ at = c.rounded-at.ensures.rounded ∙ ap (λ (x : Extent). rounded_up so_far x.align) room_is in
    let cells_are : c.each.cells + c.count-cells.result ≡ c.each.cells + length (cells p.shape) =
    ap (λ n. c.each.cells + n) (c.count-cells.ensures ∙ ap (λ s. length (cells s)) c.of-shape.ensures) in
    let bytes_are : c.rounded-at.result + c.extent-room.result.size ≡ at + (extent p.shape).size =
    ap (λ n. n + c.extent-room.result.size) c.rounded-at.ensures.rounded ∙ ap (λ (x : Extent). rounded_up so_far x.align + x.size) room_is in
    let next = next_within w so_far c.each.cells p others (subst (AreWithin w so_far c.each.cells) left c.each.invariant.within) in
    record {
      first = λ name.
          let table = place_in c.each.table name in
          let old = first_in c.each.table name in
          let value : Reached = record { shape = c.of-shape.result; cells = c.each.cells; bytes = c.rounded-at.result } in
          let further = place_from w others (c.each.cells + c.count-cells.result) (c.rounded-at.result + c.extent-room.result.size) name in
          let joined : Shape → ℕ → ℕ → ℕ → Option Place = λ s b n m.
          or_else table (if bytes_eq p.name name then Some (record { shape = s; cells = c.each.cells; bytes = b }) else place_from w others n m name) in
          ap (λ o. or_else (option_map reached_place o) further)
          (c.in_ok-add.ensures name ∙ ap (λ (text : List ℕ). or_else old (if bytes_eq text name then Some value else None)) c.deref.ensures.value)
          ∙ first_kept reached_place old (bytes_eq p.name name) value further
          ∙ ap (λ s. joined s c.rounded-at.result (c.each.cells + c.count-cells.result) (c.rounded-at.result + c.extent-room.result.size)) c.of-shape.ensures
          ∙ ap (λ b. joined p.shape b (c.each.cells + c.count-cells.result) (c.rounded-at.result + c.extent-room.result.size)) at_is
          ∙ ap (λ n. joined p.shape at n (c.rounded-at.result + c.extent-room.result.size)) cells_are
          ∙ ap (λ m. joined p.shape at (c.each.cells + length (cells p.shape)) m) bytes_are
          ∙ ap (λ (ps : List Part). or_else table (place_from w ps c.each.cells so_far name)) (sym left)
          ∙ c.each.invariant.first name;
      within = subst (λ n. AreWithin w n (c.each.cells + c.count-cells.result) others) (sym bytes_are)
          (subst (λ n. AreWithin w (at + (extent p.shape).size) n others) (sym cells_are) next.others);
    }

pub returns : goal.returns
returns c = λ name.
    let found = place_in c.each.table name in
    sym (nothing_more found)
    ∙ ap (λ rest. or_else found (place_from (world_of c.args.program.now) (map part_of (map member_tree rest)) c.each.cells c.each.bytes name))
    (sym (drop_all c.each.member-index c.args.members.now (omega (arith, c.each-test.false))))
    ∙ c.each.invariant.first name
