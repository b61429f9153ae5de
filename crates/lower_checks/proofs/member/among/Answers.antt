use Rattle.std.proofs.Common.{◌≡◌, ◌∙◌, ◌+◌, Bool, false, if◌then◌else◌, arith, sym, ap, subst, length, map, drop}
use Rattle.std.proofs.Math.Nat.{add_assoc}
use Rattle.std.specs.Prelude.{bytes_eq}
use Rattle.cyc_tree.specs.View.{member_tree}
use Rattle.source_meaning.specs.Conversions.{cells_of}
use Rattle.source_meaning.specs.Programs.{world_of}
use Rattle.source_meaning.specs.Shapes.{part_of, part_shape}
use Rattle.source_meaning.specs.Sizes.{Extent, cells_before, rounded_up}
use Rattle.source_lowering.specs.Layouts.{bytes_before, extent_of}
use Rattle.lower_checks.specs.Structs.{room_tree}
use Rattle.lower_checks.specs.Within.{AreWithin}
use Rattle.lower_checks.proofs.Bodies.{left_parameters}
use Rattle.lower_checks.proofs.Within.{next_within}
use Rattle.lower_checks.proofs.member.among.Goals as goal

-- the member lies within 4,096 bytes
pub rounded-at-requires : goal.rounded-at-requires
rounded-at-requires c =
    let w = world_of c.args.program.now in
    let p = part_of (member_tree c.member-item.result) in
    let left = left_parameters c.args.members.now c.each.member-index c.member-item.result c.each-test.true c.member-item.is in
    record { small = (next_within w c.each.bytes c.each.cells p _ (subst (AreWithin w c.each.bytes c.each.cells) left c.each.invariant.within)).before }

-- the number of cells before the next one fits, and that of bytes
pub overflow_add-cells : goal.overflow_add-cells
overflow_add-cells c =
    let w = world_of c.args.program.now in
    let p = part_of (member_tree c.member-item.result) in
    let left = left_parameters c.args.members.now c.each.member-index c.member-item.result c.each-test.true c.member-item.is in
    let next = next_within w c.each.bytes c.each.cells p _ (subst (AreWithin w c.each.bytes c.each.cells) left c.each.invariant.within) in
    let count_is = c.count-cells.ensures ∙ ap (λ s. length (cells_of w s)) c.of-shape.ensures in
    omega (arith, next.few, count_is)

pub overflow_add-bytes : goal.overflow_add-bytes
overflow_add-bytes c =
    let w = world_of c.args.program.now in
    let p = part_of (member_tree c.member-item.result) in
    let left = left_parameters c.args.members.now c.each.member-index c.member-item.result c.each-test.true c.member-item.is in
    let next = next_within w c.each.bytes c.each.cells p _ (subst (AreWithin w c.each.bytes c.each.cells) left c.each.invariant.within) in
    let room_is : room_tree c.extent-room.result ≡ extent_of w p.shape = c.extent-room.ensures ∙ ap (extent_of w) c.of-shape.ensures in
    let bytes_are = ap (λ n. n + c.extent-room.result.size) c.rounded-at.ensures.rounded
    ∙ ap (λ (x : Extent). rounded_up c.each.bytes x.align + x.size) room_is in
    omega (arith, next.behind, bytes_are)

-- the member is another one
pub each-preserved : goal.each-preserved
each-preserved c =
    let w = world_of c.args.program.now in
    let name = c.args.name.now in
    let k = c.each.member-index in
    let members = c.args.members.now in
    let p = part_of (member_tree c.member-item.result) in
    let others = map part_of (map member_tree (drop (k + 1) members)) in
    let left = left_parameters members k c.member-item.result c.each-test.true c.member-item.is in
    let other : bytes_eq p.name name ≡ false = cc (c.as_slice.ensures.value, c.if-eq.ensures) in
    let cells = cells_of w in
    let fewer = cells_before cells others name in
    let extent = extent_of w in
    let so_far = c.each.bytes in
    let at = rounded_up so_far (extent p.shape).align in
    let room_is : room_tree c.extent-room.result ≡ extent p.shape = c.extent-room.ensures ∙ ap extent c.of-shape.ensures in
    let cells_are : c.each.cells + c.count-cells.result ≡ c.each.cells + length (cells p.shape) =
    ap (λ n. c.each.cells + n) (c.count-cells.ensures ∙ ap (λ s. length (cells s)) c.of-shape.ensures) in
    let bytes_are : c.rounded-at.result + c.extent-room.result.size ≡ at + (extent p.shape).size =
    ap (λ n. n + c.extent-room.result.size) c.rounded-at.ensures.rounded ∙ ap (λ (x : Extent). rounded_up so_far x.align + x.size) room_is in
    let next = next_within w so_far c.each.cells p others (subst (AreWithin w so_far c.each.cells) left c.each.invariant.within) in
    record {
      shape = sym (ap (λ (b : Bool). if b then p.shape else part_shape others name) other) ∙ ap (λ ps. part_shape ps name) (sym left)
          ∙ c.each.invariant.shape;
      cells = ap (λ n. n + fewer) cells_are ∙ add_assoc c.each.cells (length (cells p.shape)) fewer
          ∙ ap (λ n. c.each.cells + n)
          (sym (ap (λ (b : Bool). if b then 0 else length (cells p.shape) + fewer) other) ∙ ap (λ ps. cells_before cells ps name) (sym left))
          ∙ c.each.invariant.cells;
      bytes = ap (λ n. bytes_before extent n others name) bytes_are
          ∙ sym (ap (λ (b : Bool). if b then at else bytes_before extent (at + (extent p.shape).size) others name) other)
          ∙ ap (λ ps. bytes_before extent so_far ps name) (sym left) ∙ c.each.invariant.bytes;
      within = subst (λ n. AreWithin w n (c.each.cells + c.count-cells.result) others) (sym bytes_are)
          (subst (λ n. AreWithin w (at + (extent p.shape).size) n others) (sym cells_are) next.others);
    }
