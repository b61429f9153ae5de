use Rattle.std.proofs.Common.{◌∙◌, ◌+◌, arith, ap}
use Rattle.source_meaning.proofs.Layouts.{rounded_above}
use Rattle.source_meaning.specs.Sizes.{Extent, rounded_up}
use Rattle.lower_checks.specs.Structs.{room_in}
use Rattle.lower_checks.specs.Views.{shape_tree}
use Rattle.lower_checks.proofs.layouts.Structs.lay.Goals as goal

-- what is laid so far ends before the member
pub rounded-at-requires : goal.rounded-at-requires
rounded-at-requires c =
    let room = room_in c.args.self.now (shape_tree c.args.shape) in
    record { small = omega (arith, rounded_above c.args.laying.now.room.size room.align, c.requires.small) }

-- the member ends within 4,096 bytes
pub overflow_add-laying : goal.overflow_add-laying
overflow_add-laying c =
    let size = c.args.laying.now.room.size in
    let ends =
    ap (λ n. n + c.room-room.result.size) c.rounded-at.ensures.rounded ∙ ap (λ (e : Extent). rounded_up size e.align + e.size) c.room-room.ensures.room in
    omega (arith, ends, c.requires.small)

pub push_shape-requires : goal.push_shape-requires
push_shape-requires c =
    let size = c.args.laying.now.room.size in
    let at_is = c.rounded-at.ensures.rounded ∙ ap (λ (e : Extent). rounded_up size e.align) c.room-room.ensures.room in
    record { at = omega (arith, at_is, c.requires.small); near = c.requires.near; taken = c.requires.taken }
