use Rattle.std.proofs.Common.{◌≤◌, ◌+◌, arith, sym, subst, map, drop}
use Rattle.cyc_tree.specs.View.{member_tree}
use Rattle.source_meaning.specs.Shapes.{part_of}
use Rattle.source_meaning.specs.Sizes.{rounded_up}
use Rattle.source_lowering.specs.Layouts.{bytes_through}
use Rattle.source_lowering.proofs.Sizes.{through_above}
use Rattle.lower_checks.specs.Structs.{AreLaid, IsLaid, room_in}
use Rattle.lower_checks.proofs.Bodies.{left_parameters}
use Rattle.lower_checks.proofs.layouts.Structs.lay_all.Goals as goal

-- the next member ends within 4,096 bytes
pub lay-requires : goal.lay-requires
lay-requires c =
    let room = room_in c.args.self.now in
    let p = part_of (member_tree c.member-item.result) in
    let others = map part_of (map member_tree (drop (c.each.member-index + 1) c.args.members.now)) in
    let left = left_parameters c.args.members.now c.each.member-index c.member-item.result c.each-test.true c.member-item.is in
    let at = rounded_up c.each.laying.room.size (room p.shape).align + (room p.shape).size in
    let all = subst (λ ps. bytes_through room c.each.laying.room.size ps ≤ 4096) left c.each.invariant.small in
    let here : at ≤ 4096 = omega (arith, through_above room at others, all) in
    record {
      small = subst (λ s. rounded_up c.each.laying.room.size (room s).align + (room s).size ≤ 4096) (sym c.of.ensures) here;
      near = c.requires.near;
      taken = subst (λ s. IsLaid c.args.self.now s) (sym c.of.ensures) (subst (λ ps. AreLaid c.args.self.now ps) left c.each.invariant.taken).0;
    }
