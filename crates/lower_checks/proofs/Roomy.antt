-- A program whose functions have room all in all has room for each.
use Rattle.std.proofs.Common.{◌<◌, ◌^◌, arith, List, [], ◌∷◌}
use Rattle.cyc_tree.specs.Tree.{FunctionItem, GlobalItem, Item, StructItem, UnionItem}
use Rattle.cyc_tree.specs.Room.{program_room}
use Rattle.lower_checks.specs.Roomy.{AreRoomy}

pub are_roomy : (items : List Item) → program_room items < 2 ^ 32 → AreRoomy items
are_roomy [] room = tt
are_roomy (FunctionItem f ∷ items) room = (omega (arith, room), are_roomy items (omega (arith, room)))
are_roomy (StructItem s ∷ items) room = (tt, are_roomy items room)
are_roomy (UnionItem u ∷ items) room = (tt, are_roomy items (omega (arith, room)))
are_roomy (GlobalItem g ∷ items) room = (tt, are_roomy items room)
