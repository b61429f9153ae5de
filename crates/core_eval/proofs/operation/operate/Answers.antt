use Rattle.std.proofs.Common.{rules}
use Rattle.core_meaning.specs.Memory as memory
use Rattle.cyc_core.specs.declared.operation.Operation.TheVariants as operation
use Rattle.core_eval.specs.Values.{content_of}
use Rattle.core_eval.specs.Standing.{known_of}
use Rattle.core_eval.proofs.OperationMoves.{constant_moves, null_moves, heap_moves, move_moves}
use Rattle.core_eval.proofs.Answered.{given_here, with_memory, for_operation, for_operation_ok}
use Rattle.core_eval.proofs.operation.operate.Goals as goal

pub returns-in-Constant : goal.returns-in-Constant
returns-in-Constant c =
    let f = c.args.frame.now in
    let f' = c.give.new.frame in
    let m = c.args.memory.now in
    for_operation c.give.result c.args.operation (operation.Constant c.in-Constant.to c.in-Constant.word) (known_of f m) (known_of f' m) c.in-Constant.is
    (given_here c.give.result f f' c.in-Constant.to.0 (memory.Word c.in-Constant.word) _ m c.give.ensures.next c.give.ensures.gives c.give.ensures.base
    (λ ws gives. constant_moves (known_of f m) f'.temps.items ws c.in-Constant.to.0 c.in-Constant.word (search rules) gives))

pub returns-in-Move : goal.returns-in-Move
returns-in-Move c =
    let f = c.args.frame.now in
    let f' = c.give-in-Move.new.frame in
    let m = c.args.memory.now in
    for_operation c.give-in-Move.result c.args.operation (operation.Move c.in-Move.to c.in-Move.from) (known_of f m) (known_of f' m) c.in-Move.is
    (given_here c.give-in-Move.result f f' c.in-Move.to.0
    (content_of c.temp-value.result) _ m c.give-in-Move.ensures.next c.give-in-Move.ensures.gives c.give-in-Move.ensures.base
    (λ ws gives. move_moves (known_of f m) f'.temps.items ws c.in-Move.from.0 c.temp-value.result c.temp-value.ensures c.in-Move.to.0 gives))

pub returns-in-DataAddress : goal.returns-in-DataAddress
returns-in-DataAddress c =
    let f = c.args.frame.now in
    let f' = c.global_address.new.frame in
    let m = c.args.memory.now in
    for_operation c.global_address.result c.args.operation (operation.DataAddress c.in-DataAddress.to c.in-DataAddress.object) (known_of f m) (known_of f' m)
    c.in-DataAddress.is
    (with_memory c.global_address.result f f' _ m c.global_address.ensures)

pub returns-in-OwnAddress : goal.returns-in-OwnAddress
returns-in-OwnAddress c =
    let f = c.args.frame.now in
    let f' = c.own_address.new.frame in
    let m = c.args.memory.now in
    for_operation c.own_address.result c.args.operation (operation.OwnAddress c.in-OwnAddress.to c.in-OwnAddress.object) (known_of f m) (known_of f' m)
    c.in-OwnAddress.is c.own_address.ensures

pub returns-in-Offset : goal.returns-in-Offset
returns-in-Offset c =
    let f = c.args.frame.now in
    let f' = c.offset.new.frame in
    let m = c.args.memory.now in
    for_operation c.offset.result c.args.operation (operation.Offset c.in-Offset.to c.in-Offset.from c.in-Offset.cells c.in-Offset.bytes) (known_of f m)
    (known_of f' m) c.in-Offset.is c.offset.ensures

pub returns-in-Element : goal.returns-in-Element
returns-in-Element c =
    let f = c.args.frame.now in
    let f' = c.element.new.frame in
    let m = c.args.memory.now in
    for_operation c.element.result c.args.operation
    (operation.Element c.in-Element.to c.in-Element.from c.in-Element.index c.in-Element.cells c.in-Element.bytes) (known_of f m) (known_of f' m)
    c.in-Element.is c.element.ensures

pub returns-in-Narrow : goal.returns-in-Narrow
returns-in-Narrow c =
    let f = c.args.frame.now in
    let f' = c.narrow.new.frame in
    let m = c.args.memory.now in
    for_operation c.narrow.result c.args.operation (operation.Narrow c.in-Narrow.to c.in-Narrow.from) (known_of f m) (known_of f' m) c.in-Narrow.is
    (with_memory c.narrow.result f f' _ m c.narrow.ensures)

pub returns-in-Apply : goal.returns-in-Apply
returns-in-Apply c =
    let f = c.args.frame.now in
    let f' = c.compute.new.frame in
    let m = c.args.memory.now in
    for_operation c.compute.result c.args.operation (operation.Apply c.in-Apply.operation c.in-Apply.to c.in-Apply.left c.in-Apply.right) (known_of f m)
    (known_of f' m) c.in-Apply.is
    (with_memory c.compute.result f f' _ m c.compute.ensures)

pub returns-in-Get : goal.returns-in-Get
returns-in-Get c =
    let f = c.args.frame.now in
    let f' = c.get.new.frame in
    let m = c.args.memory.now in
    for_operation c.get.result c.args.operation (operation.Get c.in-Get.width c.in-Get.to c.in-Get.from) (known_of f m) (known_of f' m)
    c.in-Get.is c.get.ensures

pub returns-in-Load : goal.returns-in-Load
returns-in-Load c =
    let f = c.args.frame.now in
    let f' = c.load.new.frame in
    let m = c.args.memory.now in
    for_operation c.load.result c.args.operation (operation.Load c.in-Load.to c.in-Load.place c.in-Load.distance) (known_of f m) (known_of f' m)
    c.in-Load.is c.load.ensures

pub returns-in-LocalAddress : goal.returns-in-LocalAddress
returns-in-LocalAddress c =
    let f = c.args.frame.now in
    let f' = c.address.new.frame in
    let m = c.args.memory.now in
    for_operation c.address.result c.args.operation (operation.LocalAddress c.in-LocalAddress.to c.in-LocalAddress.of) (known_of f m) (known_of f' m)
    c.in-LocalAddress.is c.address.ensures

pub returns-in-SamePlace : goal.returns-in-SamePlace
returns-in-SamePlace c =
    let f = c.args.frame.now in
    let f' = c.test_same.new.frame in
    let m = c.args.memory.now in
    for_operation c.test_same.result c.args.operation (operation.SamePlace c.in-SamePlace.to c.in-SamePlace.left c.in-SamePlace.right) (known_of f m)
    (known_of f' m)
    c.in-SamePlace.is c.test_same.ensures

pub returns-in-IsNull : goal.returns-in-IsNull
returns-in-IsNull c =
    let f = c.args.frame.now in
    let f' = c.test_null.new.frame in
    let m = c.args.memory.now in
    for_operation c.test_null.result c.args.operation (operation.IsNull c.in-IsNull.to c.in-IsNull.from) (known_of f m) (known_of f' m) c.in-IsNull.is
    (with_memory c.test_null.result f f' _ m c.test_null.ensures)

pub returns-in-NullPointer : goal.returns-in-NullPointer
returns-in-NullPointer c =
    let f = c.args.frame.now in
    let f' = c.give-in-NullPointer.new.frame in
    let m = c.args.memory.now in
    for_operation c.give-in-NullPointer.result c.args.operation (operation.NullPointer c.in-NullPointer.to) (known_of f m) (known_of f' m) c.in-NullPointer.is
    (given_here c.give-in-NullPointer.result f f' c.in-NullPointer.to.0 memory.Null _ m c.give-in-NullPointer.ensures.next c.give-in-NullPointer.ensures.gives
    c.give-in-NullPointer.ensures.base
    (λ ws gives. null_moves (known_of f m) f'.temps.items ws c.in-NullPointer.to.0 gives))

pub returns-in-Put : goal.returns-in-Put
returns-in-Put c =
    let f = c.args.frame.now in
    for_operation c.put.result c.args.operation (operation.Put c.in-Put.width c.in-Put.from c.in-Put.to) (known_of f c.args.memory.now)
    (known_of f c.put.new.memory) c.in-Put.is c.put.ensures

pub returns-in-Store : goal.returns-in-Store
returns-in-Store c =
    let f = c.args.frame.now in
    for_operation c.store.result c.args.operation (operation.Store c.in-Store.place c.in-Store.distance c.in-Store.from) (known_of f c.args.memory.now)
    (known_of f c.store.new.memory) c.in-Store.is c.store.ensures

pub returns-in-Putchar : goal.returns-in-Putchar
returns-in-Putchar c =
    let f = c.args.frame.now in
    let m = c.args.memory.now in
    for_operation_ok c.putchar.result c.args.operation (operation.Putchar c.in-Putchar.to c.in-Putchar.from) (known_of f m) (known_of f m) c.in-Putchar.is
    (λ ws. c.putchar.ensures ws m)

pub returns-in-HeapHandle : goal.returns-in-HeapHandle
returns-in-HeapHandle c =
    let f = c.args.frame.now in
    let f' = c.give-in-HeapHandle.new.frame in
    let m = c.args.memory.now in
    for_operation c.give-in-HeapHandle.result c.args.operation (operation.HeapHandle c.in-HeapHandle.to) (known_of f m) (known_of f' m) c.in-HeapHandle.is
    (given_here c.give-in-HeapHandle.result f f' c.in-HeapHandle.to.0 (memory.Birth 0) _ m c.give-in-HeapHandle.ensures.next
    c.give-in-HeapHandle.ensures.gives c.give-in-HeapHandle.ensures.base
    (λ ws gives. heap_moves (known_of f m) f'.temps.items ws c.in-HeapHandle.to.0 gives))

pub returns-in-RegionNew : goal.returns-in-RegionNew
returns-in-RegionNew c =
    for_operation c.make_region.result c.args.operation (operation.RegionNew c.in-RegionNew.to) (known_of c.args.frame.now c.args.memory.now)
    (known_of c.make_region.new.frame c.make_region.new.memory) c.in-RegionNew.is c.make_region.ensures

pub returns-in-RegionFree : goal.returns-in-RegionFree
returns-in-RegionFree c =
    let f = c.args.frame.now in
    for_operation_ok c.free_region.result c.args.operation (operation.RegionFree c.in-RegionFree.region) (known_of f c.args.memory.now)
    (known_of f c.free_region.new.memory) c.in-RegionFree.is c.free_region.ensures

pub returns-in-UniqueFree : goal.returns-in-UniqueFree
returns-in-UniqueFree c =
    let f = c.args.frame.now in
    for_operation_ok c.free_unique.result c.args.operation (operation.UniqueFree c.in-UniqueFree.place) (known_of f c.args.memory.now)
    (known_of f c.free_unique.new.memory) c.in-UniqueFree.is c.free_unique.ensures

pub returns-in-KeyNew : goal.returns-in-KeyNew
returns-in-KeyNew c =
    for_operation c.make_key.result c.args.operation (operation.KeyNew c.in-KeyNew.to) (known_of c.args.frame.now c.args.memory.now)
    (known_of c.make_key.new.frame c.make_key.new.memory) c.in-KeyNew.is c.make_key.ensures

pub returns-in-KeyOpen : goal.returns-in-KeyOpen
returns-in-KeyOpen c =
    let f = c.args.frame.now in
    for_operation_ok c.open_key.result c.args.operation (operation.KeyOpen c.in-KeyOpen.key) (known_of f c.args.memory.now)
    (known_of f c.open_key.new.memory) c.in-KeyOpen.is c.open_key.ensures

pub returns-in-KeyClose : goal.returns-in-KeyClose
returns-in-KeyClose c =
    let f = c.args.frame.now in
    for_operation_ok c.close_key.result c.args.operation (operation.KeyClose c.in-KeyClose.key) (known_of f c.args.memory.now)
    (known_of f c.close_key.new.memory) c.in-KeyClose.is c.close_key.ensures

pub returns-in-KeyFree : goal.returns-in-KeyFree
returns-in-KeyFree c =
    let f = c.args.frame.now in
    for_operation_ok c.free_key.result c.args.operation (operation.KeyFree c.in-KeyFree.key) (known_of f c.args.memory.now)
    (known_of f c.free_key.new.memory) c.in-KeyFree.is c.free_key.ensures
