use Rattle.std.proofs.Common.{◌≡◌, true, rules}
use Rattle.core_meaning.specs.Core as core
use Rattle.cyc_core.specs.Trees.{distance_tree}
use Rattle.core_eval.specs.Values.{content_of, is_kept}
use Rattle.core_eval.specs.Pendings.{Execute}
use Rattle.core_eval.specs.Standing.{known_of}
use Rattle.core_eval.proofs.MemoryMoves.{load_moves, load_wrong}
use Rattle.core_eval.proofs.Answered.{given_here, value_there}
use Rattle.core_eval.proofs.operation.load.Goals as goal

pub returns-in-Some : goal.returns-in-Some
returns-in-Some c =
    let f = c.args.frame.now in
    let f' = c.give.new.frame in
    let m = c.args.memory.now in
    let kept : is_kept c.args.distance.part c.args.distance.width ≡ true = search rules in
    given_here c.give.result f f' c.args.to.0 (content_of c.in-Some.value)
    (Execute (core.Do (core.Load c.args.to.0 c.args.place.0 (distance_tree c.args.distance)))) m
    c.give.ensures.next c.give.ensures.gives c.give.ensures.base
    (λ ws gives. load_moves (known_of f m) ws c.args.place.0 c.temp.result c.temp.ensures c.in-Pointer.place c.in-Pointer.is f'.temps.items c.args.to.0
    c.args.distance
    c.in-Some.value kept
    (λ d. value_there m c.in-Pointer.place c.args.distance c.in_ok-cell.cell c.in_ok-byte.byte c.slot.result c.value_of.result _
    c.in_ok-cell.ensures c.in_ok-byte.ensures
    (c.slot.ensures d) c.value_of.ensures c.in-Some.is) gives)

pub returns-in-None : goal.returns-in-None
returns-in-None c =
    let m = c.args.memory.now in
    let kept : is_kept c.args.distance.part c.args.distance.width ≡ true = search rules in
    λ ws. load_wrong (known_of c.args.frame.now m) ws c.args.place.0 c.temp.result c.temp.ensures c.in-Pointer.place c.in-Pointer.is c.args.to.0
    c.args.distance kept
    (λ d. value_there m c.in-Pointer.place c.args.distance c.in_ok-cell.cell c.in_ok-byte.byte c.slot.result c.value_of.result _
    c.in_ok-cell.ensures c.in_ok-byte.ensures
    (c.slot.ensures d) c.value_of.ensures c.in-None.is)
