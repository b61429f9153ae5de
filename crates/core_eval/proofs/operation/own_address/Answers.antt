use Rattle.std.proofs.Common.{◌∙◌, sym}
use Rattle.core_meaning.specs.Core as core
use Rattle.core_eval.specs.Values.{content_of}
use Rattle.core_eval.specs.Pendings.{Execute}
use Rattle.core_eval.specs.Standing.{known_of}
use Rattle.core_eval.proofs.MemoryMoves.{own_moves, own_wrong}
use Rattle.core_eval.proofs.Answered.{given_here}
use Rattle.core_eval.proofs.operation.own_address.Goals as goal

pub returns-in-Some : goal.returns-in-Some
returns-in-Some c =
    let f = c.args.frame.now in
    let f' = c.give.new.frame in
    let m = c.args.memory.now in
    given_here c.give.result f f' c.args.to.0 (content_of c.in-Some.place)
    (Execute (core.Do (core.OwnAddress c.args.to.0 c.args.object))) m
    c.give.ensures.next c.give.ensures.gives c.give.ensures.base
    (λ ws gives. own_moves (known_of f m) ws f'.temps.items c.args.to.0 c.args.object c.in-Some.place (sym c.own_address.ensures ∙ c.in-Some.is) gives)

pub returns-in-None : goal.returns-in-None
returns-in-None c =
    λ ws. own_wrong (known_of c.args.frame.now c.args.memory.now) ws c.args.to.0 c.args.object (sym c.own_address.ensures ∙ c.in-None.is)
