use Rattle.core_meaning.specs.Core as core
use Rattle.core_eval.specs.Pendings.{Execute}
use Rattle.core_eval.specs.Standing.{known_of}
use Rattle.core_eval.proofs.OperationMoves.{address_moves}
use Rattle.core_eval.proofs.Answered.{given_answer}
use Rattle.core_eval.proofs.operation.global_address.Goals as goal

pub returns : goal.returns
returns c =
    let f = c.args.frame.now in
    let f' = c.give.new.frame in
    given_answer c.give.result f f' c.args.to.0 _
    (Execute (core.Do (core.DataAddress c.args.to.0 c.args.object))) c.give.ensures.next c.give.ensures.gives c.give.ensures.base
    (λ ws m gives. address_moves (known_of f m) f'.temps.items ws c.args.to.0 c.args.object gives)
