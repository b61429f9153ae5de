use Rattle.core_meaning.specs.Core as core
use Rattle.core_eval.specs.Pendings.{Execute}
use Rattle.core_eval.specs.Standing.{known_of}
use Rattle.core_eval.proofs.OperationMoves.{narrow_moves}
use Rattle.core_eval.proofs.Answered.{given_answer}
use Rattle.core_eval.proofs.operation.narrow.Goals as goal

pub returns-in-Word : goal.returns-in-Word
returns-in-Word c =
    let f = c.args.frame.now in
    let f' = c.give.new.frame in
    given_answer c.give.result f f' c.args.to.0 _
    (Execute (core.Do (core.Narrow c.args.to.0 c.args.from.0))) c.give.ensures.next c.give.ensures.gives c.give.ensures.base
    (λ ws m gives. narrow_moves (known_of f m) f'.temps.items ws c.args.from.0 c.temp.result c.temp.ensures c.args.to.0 c.in-Word.word c.in-Word.is
    gives)
