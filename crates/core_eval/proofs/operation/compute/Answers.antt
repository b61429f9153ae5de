use Rattle.std.proofs.Common.{rules}
use Rattle.core_meaning.specs.Memory as memory
use Rattle.core_meaning.specs.Core as core
use Rattle.core_meaning.specs.Words.{two}
use Rattle.cyc_core.specs.Trees.{binary_tree}
use Rattle.core_eval.specs.Pendings.{Execute}
use Rattle.core_eval.specs.Standing.{known_of}
use Rattle.core_eval.proofs.OperationMoves.{apply_moves}
use Rattle.core_eval.proofs.Answered.{given_answer}
use Rattle.core_eval.proofs.operation.compute.Goals as goal

pub returns : goal.returns
returns c =
    let f = c.args.frame.now in
    let f' = c.give.new.frame in
    given_answer c.give.result f f' c.args.to.0 (memory.Word (two (binary_tree c.args.operation) c.in-Word.x c.in-Word-temp.y))
    (Execute (core.Do (core.Apply (binary_tree c.args.operation) c.args.to.0 c.args.left.0 c.args.right.0))) c.give.ensures.next
    (search rules) c.give.ensures.base
    (λ ws m gives. apply_moves (known_of f m) f'.temps.items ws c.args.left.0 c.temp.result c.temp.ensures
    (binary_tree c.args.operation) c.args.to.0 c.args.right.0
    c.in-Word.x c.in-Word-temp.y c.temp-2.result c.temp-2.ensures c.in-Word.is c.in-Word-temp.is gives)
