use Rattle.cyc_core.specs.declared.operation.Operation.TheVariants as operation
use Rattle.core_eval.specs.declared.value.Value.TheVariants as value
use Rattle.core_eval.specs.Standing.{known_of}
use Rattle.core_eval.proofs.Answered.{done_as}
use Rattle.core_eval.proofs.MemoryMoves.{get_moves}
use Rattle.core_eval.proofs.words.word_given.Goals as goal

pub returns-in-Some : goal.returns-in-Some
returns-in-Some c = λ temps gives.
    let known = known_of c.args.frame.now c.args.memory.now in
    let g = c.in-Get in
    done_as c.args.operation.now (operation.Get g.width g.to g.from) known (record known { temps = temps })
    g.is
    (λ ws. get_moves known ws temps g.to.0 g.from.out g.from.index g.width (value.Word c.in-Some.word) c.in-Some.ensures gives)
