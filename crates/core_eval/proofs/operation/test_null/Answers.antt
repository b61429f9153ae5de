use Rattle.std.proofs.Common.{ℕ, ◌∙◌, sym, subst}
use Rattle.core_meaning.specs.Memory as memory
use Rattle.core_meaning.specs.Core as core
use Rattle.core_eval.specs.Pendings.{Execute}
use Rattle.core_eval.specs.Standing.{Gives, known_of}
use Rattle.core_eval.proofs.OperationMoves.{test_moves, test_wrong}
use Rattle.core_eval.proofs.Answered.{given_answer}
use Rattle.core_eval.proofs.operation.test_null.Goals as goal

pub returns-in-Some : goal.returns-in-Some
returns-in-Some c =
    let f = c.args.frame.now in
    let f' = c.give.new.frame in
    given_answer c.give.result f f' c.args.to.0 (memory.Word c.truth.result)
    (Execute (core.Do (core.IsNull c.args.to.0 c.args.from.0))) c.give.ensures.next
    c.give.ensures.gives c.give.ensures.base
    (λ ws m gives. test_moves (known_of f m) f'.temps.items ws c.args.from.0 c.temp.result c.temp.ensures c.args.to.0 c.in-Some.is_null
    (sym c.is_null.ensures ∙ c.in-Some.is)
    (subst (λ (n : ℕ). Gives c.args.to.0 (memory.Word n) f.temps.items f'.temps.items) c.truth.ensures gives))

pub returns-in-None : goal.returns-in-None
returns-in-None c =
    λ ws m. test_wrong (known_of c.args.frame.now m) ws c.args.from.0 c.temp.result c.temp.ensures c.args.to.0 (sym c.is_null.ensures ∙ c.in-None.is)
