use Rattle.std.proofs.Common.{ℕ, ◌∙◌, sym, subst}
use Rattle.core_meaning.specs.Memory as memory
use Rattle.core_meaning.specs.Core as core
use Rattle.core_eval.specs.Pendings.{Execute}
use Rattle.core_eval.specs.Standing.{Gives, known_of}
use Rattle.core_eval.proofs.MemoryMoves.{same_moves, same_wrong}
use Rattle.core_eval.proofs.Answered.{given_here}
use Rattle.core_eval.proofs.operation.test_same.Goals as goal

pub returns-in-Some : goal.returns-in-Some
returns-in-Some c =
    let f = c.args.frame.now in
    let f' = c.give.new.frame in
    let m = c.args.memory.now in
    given_here c.give.result f f' c.args.to.0 (memory.Word c.truth.result)
    (Execute (core.Do (core.SamePlace c.args.to.0 c.args.left.0 c.args.right.0))) m c.give.ensures.next
    c.give.ensures.gives c.give.ensures.base
    (λ ws gives. same_moves (known_of f m) ws c.args.left.0 c.args.right.0 c.temp-first.result c.temp-second.result c.temp-first.ensures
    c.temp-second.ensures f'.temps.items
    c.args.to.0 c.in-Some.is_same
    (λ d. sym (c.same_place.ensures d) ∙ c.in-Some.is)
    (subst (λ (n : ℕ). Gives c.args.to.0 (memory.Word n) f.temps.items f'.temps.items) c.truth.ensures gives))

pub returns-in-None : goal.returns-in-None
returns-in-None c =
    λ ws. same_wrong (known_of c.args.frame.now c.args.memory.now) ws c.args.left.0 c.args.right.0 c.temp-first.result c.temp-second.result
    c.temp-first.ensures c.temp-second.ensures
    c.args.to.0
    (λ d. sym (c.same_place.ensures d) ∙ c.in-None.is)
