use Rattle.std.proofs.Common.{refl}
use Rattle.core_meaning.specs.Steps as steps
use Rattle.core_eval.specs.Pendings.{Leave, Go}
use Rattle.core_eval.specs.Standing.{known_of}
use Rattle.core_eval.proofs.Answered.{given_known, move_as}
use Rattle.core_eval.proofs.words.operate_on_words.Goals as goal

pub returns-in_ok-set_temp-in-Some-clause-done : goal.returns-in_ok-set_temp-in-Some-clause-done
returns-in_ok-set_temp-in-Some-clause-done c = λ same ws.
    let f = c.args.frame.now in
    let f' = c.set_temp.new.self in
    let m = c.args.memory.now in
    let set = c.in_ok-set_temp-in-Some.ensures in
    move_as _ ws (known_of f m) (Go (Leave steps.Falls)) _ ws (record (known_of f m) { temps = f'.temps.items }) (known_of f' m) refl
    (given_known f f' m set.base) (c.in-Some.ensures f'.temps.items set.temps ws)
