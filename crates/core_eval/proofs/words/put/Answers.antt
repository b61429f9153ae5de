use Rattle.std.proofs.lemmas.Result.{IfOk-weaker}
use Rattle.cyc_core.specs.declared.operation.Operation.TheVariants as operation
use Rattle.core_eval.specs.Standing.{known_of}
use Rattle.core_eval.proofs.Answered.{put_answer, done_as}
use Rattle.core_eval.proofs.words.put.Goals as goal

pub returns-in-Put-clause-done : goal.returns-in-Put-clause-done
returns-in-Put-clause-done c =
    let f = c.args.frame.now in
    let m = c.args.memory.now in
    let m' = c.set_local.new.self in
    let to = c.in-Put.to in
    let s = c.set_local.ensures in
    IfOk-weaker c.set_local.result _ _
    (λ is_put put stored. done_as c.args.operation.now (operation.Put c.in-Put.width c.in-Put.from to) (known_of f m) (known_of f m') c.in-Put.is
    (λ ws. put_answer f m m' c.in-Put.from.0 c.temp-value.result is_put c.temp-value.ensures s.entered s.called ws s.owns s.globals s.regions
    s.long_blocks to.out to.index c.in-Put.width put stored))
    s.blocks
