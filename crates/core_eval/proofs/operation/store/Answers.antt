use Rattle.std.proofs.Common.{◌≡◌, true, rules}
use Rattle.core_eval.specs.Values.{is_kept}
use Rattle.core_eval.proofs.Answered.{store_answer, unstore_answer, value_there}
use Rattle.core_eval.proofs.operation.store.Goals as goal

pub returns-then-is_put : goal.returns-then-is_put
returns-then-is_put c =
    let kept : is_kept c.args.distance.part c.args.distance.width ≡ true = search rules in
    λ ws. store_answer c.args.frame.now c.args.memory.now c.put_to.new.self c.args.from.0 c.temp-value.result c.in_ok-is_put.is_put c.temp-value.ensures
    c.in_ok-is_put.ensures.entered c.in_ok-is_put.ensures.called ws
    c.args.place.0 c.temp.result c.temp.ensures c.in-Pointer.place c.in-Pointer.is c.args.distance c.in_ok-cell.cell c.in_ok-byte.byte
    kept c.in_ok-cell.ensures c.in_ok-byte.ensures c.in_ok-is_put.ensures.put c.if-is_put.true

pub returns-in-None : goal.returns-in-None
returns-in-None c =
    let kept : is_kept c.args.distance.part c.args.distance.width ≡ true = search rules in
    λ ws. unstore_answer c.args.frame.now c.args.memory.now c.put_to.new.self c.args.from.0 c.temp-value.result c.temp-value.ensures ws
    c.args.place.0 c.temp.result c.temp.ensures c.in-Pointer.place c.in-Pointer.is c.args.distance kept
    c.in_ok-is_put.ensures.entered c.in_ok-is_put.ensures.called (c.in_ok-is_put.ensures.kept c.if-is_put.false)
    (λ d. value_there c.put_to.new.self c.in-Pointer.place c.args.distance c.in_ok-cell.cell c.in_ok-byte.byte c.slot.result c.value_of.result _
    c.in_ok-cell.ensures c.in_ok-byte.ensures (c.slot.ensures d) c.value_of.ensures c.in-None.is)
