use Rattle.std.proofs.Common.{◌-◌, arith, refl}
use Rattle.rv32_select.specs.Runs.{flags_in}
use Rattle.rv32_select.proofs.Running.{pair_first, pair_second}
use Rattle.rv32_select.proofs.runs.put_pair.Goals as goal

pub returns-in_ok-push-clause-flags : goal.returns-in_ok-push-clause-flags
returns-in_ok-push-clause-flags c =
    let one = c.args.one in
    let other = c.args.other in
    pair_first (flags_in c.args.runs.now.items) _ one other (record { count = other.count - one.count; value = other.value }) c.args.first.now.items
    c.args.second.now.items _ _ c.if-one-other.true c.is_either-value.ensures c.in_ok-put_run.ensures refl refl c.in_ok-push.ensures.items

pub returns-in_ok-push-2-clause-flags : goal.returns-in_ok-push-2-clause-flags
returns-in_ok-push-2-clause-flags c =
    let one = c.args.one in
    let other = c.args.other in
    let less = c.if-one-other.false in
    pair_second (flags_in c.args.runs.now.items) _ one other (record { count = one.count - other.count; value = one.value }) c.args.first.now.items
    c.args.second.now.items _ _ (omega (arith, less)) c.is_either-value.ensures c.in_ok-put_run-2.ensures refl refl c.in_ok-push-2.ensures.items
