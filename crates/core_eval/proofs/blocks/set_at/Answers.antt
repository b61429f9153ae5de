use Rattle.std.proofs.Common.{◌<◌, ◌≤◌, length, refl, rules}
use Rattle.std.proofs.lemmas.Result.{IfOk-weaker}
use Rattle.core_eval.proofs.Lists.{put_some, put_none, kept_block}
use Rattle.core_eval.proofs.blocks.set_at.Goals as goal

pub returns-in-Some-clause-put : goal.returns-in-Some-clause-put
returns-in-Some-clause-put c =
    let bs = c.args.blocks.now.items in
    let within : c.args.position < length bs = search rules in
    IfOk-weaker c.put_in.result _ _
    (λ is_put put. put_some bs c.args.position c.args.index c.args.part.cell c.args.part.byte c.args.part.number c.args.part.width c.args.value
    c.in-Some.block.now (record { number = c.in-Some.block.now.number; objects = c.put_in.new.objects }) is_put within c.in-Some.ensures.value refl put)
    c.put_in.ensures.put

pub returns-in-None-clause-put : goal.returns-in-None-clause-put
returns-in-None-clause-put c =
    let bs = c.args.blocks.now.items in
    let past : length bs ≤ c.args.position = search rules in
    put_none bs c.args.position c.args.index c.args.part.cell c.args.part.byte c.args.part.number c.args.part.width c.args.value past

pub returns-in-Some-clause-kept : goal.returns-in-Some-clause-kept
returns-in-Some-clause-kept c =
    let bs = c.args.blocks.now.items in
    let within : c.args.position < length bs = search rules in
    IfOk-weaker c.put_in.result _ _
    (λ is_put kept missing. kept_block bs c.args.position c.in-Some.block.now
    (record { number = c.in-Some.block.now.number; objects = c.put_in.new.objects }) within c.in-Some.ensures.value refl (kept missing))
    c.put_in.ensures.kept
