use Rattle.std.proofs.Common.{◌<◌, ◌≤◌, length, refl, rules}
use Rattle.std.proofs.lemmas.Result.{on_ok_weaker}
use Rattle.core_eval.proofs.Lists.{fill_some, fill_none}
use Rattle.core_eval.proofs.blocks.fill_at.Goals as goal

pub returns-in-Some : goal.returns-in-Some
returns-in-Some c =
    let bs = c.args.blocks.now.items in
    let within : c.args.position < length bs = search rules in
    on_ok_weaker c.fill_in.result
    (λ filled. fill_some bs c.args.position c.args.index c.args.cell c.args.values.now c.in-Some.block.now
    (record { number = c.in-Some.block.now.number; objects = c.fill_in.new.objects }) within c.in-Some.ensures.value refl filled)
    c.fill_in.ensures

pub returns-in-None : goal.returns-in-None
returns-in-None c =
    let bs = c.args.blocks.now.items in
    let past : length bs ≤ c.args.position = search rules in
    fill_none bs c.args.position c.args.index c.args.cell c.args.values.now past
