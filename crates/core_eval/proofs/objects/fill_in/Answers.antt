use Rattle.std.proofs.Common.{◌<◌, ◌≤◌, length, rules}
use Rattle.std.proofs.lemmas.Result.{on_ok_weaker}
use Rattle.core_eval.proofs.Lists.{fill_object_some, fill_object_none}
use Rattle.core_eval.proofs.objects.fill_in.Goals as goal

pub returns-in-Some : goal.returns-in-Some
returns-in-Some c =
    let os = c.args.objects.now.items in
    let within : c.args.index < length os = search rules in
    on_ok_weaker c.fill.result
    (λ filled. fill_object_some os c.args.index c.args.cell c.args.values.now c.in-Some.object.now c.fill.new.self within c.in-Some.ensures.value filled)
    c.fill.ensures

pub returns-in-None : goal.returns-in-None
returns-in-None c =
    let os = c.args.objects.now.items in
    let past : length os ≤ c.args.index = search rules in
    fill_object_none os c.args.index c.args.cell c.args.values.now past
