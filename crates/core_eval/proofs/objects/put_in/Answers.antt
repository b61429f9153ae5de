use Rattle.std.proofs.Common.{◌<◌, ◌≤◌, length, rules}
use Rattle.std.proofs.lemmas.Result.{IfOk-weaker}
use Rattle.core_eval.proofs.Lists.{put_object_some, put_object_none}
use Rattle.core_eval.proofs.objects.put_in.Goals as goal

pub returns-in-Some-clause-put : goal.returns-in-Some-clause-put
returns-in-Some-clause-put c =
    let os = c.args.objects.now.items in
    let within : c.args.index < length os = search rules in
    IfOk-weaker c.put.result _ _
    (λ is_put put. put_object_some os c.args.index c.args.part.cell c.args.part.byte c.args.part.number c.args.part.width c.args.value c.in-Some.object.now
    c.put.new.self is_put within c.in-Some.ensures.value put)
    c.put.ensures.put

pub returns-in-None-clause-put : goal.returns-in-None-clause-put
returns-in-None-clause-put c =
    let os = c.args.objects.now.items in
    let past : length os ≤ c.args.index = search rules in
    put_object_none os c.args.index c.args.part.cell c.args.part.byte c.args.part.number c.args.part.width c.args.value past
