use Rattle.std.proofs.Common.{◌∙◌, ◌<◌, length, rules}
use Rattle.std.proofs.lemmas.Result.{on_ok_weaker}
use Rattle.core_eval.specs.Pendings.{waits_of}
use Rattle.core_eval.proofs.Follows.{some_wait}
use Rattle.core_eval.proofs.enter.wait_for_others.Goals as goal

pub returns : goal.returns
returns c =
    let some : 0 < length c.args.others.now = search rules in
    on_ok_weaker c.wait.result (λ same. same ∙ some_wait c.args.others.now (waits_of c.args.stack.now.items) some) c.wait.ensures
