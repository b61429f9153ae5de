use Rattle.std.proofs.Common.{◌≡◌, Some, false, rules}
use Rattle.cyc_core.specs.Trees.{failure_body}
use Rattle.core_eval.specs.Values.{truth_of}
use Rattle.core_eval.specs.Pendings.{next_of}
use Rattle.core_eval.specs.Standing.{known_of}
use Rattle.core_eval.proofs.CheckMoves.{check_fails}
use Rattle.core_eval.proofs.enter.check.Goals as goal

pub returns-in-Some-false : goal.returns-in-Some-false
returns-in-Some-false c =
    let fails : truth_of c.temp.result ≡ Some false = search rules in
    λ ws memory. check_fails (known_of c.args.frame.now memory) ws c.args.test.0 c.temp.result c.temp.ensures (failure_body c.args.failure) fails
    (next_of c.fail.result) ws _ (c.fail.ensures ws memory)
