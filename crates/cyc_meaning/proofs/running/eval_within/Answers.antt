use Rattle.cyc_core.specs.Trees.{program_tree}
use Rattle.cyc_tree.specs.Tree.{Program}
use Rattle.accepted_proof.proofs.Joined.{accepted_are_never_stuck}
use Rattle.cyc_meaning.proofs.Agreeing.{does_the_same}
use Rattle.cyc_meaning.proofs.Beginning.{nothing_done}
use Rattle.cyc_meaning.proofs.Carried.{carried, not_stuck, of_code}
use Rattle.cyc_meaning.proofs.running.eval_within.Goals as goal

pub returns-in-Ok-clause-evaluated : goal.returns-in-Ok-clause-evaluated
returns-in-Ok-clause-evaluated g c =
    let p : Program = c.args.checked.now in
    carried p (does_the_same p c.program.ensures.accepted c.in-Ok.ensures.few) _ _ _ _ _ _
    (of_code p (program_tree c.in-Ok.core) c.in-Ok.ensures.code c.evaluate_core_within.ensures.evaluated)

pub returns-in-Ok-clause-never_stuck : goal.returns-in-Ok-clause-never_stuck
returns-in-Ok-clause-never_stuck g c = λ is.
    let p : Program = c.args.checked.now in
    not_stuck p (accepted_are_never_stuck p c.program.ensures.accepted) _ _ _ _ _ _
    (carried p (does_the_same p c.program.ensures.accepted c.in-Ok.ensures.few) _ _ _ _ _ _
    (of_code p (program_tree c.in-Ok.core) c.in-Ok.ensures.code c.evaluate_core_within.ensures.evaluated)) is

pub returns-in-Err-clause-evaluated : goal.returns-in-Err-clause-evaluated
returns-in-Err-clause-evaluated g c = nothing_done c.args.checked.now _ _ _
