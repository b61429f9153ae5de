use Rattle.std.proofs.Common.{◌≡◌, Ok, ap}
use Rattle.core_eval.specs.declared.ending.EvalEnding.{EvalEnding}
use Rattle.core_eval.specs.declared.ending.EvalEnding.TheVariants as ending
use Rattle.cycc_driver.proofs.evaluating.evaluate_within.Goals as goal

pub returns-clause-run : goal.returns-clause-run
returns-clause-run g c = record {
  program = c.in-Ok.checked;
  accepted = c.in-Ok.ensures.accepted;
  evaluated = c.eval_within.ensures.evaluated;
}

pub returns-clause-never_stuck : goal.returns-clause-never_stuck
returns-clause-never_stuck g c = λ is.
    let same : c.eval_within.result ≡ ending.Stuck = cc is in
    c.eval_within.ensures.never_stuck same

pub returns-clause-bounded : goal.returns-clause-bounded
returns-clause-bounded g c = λ other. c.eval_within.ensures.bounded (λ is. other (ap Ok is))
