use Rattle.std.proofs.lemmas.Result.{err_from_is_err_and}
use Rattle.cycc_driver.proofs.Exactness.{accepted_or_refused}
use Rattle.cycc_driver.proofs.compiling.front.Goals as goal

pub returns-in_err-program-clause-exact : goal.returns-in_err-program-clause-exact
returns-in_err-program-clause-exact c = λ p accepted.
    let refused = err_from_is_err_and c.from_residual.result c.from_residual.ensures.1 in
    rw (refused.1, refused.2) (accepted_or_refused c.args.text.now p c.in_err-program.field-0.0 accepted c.in_err-program.ensures.refused)

pub returns-in_err-checked-clause-exact : goal.returns-in_err-checked-clause-exact
returns-in_err-checked-clause-exact c = λ p accepted.
    let refused = err_from_is_err_and c.from_residual-in_err-checked.result c.from_residual-in_err-checked.ensures.1 in
    rw (refused.1, refused.2)
    (accepted_or_refused c.args.text.now p c.in_err-checked.field-0.0 accepted (c.in_err-checked.ensures.refused c.in_ok-program.ensures.found))
