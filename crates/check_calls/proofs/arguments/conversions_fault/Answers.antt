use Rattle.std.proofs.Common.{◌≡◌, ◌+◌, ap, arith, drop, refl, sym, ◌∙◌}
use Rattle.std.proofs.lemmas.Result.{IfOk-at_ok}
use Rattle.cyc_types.specs.Regions.{regions_of}
use Rattle.source_typing.specs.Faults.{earliest}
use Rattle.check_faults.specs.Faults.{faults_of, first_of}
use Rattle.check_calls.specs.Converted.{argument_faults, arguments_faults}
use Rattle.check_calls.specs.Fixings.{fixings_of, which_are_known}
use Rattle.check_calls.proofs.Converting.{none_given}
use Rattle.check_calls.proofs.Found.{next_found}
use Rattle.check_faults.proofs.Earliest.{first_none}
use Rattle.check_calls.proofs.Paired.{next_given, past}
use Rattle.check_calls.proofs.arguments.conversions_fault.Goals as goal

pub each-preserved : goal.each-preserved
each-preserved c g h =
    let partly = c.args.partly in
    let some = which_are_known (fixings_of c.args.fixings.now) in
    let rs = regions_of c.args.regions.now in
    let ps = c.args.parameters.now in
    let vs = c.args.arguments.now in
    let i = c.each.index in
    let p = c.index-parameters-index.result in
    let v = c.index-arguments-index.result in
    let found = c.each.found in
    next_found found c.in_ok-own.own c.sooner-found.result (argument_faults partly g some rs p v)
    (arguments_faults partly g some rs (drop (i + 1) ps) (drop (i + 1) vs)) (earliest (arguments_faults partly g some rs ps vs)) c.sooner-found.ensures
    (IfOk-at_ok (λ f. faults_of f ≡ earliest (argument_faults partly g some rs p v)) c.in_ok-own.was (c.argument_fault.ensures g h))
    (ap (λ fs. first_of (faults_of found) (earliest fs))
    (sym (next_given (arguments_faults partly g some rs) (argument_faults partly g some rs) (λ ys. refl) (none_given partly g some rs) (λ x xs y ys. refl)
    i ps vs p p v v (omega (arith, c.each-test.true, c.min-count.ensures)) c.index-parameters-index.is c.index-arguments-index.is))
    ∙ c.each.invariant g h)

pub returns : goal.returns
returns c g h =
    let partly = c.args.partly in
    let some = which_are_known (fixings_of c.args.fixings.now) in
    let rs = regions_of c.args.regions.now in
    let found = c.each.found in
    sym (first_none (faults_of found))
    ∙ ap (λ fs. first_of (faults_of found) (earliest fs))
    (sym (past (arguments_faults partly g some rs) (argument_faults partly g some rs) (λ ys. refl) (none_given partly g some rs) (λ x xs y ys. refl)
    c.each.index c.args.parameters.now c.args.arguments.now (omega (arith, c.each-test.false, c.min-count.ensures))))
    ∙ c.each.invariant g h
