use Rattle.std.proofs.Common.{arith, refl}
use Rattle.check_calls.specs.Fitted.{fits_all, parameter_fits}
use Rattle.check_calls.specs.Fixings.{fixed_with, fixings_of}
use Rattle.check_calls.proofs.Fixes.{all_fixed, next_fixes}
use Rattle.check_calls.proofs.Places.{next_fits, no_fits}
use Rattle.check_calls.proofs.fixing.note_types.Goals as goal

pub each-preserved : goal.each-preserved
each-preserved c =
    next_fixes fits_all parameter_fits (λ ys. refl) no_fits next_fits
    c.each.index c.args.parameters.now c.args.arguments.now c.index-parameters-index.result c.index-parameters-index.result
    c.index-arguments-index.result c.index-arguments-index.result
    (fixings_of c.each.fixings.items) (fixings_of c.note_parameter.new.fixings.items)
    (fixed_with (fits_all c.args.parameters.now c.args.arguments.now) 0 (fixings_of c.args.fixings.now.items))
    (omega (arith, c.each-test.true, c.min-count.ensures)) c.index-parameters-index.is c.index-arguments-index.is c.note_parameter.ensures c.each.invariant

pub returns : goal.returns
returns c =
    all_fixed fits_all parameter_fits (λ ys. refl) no_fits next_fits
    c.each.index c.args.parameters.now c.args.arguments.now
    (fixings_of c.each.fixings.items) (fixed_with (fits_all c.args.parameters.now c.args.arguments.now) 0 (fixings_of c.args.fixings.now.items))
    (omega (arith, c.each-test.false, c.min-count.ensures)) c.each.invariant
