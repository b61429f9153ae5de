use Rattle.std.proofs.Common.{◌∙◌}
use Rattle.cyc_types.specs.Regions.{regions_of}
use Rattle.check_calls.specs.Fixings.{fixings_of, which_are_known}
use Rattle.check_calls.proofs.Converting.{argument_found}
use Rattle.check_calls.proofs.arguments.argument_fault.Goals as goal

pub returns-in_ok-fault-in-Some : goal.returns-in_ok-fault-in-Some
returns-in_ok-fault-in-Some c g sees =
    c.counted.ensures ∙ argument_found c.args.partly g (which_are_known (fixings_of c.args.fixings.now)) (regions_of c.args.regions.now)
    c.args.parameter.now c.in-Some.of c.args.value.now _ _ _ c.in-Some.is c.is_whole.ensures c.in_ok-to-in-Some.ensures (c.in_ok-fault-in-Some.ensures g sees)
