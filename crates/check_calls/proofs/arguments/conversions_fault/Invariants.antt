use Rattle.std.proofs.Common.{◌≡◌, drop}
use Rattle.cyc_types.specs.Regions.{regions_of}
use Rattle.check_scopes.specs.Knows.{Sees}
use Rattle.source_typing.specs.Faults.{earliest}
use Rattle.source_typing.specs.Scope.{Env}
use Rattle.check_faults.specs.Faults.{faults_of, first_of}
use Rattle.check_calls.specs.Converted.{arguments_faults}
use Rattle.check_calls.specs.Fixings.{fixings_of, which_are_known}
use Rattle.check_calls.proofs.arguments.conversions_fault.Given as goal

-- what was found, and what is answered of the rest
abbrev pub invariant-each : goal.invariant-each
invariant-each l = (g : Env) → Sees l.scope g
    → first_of (faults_of l.found)
    (earliest
    (arguments_faults l.partly g (which_are_known (fixings_of l.fixings)) (regions_of l.regions) (drop l.index l.parameters) (drop l.index l.arguments)))
    ≡ earliest (arguments_faults l.partly g (which_are_known (fixings_of l.fixings)) (regions_of l.regions) l.parameters l.arguments)
