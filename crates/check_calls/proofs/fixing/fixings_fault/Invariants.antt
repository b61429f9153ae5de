use Rattle.std.proofs.Common.{◌≡◌, drop}
use Rattle.source_typing.specs.Faults.{earliest}
use Rattle.check_faults.specs.Faults.{faults_of, first_of}
use Rattle.check_calls.specs.Fixings.{fixing_faults, fixings_of}
use Rattle.check_calls.proofs.fixing.fixings_fault.Given as goal

-- what was found, and what is answered of the rest
abbrev pub invariant-each : goal.invariant-each
invariant-each l =
    first_of (faults_of l.found) (earliest (fixing_faults (fixings_of (drop l.fixing-index l.fixings)))) ≡ earliest (fixing_faults (fixings_of l.fixings))
