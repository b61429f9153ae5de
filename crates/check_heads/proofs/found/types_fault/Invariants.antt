use Rattle.std.proofs.Common.{◌≡◌, drop}
use Rattle.check_faults.specs.Faults.{faults_of, first_of}
use Rattle.check_heads.specs.Reading.{types_fault}
use Rattle.check_heads.proofs.found.types_fault.Given as goal

-- what was found, and the earliest fault of the rest, is the earliest of all
abbrev pub invariant-each : goal.invariant-each
invariant-each l = first_of (faults_of l.found) (types_fault (drop l.parameter-index l.parameters)) ≡ types_fault l.parameters
