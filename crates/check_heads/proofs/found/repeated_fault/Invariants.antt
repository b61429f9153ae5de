use Rattle.std.proofs.Common.{◌≡◌, drop}
use Rattle.std.specs.Prelude.{bytes_eq}
use Rattle.indexmap.specs.IndexSet.{contains}
use Rattle.source_typing.specs.Faults.{earliest}
use Rattle.check_faults.specs.Faults.{faults_of, first_of}
use Rattle.check_heads.specs.Reading.{never, repeated_after}
use Rattle.check_heads.proofs.found.repeated_fault.Given as goal

-- what was found, and the earliest second name of the rest, is the earliest of all
abbrev pub invariant-each : goal.invariant-each
invariant-each l =
    first_of (faults_of l.found) (earliest (repeated_after (contains (λ x y. bytes_eq x.now y.now) l.seen) (drop l.parameter-index l.parameters)))
    ≡ earliest (repeated_after never l.parameters)
