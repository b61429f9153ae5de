use Rattle.std.proofs.Common.{◌≡◌}
use Rattle.check_calls.specs.Fixings.{fixing_of, fixings_of}
use Rattle.check_calls.proofs.Settling.{settled_from}
use Rattle.check_calls.proofs.fixing.note_all.Given as goal

-- with the rest it is what all are settled to
abbrev pub invariant-each : goal.invariant-each
invariant-each l =
    settled_from (fixing_of l.last) l.variable (fixings_of l.fixings.items) ≡ settled_from (fixing_of l.last) 0 (fixings_of l.initial.fixings.items)
