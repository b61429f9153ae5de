use Rattle.std.proofs.Common.{◌≡◌, ◌<◌, ℕ, None, get_or}
use Rattle.stack_needs.specs.Graph.{known}
use Rattle.stack_needs.proofs.recursion.unknown_among.Given as goal

-- the needs of those so far are known
abbrev pub invariant-each : goal.invariant-each
invariant-each l = (k : ℕ) (d : ℕ) → k < l.called-index → known l.needs (get_or l.calls k d) ≡ None → ⊥
