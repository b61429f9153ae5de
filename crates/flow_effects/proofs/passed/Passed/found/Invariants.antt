use Rattle.std.proofs.Common.{map, take, ◌≡◌}
use Rattle.std.specs.Prelude.{reverse}
use Rattle.flow_summaries.specs.Passages.{caused_in}
use Rattle.flow_effects.specs.Passed.{passage_of, state_of}
use Rattle.flow_effects.proofs.passed.Passed.found.Given as goal

-- the earliest fault of the locals so far, which are numbered in this order
abbrev pub invariant-each : goal.invariant-each
invariant-each l =
    (l.number ≡ l.state-index)
    × (l.found ≡ caused_in l.state-index (passage_of l.self).faults.caused (reverse (map state_of (take l.state-index l.states))))
