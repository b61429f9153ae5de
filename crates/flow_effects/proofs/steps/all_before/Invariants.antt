use Rattle.std.proofs.Common.{vec_len, ◌≡◌}
use Rattle.flow_effects.specs.Exits.{exits_of}
use Rattle.flow_effects.specs.Steps.{all_before}
use Rattle.flow_effects.proofs.steps.all_before.Given as goal

-- the steps that are left, before the rest so far, are all of them
abbrev pub invariant-each : goal.invariant-each
invariant-each l = (all_before l.steps.items (exits_of l.rest) ≡ all_before l.fn.steps.items (exits_of l.fn.last))

abbrev pub decreases-each : goal.decreases-each
decreases-each l = vec_len l.steps
