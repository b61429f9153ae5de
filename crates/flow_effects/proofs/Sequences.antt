-- Steps one after another.
use Rattle.std.proofs.Common.{List, [], ap, refl, ◌++◌, ◌∷◌, ◌≡◌}
use Rattle.flow_summaries.specs.Exits.{Exits, ends, exits_in_sequence}
use Rattle.flow_effects.specs.Steps.{all_before, step_before}
use Rattle.flow_effects.specs.declared.steps.Step.{Step}
use Rattle.flow_effects.proofs.Turns.{nothing_before}

-- one more step
pub before_more : (ss : List Step) (s : Step) (w : Exits) → all_before (ss ++ s ∷ []) w ≡ all_before ss (step_before s w)
before_more [] s w = refl
before_more (t ∷ ss) s w = ap (step_before t) (before_more ss s w)

-- what does nothing changes nothing of what comes after it
pub nothing_in_sequence : (w : Exits) → exits_in_sequence ends w ≡ w
nothing_in_sequence w = nothing_before w
