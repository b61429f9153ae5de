use Rattle.std.proofs.Common.{ap, ◌∙◌}
use Rattle.flow_summaries.specs.Exits.{exits_in_sequence}
use Rattle.flow_effects.specs.Steps.{step_before}
use Rattle.flow_effects.proofs.Sequences.{nothing_in_sequence}
use Rattle.flow_effects.proofs.steps.Step.does_nothing.Goals as goal

pub returns-in-Executed : goal.returns-in-Executed
returns-in-Executed c is w =
    ap (λ s. step_before s w) c.in-Executed.is ∙ ap (λ v. exits_in_sequence v w) (c.does_nothing.ensures is) ∙ nothing_in_sequence w
