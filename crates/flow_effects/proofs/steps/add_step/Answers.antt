use Rattle.std.proofs.Common.{ap, sym, ◌∙◌}
use Rattle.flow_effects.specs.Steps.{all_before}
use Rattle.flow_effects.proofs.Sequences.{before_more}
use Rattle.flow_effects.proofs.steps.add_step.Goals as goal

-- a step that does nothing is left out
pub returns-then-does_nothing : goal.returns-then-does_nothing
returns-then-does_nothing c w =
    let steps = c.args.steps.now.items in
    sym (before_more steps c.args.step w ∙ ap (all_before steps) (c.does_nothing.ensures c.if-does_nothing.true w))
