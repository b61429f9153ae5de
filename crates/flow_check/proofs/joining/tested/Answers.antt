use Rattle.flow_summaries.specs.Passages.{in_turn_or_not}
use Rattle.flow_effects.specs.Passed.{passage_of}
use Rattle.flow_effects.specs.declared.used.Usage.TheVariants as usage
use Rattle.flow_check.proofs.joining.tested.Goals as goal

pub returns-clause-passed : goal.returns-clause-passed
returns-clause-passed c =
    (c.value-used.ensures usage.Look (in_turn_or_not (passage_of c.args.one.used.passed) (passage_of c.args.two.used.passed))
    c.in_turn_or_not-passed.ensures).passed
