use Rattle.flow_summaries.specs.Passages.{in_turn}
use Rattle.flow_effects.specs.Passed.{passage_of}
use Rattle.flow_effects.specs.declared.used.Usage.TheVariants as usage
use Rattle.flow_check.proofs.joining.applied.Goals as goal

pub returns-clause-passed : goal.returns-clause-passed
returns-clause-passed c =
    (c.value-used.ensures usage.Look (in_turn (passage_of c.args.one.used.passed) (passage_of c.args.two.used.passed)) c.in_turn-passed.ensures).passed
