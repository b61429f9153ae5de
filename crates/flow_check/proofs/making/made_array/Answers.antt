use Rattle.std.proofs.Common.{ap₂, ◌∙◌}
use Rattle.flow_summaries.specs.Passages.{in_turn, repeated}
use Rattle.flow_effects.specs.Passed.{passage_of}
use Rattle.flow_check.proofs.making.made_array.Goals as goal

pub returns : goal.returns
returns c = λ how. record {
  judged = c.in_ok-judged.ensures;
  used = c.value-used.ensures how
      (in_turn (in_turn (passage_of c.args.handle) (passage_of c.args.count.used.passed))
      (repeated c.args.locals (passage_of c.args.element.used.passed)))
      (c.in_turn-passed.ensures ∙ ap₂ in_turn c.in_turn.ensures c.repeated-elements.ensures);
}
