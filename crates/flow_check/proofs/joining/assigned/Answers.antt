use Rattle.flow_summaries.specs.Passages.{in_turn}
use Rattle.flow_effects.specs.Passed.{passage_of}
use Rattle.flow_check.proofs.joining.assigned.Goals as goal

pub returns : goal.returns
returns c = λ g how sees. record {
  judged = c.in_ok-judged.ensures g sees;
  used = c.value-used.ensures how (in_turn (passage_of c.args.from.used.passed) (passage_of c.args.to.used.passed)) c.in_turn-passed.ensures;
}
