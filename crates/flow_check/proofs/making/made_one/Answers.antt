use Rattle.flow_summaries.specs.Passages.{in_turn}
use Rattle.flow_effects.specs.Passed.{passage_of}
use Rattle.flow_check.proofs.making.made_one.Goals as goal

pub returns : goal.returns
returns c = λ how. record {
  judged = c.in_ok-judged.ensures;
  used = c.value-used.ensures how (in_turn (passage_of c.args.handle) (passage_of c.args.value.used.passed)) c.in_turn-passed.ensures;
}
