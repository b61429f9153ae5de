use Rattle.std.proofs.Common.{refl}
use Rattle.flow_effects.specs.Passed.{passage_of}
use Rattle.flow_check.proofs.joining.made_union.Goals as goal

pub returns : goal.returns
returns c = λ g how h. record {
  judged = c.in_ok-judged.ensures g h;
  used = c.value-used.ensures how (passage_of c.args.value.used.passed) refl;
}
