use Rattle.std.proofs.Common.{refl}
use Rattle.flow_effects.specs.Passed.{passage_of}
use Rattle.flow_check.proofs.joining.counted.Goals as goal

pub returns : goal.returns
returns c = λ how. record {
  judged = c.counted_part-judged.ensures;
  used = c.value-used.ensures how (passage_of c.args.operand.used.passed) refl;
}
