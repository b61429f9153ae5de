use Rattle.std.proofs.Common.{refl, sym}
use Rattle.flow_summaries.specs.Uses.{uses_as_place}
use Rattle.flow_check.proofs.suffixed.Suffixed.of.Goals as goal

pub returns : goal.returns
returns c = λ g p has e. record {
  judged = refl;
  uses = λ j. uses_as_place c.args.at (sym (c.is_moved-moves.ensures g has) j) c.args.own (sym e j);
  part = refl;
}
