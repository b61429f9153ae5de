use Rattle.std.proofs.Common.{refl}
use Rattle.flow_check.proofs.seen.Seen.as_value.Goals as goal

pub returns : goal.returns
returns c = λ how p passed. record {
  judged = refl;
  used = c.value-used.ensures how p passed;
}
