use Rattle.std.proofs.Common.{rules}
use Rattle.flow_check.proofs.Within.{nothing_around}
use Rattle.flow_check.proofs.expressions.looked.Goals as goal

pub returns : goal.returns
returns c = λ g k ls. (c.in_ok-found.ensures g (nothing_around k ls (search rules) k.enclosing)).used.passed
