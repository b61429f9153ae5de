use Rattle.std.proofs.Common.{None, ap}
use Rattle.flow_effects.specs.Tables.{passage_in}
use Rattle.flow_effects.proofs.passed.Passed.nothing.Goals as goal

pub returns : goal.returns
returns c = ap (λ t. passage_in t None) c.nothing.ensures
