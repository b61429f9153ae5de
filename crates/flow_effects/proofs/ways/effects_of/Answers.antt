use Rattle.std.proofs.Common.{ap}
use Rattle.flow_effects.specs.Tables.{effects_in}
use Rattle.flow_effects.proofs.ways.effects_of.Goals as goal

pub returns : goal.returns
returns c = ap effects_in c.in_ok-effects.ensures
