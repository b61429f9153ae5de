use Rattle.std.proofs.Common.{ap₂}
use Rattle.flow_effects.specs.Tables.{passage_in}
use Rattle.flow_effects.proofs.passed.Passed.met.Goals as goal

pub returns : goal.returns
returns c = ap₂ passage_in c.in_ok-table.ensures c.sooner.ensures
