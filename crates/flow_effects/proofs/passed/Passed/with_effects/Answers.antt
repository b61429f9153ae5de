use Rattle.std.proofs.Common.{ap}
use Rattle.flow_effects.specs.Tables.{passage_in}
use Rattle.flow_effects.proofs.passed.Passed.with_effects.Goals as goal

pub returns : goal.returns
returns c = ap (λ t. passage_in t c.args.self.always) c.in_ok-table.ensures
