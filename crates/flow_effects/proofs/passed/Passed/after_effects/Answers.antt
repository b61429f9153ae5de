use Rattle.std.proofs.Common.{ap}
use Rattle.flow_effects.specs.Tables.{faults_in}
use Rattle.flow_effects.proofs.passed.Passed.after_effects.Goals as goal

pub returns : goal.returns
returns c = ap (λ t. faults_in t c.args.self.always) c.in_ok-table.ensures
