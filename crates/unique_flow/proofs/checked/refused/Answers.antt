use Rattle.std.proofs.Common.{ap}
use Rattle.source_typing.specs.Faults.{fault}
use Rattle.check_faults.specs.Faults.{number_of}
use Rattle.check_faults.specs.declared.fault.FaultKind.{FaultKind}
use Rattle.unique_flow.proofs.checked.refused.Goals as goal

pub returns-in-Consumed : goal.returns-in-Consumed
returns-in-Consumed c = ap (λ (k : FaultKind). fault (number_of k) c.args.fault.at) c.in-Consumed.is

pub returns-in-Lent : goal.returns-in-Lent
returns-in-Lent c = ap (λ (k : FaultKind). fault (number_of k) c.args.fault.at) c.in-Lent.is

pub returns-in-Copy : goal.returns-in-Copy
returns-in-Copy c = ap (λ (k : FaultKind). fault (number_of k) c.args.fault.at) c.in-Copy.is
