use Rattle.cycc_driver.proofs.OneFault.{one_refused, one_imageless}
use Rattle.cycc_driver.proofs.compiling.one_fault.Goals as goal

pub returns : goal.returns
returns c = record { checked = one_refused; compiled = one_imageless }
