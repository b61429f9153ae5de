use Rattle.cycc_driver.proofs.Exactness.{same_program, accepted_or_refused, accepted_or_imageless}
use Rattle.cycc_driver.proofs.compiling.accepted_or_refused.Goals as goal

pub returns : goal.returns
returns c = record {
  one = same_program;
  checked = accepted_or_refused;
  compiled = accepted_or_imageless;
}
