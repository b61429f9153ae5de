use Rattle.cyc_parser.proofs.WholePrograms.{one_program}
use Rattle.cyc_parser.proofs.item.one_program.Goals as goal

pub returns : goal.returns
returns c = one_program
