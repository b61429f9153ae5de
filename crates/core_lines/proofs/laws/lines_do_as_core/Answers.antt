use Rattle.core_lines.proofs.Promised.{lines_do_as_core}
use Rattle.core_lines.proofs.laws.lines_do_as_core.Goals as goal

pub returns : goal.returns
returns c = lines_do_as_core
