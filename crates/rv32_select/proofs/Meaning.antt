-- The lines of a program's definition are lines of the program.
use Rattle.std.proofs.Common.{◌≡◌, List, sym, subst}
use Rattle.core_meaning.specs.Core.{Program}
use Rattle.core_lines.specs.declared.line.Line.{Line}
use Rattle.core_lines.specs.Choosing.{far}
use Rattle.core_lines.specs.Selected.{program_code}
use Rattle.core_lines.specs.Promise.{AreLinesOf}
use Rattle.core_lines.proofs.Promised.{lines_do_as_core}

pub lines_are : (p : Program) (lines : List Line) → lines ≡ program_code far p → AreLinesOf p lines
lines_are p lines is = subst (λ ls. AreLinesOf p ls) (sym is) (lines_do_as_core p)
