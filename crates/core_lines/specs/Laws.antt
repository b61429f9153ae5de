-- Believed, for this crate's laws: what holds of all programs of Core.
use Rattle.core_meaning.specs.Core.{Program}
use Rattle.core_lines.specs.Choosing.{far}
use Rattle.core_lines.specs.Selected.{program_code}
use Rattle.core_lines.specs.Promise.{AreLinesOf}

-- the lines that are selected, in which each conditional jump is of two words, are lines of their program
abbrev pub LinesDoAsCore : Type 0
LinesDoAsCore = (p : Program) → AreLinesOf p (program_code far p)
