-- Believed: what is promised of the lines of a program of Core, whichever they are.
use Rattle.std.specs.Prelude.{◌≡◌, ◌≤◌, ◌<◌, Bool, List, length}
use Rattle.core_meaning.specs.Core.{Program}
use Rattle.core_meaning.specs.Bounds.{core_code}
use Rattle.core_lines.specs.declared.line.Line.{Line}
use Rattle.core_lines.specs.Lines.{code_length, labels_placed, AreOnce}
use Rattle.core_lines.specs.Relaxed.{shortened}
use Rattle.core_meaning.specs.Selectable.{IsSelectable}
use Rattle.core_lines.specs.Running.{DoesAsCore}

-- No label stands twice in the lines. They have at least one word, and at most the bytes that the program's operations count for, where a conditional jump
-- counts as two words. A machine that begins with the lines does what the program does, if the program's numbers name what there is. That holds for each
-- choice of the conditional jumps that are of two words, where the others are branches alone.
pub record AreLinesOf (p : Program) (lines : List Line) : Type 0 where
  pub once : AreOnce (labels_placed lines)
  pub some : 0 < code_length lines
  pub within : code_length lines ≤ core_code p
  pub does : IsSelectable p → (wide : List Bool) → length wide ≡ length lines → DoesAsCore p (shortened wide lines)
