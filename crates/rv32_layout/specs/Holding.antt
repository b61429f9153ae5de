-- View of code: bytes as the code of lines, whatever machine has them.
use Rattle.std.specs.Prelude.{◌≡◌, ℕ, Bool, List, length}
use Rattle.rv32_machine.specs.Arrays.{Arrays, areas_of, byte_at}
use Rattle.core_lines.specs.declared.line.Line.{Line}
use Rattle.core_lines.specs.Lines.{HasLines, IsPlace}
use Rattle.core_lines.specs.Relaxed.{shortened}

-- Each line is said to be wide or not, and each machine whose code these bytes are has the lines from its code's first address on, where a conditional jump
-- that is
-- not wide is a branch alone, with each label at one place, to which a jump can go.
pub record IsCodeOf (lines : List Line) (bytes : List ℕ) : Type 0 where
  pub wide : List Bool
  pub each : length wide ≡ length lines
  pub places : ℕ → ℕ
  pub labels : (label : ℕ) → IsPlace (places label)
  pub has : (m : Arrays) → m.code ≡ bytes → HasLines (areas_of m) (byte_at m) places 0 (shortened wide lines)
