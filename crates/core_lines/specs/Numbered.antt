-- Believed: how code makes a word of a comparison with a number that an instruction has room for.
use Rattle.std.specs.Prelude.{ℕ, pos, ◌-◌, ◌%◌, ◌^◌, Bool, List, [], ◌∷◌}
use Rattle.rv32_isa.specs.declared.instruction.Instr.TheVariants.{Addi, Slti, Sltu, Sltiu, Xori}
use Rattle.core_lines.specs.declared.comparison.Condition.{Condition}
use Rattle.core_lines.specs.declared.comparison.Condition.TheVariants.{Equal, NotEqual, Less, NotLess, LessUnsigned, NotLessUnsigned}
use Rattle.core_lines.specs.declared.line.Line.{Line}
use Rattle.core_lines.specs.declared.line.Line.TheVariants.{Plain}
use Rattle.core_lines.specs.Frames.{lower_of, is_short}

-- a number with its sign turned, as a word
abbrev pub turned : ℕ → ℕ
turned n = (2 ^ 32 - n) % 2 ^ 32

-- whether an instruction has room for the second word of a comparison: of one for equality, which is a difference, for that word with its sign turned
abbrev pub has_room : Condition → ℕ → Bool
has_room Equal n = is_short (turned n)
has_room NotEqual n = is_short (turned n)
has_room Less n = is_short n
has_room NotLess n = is_short n
has_room LessUnsigned n = is_short n
has_room NotLessUnsigned n = is_short n

-- 1 into a register where a comparison of a register's word with such a number holds, and else 0
abbrev pub short_on : Condition → (to left n : ℕ) → List Line
short_on Equal to left n = Plain (Addi to left (lower_of (turned n))) ∷ Plain (Sltiu to to (pos 1)) ∷ []
short_on NotEqual to left n = Plain (Addi to left (lower_of (turned n))) ∷ Plain (Sltu to 0 to) ∷ []
short_on Less to left n = Plain (Slti to left (lower_of n)) ∷ []
short_on NotLess to left n = Plain (Slti to left (lower_of n)) ∷ Plain (Xori to to (pos 1)) ∷ []
short_on LessUnsigned to left n = Plain (Sltiu to left (lower_of n)) ∷ []
short_on NotLessUnsigned to left n = Plain (Sltiu to left (lower_of n)) ∷ Plain (Xori to to (pos 1)) ∷ []
