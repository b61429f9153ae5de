-- Believed: what the branches of the machine test of two registers' words, and how code makes that a word.
use Rattle.std.specs.Prelude.{ℕ, ℤ, zero, suc, pos, Bool, not, nat_eq, nat_lt, List, [], ◌∷◌}
use Rattle.rv32_isa.specs.declared.instruction.Instr.{Instr}
use Rattle.rv32_isa.specs.declared.instruction.Instr.TheVariants.{Beq, Bne, Blt, Bge, Bltu, Bgeu, Sub, Slt, Sltu, Sltiu, Xori}
use Rattle.rv32_machine.specs.Step.{is_less}
use Rattle.core_lines.specs.declared.comparison.Condition.{Condition}
use Rattle.core_lines.specs.declared.comparison.Condition.TheVariants.{Equal, NotEqual, Less, NotLess, LessUnsigned, NotLessUnsigned}
use Rattle.core_lines.specs.declared.comparison.Comparison.{Comparison}
use Rattle.core_lines.specs.declared.line.Line.{Line}
use Rattle.core_lines.specs.declared.line.Line.TheVariants.{Plain}

-- whether a condition holds of two words
abbrev pub holds : Condition → ℕ → ℕ → Bool
holds Equal a b = nat_eq a b
holds NotEqual a b = not (nat_eq a b)
holds Less a b = is_less a b
holds NotLess a b = not (is_less a b)
holds LessUnsigned a b = nat_lt a b
holds NotLessUnsigned a b = not (nat_lt a b)

-- the condition that holds where another one doesn't
abbrev pub opposite : Condition → Condition
opposite Equal = NotEqual
opposite NotEqual = Equal
opposite Less = NotLess
opposite NotLess = Less
opposite LessUnsigned = NotLessUnsigned
opposite NotLessUnsigned = LessUnsigned

abbrev pub inverse : Comparison → Comparison
inverse c = record { condition = opposite c.condition; left = c.left; right = c.right }

-- the branch that is made where a comparison holds, by this offset in bytes
abbrev pub branch_on : Condition → (left right : ℕ) → ℤ → Instr
branch_on Equal left right offset = Beq left right offset
branch_on NotEqual left right offset = Bne left right offset
branch_on Less left right offset = Blt left right offset
branch_on NotLess left right offset = Bge left right offset
branch_on LessUnsigned left right offset = Bltu left right offset
branch_on NotLessUnsigned left right offset = Bgeu left right offset

abbrev pub branch_if : Comparison → ℤ → Instr
branch_if c offset = branch_on c.condition c.left c.right offset

-- 1 into a register where a comparison holds, and else 0
abbrev pub verdict_on : Condition → (to left right : ℕ) → List Line
verdict_on Equal to left zero = Plain (Sltiu to left (pos 1)) ∷ []
verdict_on Equal to left (suc right) = Plain (Sub to left (suc right)) ∷ Plain (Sltiu to to (pos 1)) ∷ []
verdict_on NotEqual to left zero = Plain (Sltu to 0 left) ∷ []
verdict_on NotEqual to left (suc right) = Plain (Sub to left (suc right)) ∷ Plain (Sltu to 0 to) ∷ []
verdict_on Less to left right = Plain (Slt to left right) ∷ []
verdict_on NotLess to left right = Plain (Slt to left right) ∷ Plain (Xori to to (pos 1)) ∷ []
verdict_on LessUnsigned to left right = Plain (Sltu to left right) ∷ []
verdict_on NotLessUnsigned to left right = Plain (Sltu to left right) ∷ Plain (Xori to to (pos 1)) ∷ []

abbrev pub verdict_code : ℕ → Comparison → List Line
verdict_code to c = verdict_on c.condition to c.left c.right
