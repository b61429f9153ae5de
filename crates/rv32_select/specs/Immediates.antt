-- View of code: one instruction or two that do an operation on a register and a number, or on two registers.
use Rattle.std.specs.Prelude.{ℕ, List, [], ◌∷◌, ◌++◌, Option, Some, None, Bool, true, false}
use Rattle.core_meaning.specs.Core as core
use Rattle.core_lines.specs.Held.{source_of}
use Rattle.core_lines.specs.Selected.{Surroundings, operand, has_operand, binary_code, immediate_for}
use Rattle.core_lines.specs.declared.line.Line.{Line}
use Rattle.core_lines.specs.declared.line.Line.TheVariants.{Plain}
use Rattle.cyc_core.specs.declared.operation.Binary.{Binary}
use Rattle.cyc_core.specs.declared.operation.Binary.TheVariants as binary
use Rattle.rv32_select.specs.declared.immediates.Instructions.{Instructions}
use Rattle.rv32_select.specs.declared.immediates.Instructions.TheVariants.{One, Two}

abbrev pub instruction_lines : Instructions → List Line
instruction_lines (One first) = Plain first ∷ []
instruction_lines (Two first second) = Plain first ∷ Plain second ∷ []

-- shifts, and the tests of whether two words are equal
abbrev pub is_shift : Binary → Bool
is_shift binary.Add = false
is_shift binary.Subtract = false
is_shift binary.Multiply = false
is_shift binary.Divide = false
is_shift binary.DivideUnsigned = false
is_shift binary.Remainder = false
is_shift binary.RemainderUnsigned = false
is_shift binary.And = false
is_shift binary.Or = false
is_shift binary.Xor = false
is_shift binary.ShiftLeft = true
is_shift binary.ShiftRight = true
is_shift binary.ShiftRightUnsigned = true
is_shift binary.Equal = false
is_shift binary.NotEqual = false
is_shift binary.Less = false
is_shift binary.LessEqual = false
is_shift binary.LessUnsigned = false
is_shift binary.LessEqualUnsigned = false

-- an operation on the word of a register and that of a temporary, into another register
abbrev pub with_lines : Surroundings → core.Binary → (to left y : ℕ) → Option (List Line) → List Line
with_lines u o to left y None = operand u 6 y ++ binary_code o to left (has_operand u 6 y)
with_lines u o to left y (Some lines) = lines

abbrev pub with_code : Surroundings → core.Binary → (to left y : ℕ) → List Line
with_code u o to left y = with_lines u o to left y (immediate_for o to left (source_of u.held y))
