-- Believed: the lines that compute the result of an operation, from what is known of its operands.
use Rattle.std.specs.Prelude.{ℕ, Bool, zero, suc, pos, ◌%◌, List, [], ◌∷◌, ◌++◌, Option, Some, None, nat_eq, nat_lt, if◌then◌else◌}
use Rattle.rv32_isa.specs.declared.instruction.Instr.TheVariants as instr
use Rattle.core_meaning.specs.Core.{Binary, Add, Subtract, Multiply, Divide, DivideUnsigned, Remainder, RemainderUnsigned, And, Or, Xor, ShiftLeft, ShiftRight}
use Rattle.core_meaning.specs.Core.{ShiftRightUnsigned, Equal, NotEqual, Less, LessEqual, LessUnsigned, LessEqualUnsigned}
use Rattle.core_lines.specs.declared.line.Line.{Line}
use Rattle.core_lines.specs.declared.line.Line.TheVariants.{Plain}
use Rattle.core_lines.specs.Frames.{upper_of, lower_of, is_short, word_code, load_code, save_code, slot_of}
use Rattle.core_lines.specs.declared.comparison.Comparison.{Comparison}
use Rattle.core_lines.specs.declared.comparison.NumberComparison.{NumberComparison}
pub use Rattle.core_lines.specs.Numbered.{turned}
use Rattle.core_lines.specs.Held.{nth, nth_block, Source, Register, Number, Compared, ComparedWith, Holding, source_of, result_register}
use Rattle.core_lines.specs.Operands.{number_code, operand_in, operand_code, into_code, keep_code}
use Rattle.core_lines.specs.Operands.{number_kept, verdict_kept, numbered_kept, move_kept, stored_in, stored_code}

-- ---- operations

-- What the code of a statement needs of where it stands: how many words its function passes to callees at most, where its temporary objects lie, the offsets of
-- the locals of the blocks around it, the innermost block first, where the locals of a block within it would begin, where the program's data lie, and of which
-- temporaries it is known where else than in their slots their words are.
pub record Surroundings : Type 0 where
  pub wide : ℕ → Bool
  pub passed : ℕ
  pub exit : ℕ
  pub own : List ℕ
  pub blocks : List (List ℕ)
  pub homes : List (List ℕ)
  pub names : List ℕ
  pub low : ℕ
  pub statics : List ℕ
  pub held : List Holding

-- where a local of the block that is `out` blocks out lies in the frame
abbrev pub local_offset : Surroundings → ℕ → ℕ → ℕ
local_offset u out local = nth (nth_block u.blocks out) local

-- its register, or 0
abbrev pub local_home : Surroundings → ℕ → ℕ → ℕ
local_home u out local = nth (nth_block u.homes out) local

abbrev pub from_temp : Surroundings → ℕ → ℕ → List Line
from_temp u register t = load_code register (slot_of u.passed t)

abbrev pub to_temp : Surroundings → ℕ → ℕ → List Line
to_temp u register t = save_code register (slot_of u.passed t)

-- The register 7 gets the address that is `w` bytes behind a register's, less its low part, which the load or store adds.
abbrev pub far_code : ℕ → ℕ → List Line
far_code from w = Plain (instr.Lui 7 (upper_of w)) ∷ Plain (instr.Add 7 7 from) ∷ []

-- loads a byte or a word into a register, from the address that is `w` bytes behind another's
abbrev pub read_line : ℕ → ℕ → ℕ → ℕ → Line
read_line to width from w = (if nat_eq width 1 then Plain (instr.Lbu to from (lower_of w)) else Plain (instr.Lw to from (lower_of w)))

abbrev pub read_code : ℕ → ℕ → ℕ → ℕ → List Line
read_code to width from w = (if is_short w then read_line to width from w ∷ [] else far_code from w ++ (read_line to width 7 w ∷ []))

-- stores a register's byte or word, to the address that is `w` bytes behind another's
abbrev pub write_line : ℕ → ℕ → ℕ → ℕ → Line
write_line value width from w = (if nat_eq width 1 then Plain (instr.Sb from value (lower_of w)) else Plain (instr.Sw from value (lower_of w)))

abbrev pub write_code : ℕ → ℕ → ℕ → ℕ → List Line
write_code value width from w = (if is_short w then write_line value width from w ∷ [] else far_code from w ++ (write_line value width 7 w ∷ []))

-- 1 for 0 and 0 for 1
abbrev pub inverted : ℕ → Line
inverted to = Plain (instr.Xori to to (pos 1))

-- an operation on the words of two registers, into one
abbrev pub binary_code : Binary → (to left right : ℕ) → List Line
binary_code Add to left right = Plain (instr.Add to left right) ∷ []
binary_code Subtract to left right = Plain (instr.Sub to left right) ∷ []
binary_code Multiply to left right = Plain (instr.Mul to left right) ∷ []
binary_code Divide to left right = Plain (instr.Div to left right) ∷ []
binary_code DivideUnsigned to left right = Plain (instr.Divu to left right) ∷ []
binary_code Remainder to left right = Plain (instr.Rem to left right) ∷ []
binary_code RemainderUnsigned to left right = Plain (instr.Remu to left right) ∷ []
binary_code And to left right = Plain (instr.And to left right) ∷ []
binary_code Or to left right = Plain (instr.Or to left right) ∷ []
binary_code Xor to left right = Plain (instr.Xor to left right) ∷ []
binary_code ShiftLeft to left right = Plain (instr.Sll to left right) ∷ []
binary_code ShiftRight to left right = Plain (instr.Sra to left right) ∷ []
binary_code ShiftRightUnsigned to left right = Plain (instr.Srl to left right) ∷ []
binary_code Equal to left right = Plain (instr.Sub to left right) ∷ Plain (instr.Sltiu to to (pos 1)) ∷ []
binary_code NotEqual to left right = Plain (instr.Sub to left right) ∷ Plain (instr.Sltu to 0 to) ∷ []
binary_code Less to left right = Plain (instr.Slt to left right) ∷ []
binary_code LessEqual to left right = Plain (instr.Slt to right left) ∷ inverted to ∷ []
binary_code LessUnsigned to left right = Plain (instr.Sltu to left right) ∷ []
binary_code LessEqualUnsigned to left right = Plain (instr.Sltu to right left) ∷ inverted to ∷ []

-- The same where the second word is a number that an instruction has room for: one from -2,048 to 2,047 as it is or with its sign turned, or, for a shift, one
-- below 32. Of other operations there is none.
abbrev pub short_code : ℕ → List Line → Option (List Line)
short_code n lines = (if is_short n then Some lines else None)

abbrev pub shift_code : ℕ → List Line → Option (List Line)
shift_code n lines = (if nat_lt n 32 then Some lines else None)

-- as a difference
abbrev pub difference_code : (to left n : ℕ) → List Line → Option (List Line)
difference_code to left n lines = short_code (turned n) (Plain (instr.Addi to left (lower_of (turned n))) ∷ lines)

abbrev pub immediate_code : Binary → (to left n : ℕ) → Option (List Line)
immediate_code Add to left n = short_code n (Plain (instr.Addi to left (lower_of n)) ∷ [])
immediate_code Subtract to left n = difference_code to left n []
immediate_code And to left n = short_code n (Plain (instr.Andi to left (lower_of n)) ∷ [])
immediate_code Or to left n = short_code n (Plain (instr.Ori to left (lower_of n)) ∷ [])
immediate_code Xor to left n = short_code n (Plain (instr.Xori to left (lower_of n)) ∷ [])
immediate_code ShiftLeft to left n = shift_code n (Plain (instr.Slli to left n) ∷ [])
immediate_code ShiftRight to left n = shift_code n (Plain (instr.Srai to left n) ∷ [])
immediate_code ShiftRightUnsigned to left n = shift_code n (Plain (instr.Srli to left n) ∷ [])
immediate_code Equal to left zero = Some (Plain (instr.Sltiu to left (pos 1)) ∷ [])
immediate_code Equal to left (suc n) = difference_code to left (suc n) (Plain (instr.Sltiu to to (pos 1)) ∷ [])
immediate_code NotEqual to left zero = Some (Plain (instr.Sltu to 0 left) ∷ [])
immediate_code NotEqual to left (suc n) = difference_code to left (suc n) (Plain (instr.Sltu to 0 to) ∷ [])
immediate_code Less to left n = short_code n (Plain (instr.Slti to left (lower_of n)) ∷ [])
immediate_code LessUnsigned to left n = short_code n (Plain (instr.Sltiu to left (lower_of n)) ∷ [])
immediate_code Multiply to left n = None
immediate_code Divide to left n = None
immediate_code DivideUnsigned to left n = None
immediate_code Remainder to left n = None
immediate_code RemainderUnsigned to left n = None
immediate_code LessEqual to left n = None
immediate_code LessEqualUnsigned to left n = None

-- by where the second word is
abbrev pub immediate_for : Binary → (to left : ℕ) → Option Source → Option (List Line)
immediate_for o to left None = None
immediate_for o to left (Some (Register r)) = None
immediate_for o to left (Some (Number n)) = immediate_code o to left n
immediate_for o to left (Some (Compared c)) = None
immediate_for o to left (Some (ComparedWith n)) = None

-- the address that is `w` bytes behind x2's, into a register
abbrev pub address_code : ℕ → ℕ → List Line
address_code to w =
    (if is_short w then Plain (instr.Addi to 2 (lower_of w)) ∷ [] else word_code to w ++ (Plain (instr.Add to to 2) ∷ []))

-- a register's word plus a number of bytes, into another: by way of x7, where the bytes are no short word
abbrev pub further_code : ℕ → ℕ → ℕ → List Line
further_code to from bytes =
    (if is_short bytes then Plain (instr.Addi to from (lower_of bytes)) ∷ [] else word_code 7 bytes ++ (Plain (instr.Add to 7 from) ∷ []))

-- ---- operands and results

abbrev pub operand : Surroundings → ℕ → ℕ → List Line
operand u spare t = operand_code u.passed u.held spare t

abbrev pub has_operand : Surroundings → ℕ → ℕ → ℕ
has_operand u spare t = operand_in u.held spare t

-- an operation on the words of two temporaries, into a register
abbrev pub both_code : Surroundings → Binary → (to x y : ℕ) → Option (List Line) → List Line
both_code u o to x y None = operand u 5 x ++ operand u 6 y ++ binary_code o to (has_operand u 5 x) (has_operand u 6 y)
both_code u o to x y (Some lines) = operand u 5 x ++ lines

abbrev pub apply_code : Surroundings → Binary → (to x y : ℕ) → List Line
apply_code u o to x y = both_code u o to x y (immediate_for o to (has_operand u 5 x) (source_of u.held y))

-- the result of an operation, which is in its temporary's register
abbrev pub keep_result : Bool → Surroundings → ℕ → List Line
keep_result keeps u t = keep_code keeps u.passed (result_register t) t

-- an operation on two words, which may be a comparison of two registers
abbrev pub computed_kept : Bool → Surroundings → Binary → (t x y : ℕ) → Option Comparison → List Line
computed_kept keeps u o t x y None = apply_code u o (result_register t) x y ++ keep_result keeps u t
computed_kept keeps u o t x y (Some c) = verdict_kept keeps u.passed t c

-- or of a register and a number
abbrev pub judged_kept : Bool → Surroundings → Binary → (t x y : ℕ) → Option NumberComparison → Option Comparison → List Line
judged_kept keeps u o t x y None c = computed_kept keeps u o t x y c
judged_kept keeps u o t x y (Some n) c = numbered_kept keeps u.passed t n

-- and which is a move where it gives one of them
abbrev pub applied_kept : Bool → Surroundings → Binary → (t x y : ℕ) → Option ℕ → Option NumberComparison → Option Comparison → List Line
applied_kept keeps u o t x y None n c = judged_kept keeps u o t x y n c
applied_kept keeps u o t x y (Some z) n c = move_kept keeps u.passed (result_register t) t z (source_of u.held z)

-- the lowest byte of a word, which may be known to be a number
abbrev pub narrow_kept : Bool → Surroundings → (t x : ℕ) → Option ℕ → List Line
narrow_kept keeps u t x None =
    operand u 5 x ++ (Plain (instr.Andi (result_register t) (has_operand u 5 x) (pos 255)) ∷ []) ++ keep_result keeps u t
narrow_kept keeps u t x (Some w) = number_kept keeps u.passed t (w % 256)

-- whether a word is 0, which may be known to be a number or a comparison
abbrev pub null_kept : Bool → Surroundings → (t p : ℕ) → Option Source → List Line
null_kept keeps u t p None =
    operand u 5 p ++ (Plain (instr.Sltiu (result_register t) (has_operand u 5 p) (pos 1)) ∷ []) ++ keep_result keeps u t
null_kept keeps u t p (Some s) = move_kept keeps u.passed (result_register t) t p (Some s)

-- a local into a temporary, and back: where it lies in the frame, or in its register, of which a byte is kept as the word that it is
abbrev pub get_code : Bool → Surroundings → ℕ → ℕ → ℕ → ℕ → List Line
get_code keeps u zero t width offset = read_code (result_register t) width 2 offset ++ keep_result keeps u t
get_code keeps u (suc h) t width offset = keep_code keeps u.passed (suc h) t

abbrev pub byte_code : Surroundings → ℕ → ℕ → List Line
byte_code u h x = operand u 6 x ++ (Plain (instr.Andi h (has_operand u 6 x) (pos 255)) ∷ [])

abbrev pub put_code : Surroundings → ℕ → ℕ → ℕ → ℕ → List Line
put_code u zero width offset x = stored_code u.passed u.held 6 x ++ write_code (stored_in u.held 6 x) width 2 offset
put_code u (suc h) width offset x = (if nat_eq width 1 then byte_code u (suc h) x else into_code u.passed u.held (suc h) x)

-- the exponent of an element's bytes, where they are a small power of two
abbrev pub exponent_of : ℕ → Option ℕ
exponent_of bytes =
    (if nat_eq bytes 2 then Some 1 else (if nat_eq bytes 4 then Some 2 else (if nat_eq bytes 8 then Some 3 else (if nat_eq bytes 16 then Some 4 else None))))

-- as many times an element's bytes as a register says, into x5: by a shift where that does it
abbrev pub times_code : Option ℕ → (left bytes : ℕ) → List Line
times_code None left bytes = number_code 6 bytes ++ (Plain (instr.Mul 5 left 6) ∷ [])
times_code (Some exponent) left bytes = Plain (instr.Slli 5 left exponent) ∷ []

-- the address of an element, where each has this number of bytes
abbrev pub element_code : Surroundings → (to p i bytes : ℕ) → List Line
element_code u to p i bytes =
    (if nat_eq bytes 1 then operand u 5 i ++ operand u 6 p ++ (Plain (instr.Add to (has_operand u 5 i) (has_operand u 6 p)) ∷ []) else
    operand u 5 i ++ times_code (exponent_of bytes) (has_operand u 5 i) bytes ++ operand u 6 p ++
    (Plain (instr.Add to 5 (has_operand u 6 p)) ∷ []))
