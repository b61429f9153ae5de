-- Believed: the code of frames: words into registers, loads and saves of slots, calls of the environment, and what the first and last lines of functions are
-- made of.
use Rattle.std.specs.Prelude.{suc, ℕ, ℤ, pos, ◌-ℤ◌, ◌+◌, ◌*◌, ◌/◌, ◌%◌, ◌^◌, Bool, ◌||◌, nat_lt, nat_le, if◌then◌else◌, List, [], ◌∷◌, ◌++◌}
use Rattle.cyc_words.specs.declared.faults.Kind.{Kind}
use Rattle.cyc_words.specs.declared.faults.Kind.TheVariants.{NullException, ArrayBounds}
use Rattle.rv32_isa.specs.Numbers.{signed}
use Rattle.rv32_isa.specs.declared.instruction.Instr.TheVariants.{Lui, Jalr, Bgeu, Lw, Sw, Addi, Add, Sub, Ecall}
use Rattle.rv32_machine.specs.State.{stack_base}
use Rattle.core_lines.specs.declared.line.Line.{Line}
use Rattle.core_lines.specs.declared.line.Line.TheVariants.{Plain, Jump}

-- ---- words and slots

-- The upper part of a word and the lower one with its sign, from which LUI and ADDI put it together again.
abbrev pub upper_of : ℕ → ℕ
upper_of w = (w + 2048) % 2 ^ 32 / 2 ^ 12

abbrev pub lower_of : ℕ → ℤ
lower_of w = signed 12 (w % 2 ^ 12)

-- the lower part alone is the word
abbrev pub is_short : ℕ → Bool
is_short w = nat_lt w 2048 || nat_le 0xfffff800 w

-- a word into a register, by two instructions
abbrev pub word_code : ℕ → ℕ → List Line
word_code to w = Plain (Lui to (upper_of w)) ∷ Plain (Addi to to (lower_of w)) ∷ []

-- slot k of a frame stands 4 * k bytes from the stack pointer on
abbrev pub load_code : ℕ → ℕ → List Line
load_code to k =
    (if is_short (4 * k) then Plain (Lw to 2 (lower_of (4 * k))) ∷ []
    else Plain (Lui 7 (upper_of (4 * k))) ∷ Plain (Add 7 7 2) ∷ Plain (Lw to 7 (lower_of (4 * k))) ∷ [])

abbrev pub save_code : ℕ → ℕ → List Line
save_code from k =
    (if is_short (4 * k) then Plain (Sw 2 from (lower_of (4 * k))) ∷ []
    else Plain (Lui 7 (upper_of (4 * k))) ∷ Plain (Add 7 7 2) ∷ Plain (Sw 7 from (lower_of (4 * k))) ∷ [])

-- ---- frames: slot 0 has the return address, the next `passed` the words for a callee, then come the temporaries

abbrev pub slot_of : ℕ → ℕ → ℕ
slot_of passed t = 1 + passed + t

-- a call of the environment
abbrev pub environment_code : ℕ → List Line
environment_code number = Plain (Addi 17 0 (pos number)) ∷ Plain Ecall ∷ []

-- an exception, by the number of its kind
abbrev pub kind_number : Kind → ℕ
kind_number NullException = 1
kind_number ArrayBounds = 2

-- it is raised: the kind's number is the call's argument
abbrev pub raise_code : Kind → List Line
raise_code kind = (Plain (Addi 10 0 (pos (kind_number kind))) ∷ []) ++ environment_code 3

-- x3 is the address where the stack begins: a program's first line puts it there, and no other line changes x3
abbrev pub stack_start_code : List Line
stack_start_code = Plain (Lui 3 (upper_of stack_base)) ∷ []

-- A frame below 2,048 bytes is taken first, and then x2 is compared with the stack's start. It was there or above, which is far above 2,048, so x2 doesn't
-- wrap. Where it is below the start now, the stack has fewer bytes left than the frame's: these come into x10, and the stack is refused at a label.
abbrev pub small_frame_code : (refused : ℕ) → ℕ → List Line
small_frame_code refused bytes =
    Plain (Addi 2 2 (pos 0 -ℤ pos bytes)) ∷ Plain (Bgeu 2 3 (pos 12)) ∷ Plain (Addi 10 0 (pos bytes)) ∷ Jump refused ∷ []

-- what stands at that label, once in a program: x2 goes up again by the bytes in x10, and the stack is refused
abbrev pub refusal_code : List Line
refusal_code = (Plain (Add 2 2 10) ∷ []) ++ environment_code 13

-- A larger one might make x2 wrap. So the stack is refused first, where fewer bytes than the frame's are left of it; then x2 goes down.
abbrev pub test_code : ℕ → List Line
test_code bytes =
    word_code 6 (stack_base + bytes) ++ (Plain (Bgeu 2 6 (pos 20)) ∷ []) ++ word_code 10 bytes ++ environment_code 13

abbrev pub move_code : ℕ → List Line
move_code bytes = word_code 7 bytes ++ (Plain (Sub 2 2 7) ∷ [])

-- a frame is taken: ADDI has room for a small one's bytes, and for their negative
abbrev pub frame_code : (refused : ℕ) → ℕ → List Line
frame_code refused bytes = (if nat_lt bytes 2048 then small_frame_code refused bytes else test_code bytes ++ move_code bytes)

-- and given back
abbrev pub give_code : ℕ → List Line
give_code bytes =
    (if nat_lt bytes 2048 then Plain (Addi 2 2 (pos bytes)) ∷ []
    else word_code 7 bytes ++ (Plain (Add 2 2 7) ∷ []))

-- registers into slots from one on, and back
abbrev pub saves_code : ℕ → List ℕ → List Line
saves_code k [] = []
saves_code k (r ∷ rs) = save_code r k ++ saves_code (suc k) rs

abbrev pub restores_code : ℕ → List ℕ → List Line
restores_code k [] = []
restores_code k (r ∷ rs) = load_code r k ++ restores_code (suc k) rs

abbrev pub leave_code : ℕ → List Line
leave_code bytes = load_code 1 0 ++ give_code bytes ++ (Plain (Jalr 0 1 (pos 0)) ∷ [])

-- where the function ends: the registers that it saved come back, and the frame is given back
abbrev pub epilogue_code : ℕ → ℕ → List ℕ → List Line
epilogue_code bytes first saved = restores_code first saved ++ leave_code bytes
