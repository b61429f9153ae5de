-- Believed: placed code: the instructions that the lines stand for, one after the other, each as its word.
use Rattle.std.specs.Prelude.{◌≡◌, ℕ, ◌+◌, ◌^◌, ◌<◌, List, [], ◌∷◌, ◌++◌, Some}
use Rattle.cyc_image.specs.Format.{u32_bytes}
use Rattle.rv32_isa.specs.Table.{decoded}
use Rattle.rv32_isa.specs.declared.instruction.Instr.{Instr}
use Rattle.core_lines.specs.declared.line.Line.{Line}
use Rattle.core_lines.specs.Lines.{size_of, instructions_of}
use Rattle.core_lines.specs.Relaxed.{place_of}

-- the instructions of all lines, the first of which is at an address
abbrev pub instructions_from : (ℕ → ℕ) → ℕ → List Line → List Instr
instructions_from places at [] = []
instructions_from places at (line ∷ lines) = instructions_of places at line ++ instructions_from places (at + size_of line) lines

-- the bytes are the instruction's word, the one that decodes to it
pub record IsWord (instr : Instr) (bytes : List ℕ) : Type 0 where
  pub word : ℕ
  pub is_word : word < 2 ^ 32
  pub spelled : bytes ≡ u32_bytes word
  pub decodes : decoded word ≡ Some instr

-- the bytes are the instructions' words, one after the other
abbrev pub AreWords : List Instr → List ℕ → Type 0
AreWords [] bytes = bytes ≡ []
AreWords (instr ∷ instrs) bytes = (front : List ℕ) × (rest : List ℕ) × (bytes ≡ front ++ rest) × IsWord instr front × AreWords instrs rest

-- the bytes are the code of the lines
abbrev pub ArePlaced : List Line → List ℕ → Type 0
ArePlaced lines bytes = AreWords (instructions_from (place_of lines) 0 lines) bytes

-- the bytes are words of instructions, one after the other
abbrev pub AreInstructions : List ℕ → Type 0
AreInstructions bytes = (instrs : List Instr) × AreWords instrs bytes
