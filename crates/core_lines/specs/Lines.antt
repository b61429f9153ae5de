-- Believed: what lines of code stand for: how long each is, its instructions, and when a machine's code has them.
use Rattle.std.specs.Prelude.{◌≡◌, ℕ, ℤ, pos, ◌+◌, ◌%◌, ◌≤◌, ◌^◌, ◌-ℤ◌, true, List, [], ◌∷◌, Some}
use Rattle.std.specs.Prelude.{false, nat_eq}
use Rattle.std.specs.List.{All}
use Rattle.rv32_isa.specs.Table.{decoded}
use Rattle.rv32_isa.specs.declared.instruction.Instr.{Instr}
use Rattle.rv32_isa.specs.declared.instruction.Instr.TheVariants.{Jal}
use Rattle.rv32_machine.specs.State.{Areas, code_base, is_within, word_at}
use Rattle.core_lines.specs.declared.line.Line.{Line}
use Rattle.core_lines.specs.declared.line.Line.TheVariants.{Plain, Label, Jump, JumpUnless, BranchUnless, CallTo}
use Rattle.core_lines.specs.Comparisons.{inverse, branch_if}

-- how many bytes a line takes
abbrev pub size_of : Line → ℕ
size_of (Plain instr) = 4
size_of (Label label) = 0
size_of (Jump label) = 4
size_of (JumpUnless comparison label) = 8
size_of (BranchUnless comparison label) = 4
size_of (CallTo label) = 4

abbrev pub code_length : List Line → ℕ
code_length [] = 0
code_length (line ∷ lines) = size_of line + code_length lines

-- from an address to a place
abbrev pub offset_to : ℕ → ℕ → ℤ
offset_to place at = pos place -ℤ pos at

-- The instructions of a line at an address, where `places` says where labels stand. A jump that is made unless a comparison holds is a branch over a jump,
-- made where it holds, since a branch doesn't go far enough; or a branch alone, made where it doesn't hold. A call keeps the address behind it in x1.
abbrev pub instructions_of : (ℕ → ℕ) → ℕ → Line → List Instr
instructions_of places at (Plain instr) = instr ∷ []
instructions_of places at (Label label) = []
instructions_of places at (Jump label) = Jal 0 (offset_to (places label) at) ∷ []
instructions_of places at (JumpUnless comparison label) = branch_if comparison (pos 8) ∷ Jal 0 (offset_to (places label) (at + 4)) ∷ []
instructions_of places at (BranchUnless comparison label) = branch_if (inverse comparison) (offset_to (places label) at) ∷ []
instructions_of places at (CallTo label) = Jal 1 (offset_to (places label) at) ∷ []

-- the word at an address of the code is the instruction's
pub record HasInstr (n : Areas) (bytes : ℕ → ℕ) (at : ℕ) (instr : Instr) : Type 0 where
  pub within : is_within code_base n.code at 4 ≡ true
  pub decodes : decoded (word_at bytes at) ≡ Some instr

-- those from an address on are the instructions'
abbrev pub HasInstrs : Areas → (ℕ → ℕ) → ℕ → List Instr → Type 0
HasInstrs n bytes at [] = Unit {0}
HasInstrs n bytes at (instr ∷ instrs) = HasInstr n bytes at instr × HasInstrs n bytes (at + 4) instrs

-- a label that a line places stands at that line
abbrev pub StandsAt : (ℕ → ℕ) → ℕ → Line → Type 0
StandsAt places at (Plain instr) = Unit {0}
StandsAt places at (Label label) = places label ≡ at
StandsAt places at (Jump label) = Unit {0}
StandsAt places at (JumpUnless comparison label) = Unit {0}
StandsAt places at (BranchUnless comparison label) = Unit {0}
StandsAt places at (CallTo label) = Unit {0}

-- The code has the lines from a place on, in bytes behind its first address, where `places` says where labels stand.
abbrev pub HasLines : Areas → (ℕ → ℕ) → (ℕ → ℕ) → ℕ → List Line → Type 0
HasLines n bytes places at [] = Unit {0}
HasLines n bytes places at (line ∷ lines) =
    HasInstrs n bytes (code_base + at) (instructions_of places at line) × StandsAt places at line × HasLines n bytes places (at + size_of line) lines

-- a jump can go to a place: it is that of a word, within the greatest code or right behind it
pub record IsPlace (place : ℕ) : Type 0 where
  pub aligned : place % 4 ≡ 0
  pub within : place ≤ 2 ^ 20

-- the labels that lines place, in their order
abbrev pub labels_placed : List Line → List ℕ
labels_placed [] = []
labels_placed (Plain instr ∷ lines) = labels_placed lines
labels_placed (Label label ∷ lines) = label ∷ labels_placed lines
labels_placed (Jump label ∷ lines) = labels_placed lines
labels_placed (JumpUnless comparison label ∷ lines) = labels_placed lines
labels_placed (BranchUnless comparison label ∷ lines) = labels_placed lines
labels_placed (CallTo label ∷ lines) = labels_placed lines

-- no label stands twice
abbrev pub AreOnce : List ℕ → Type 0
AreOnce [] = Unit {0}
AreOnce (label ∷ labels) = All (λ other. nat_eq label other ≡ false) labels × AreOnce labels
