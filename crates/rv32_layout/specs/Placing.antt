-- View of code: what the parts of `place` say: where the table has a label, and what they append.
use Rattle.std.specs.Prelude.{◌≡◌, ℕ, ◌+◌, ◌%◌, ◌≤◌, Bool, true, ◌&&◌, List, [], ◌∷◌, ◌++◌, nat_eq, if◌then◌else◌, unwrap_or}
use Rattle.indexmap.specs.IndexMap.{get}
use Rattle.rv32_isa.specs.declared.instruction.Instr.{Instr}
use Rattle.core_lines.specs.declared.line.Line.{Line}
use Rattle.core_lines.specs.Lines.{size_of, code_length}
use Rattle.core_lines.specs.Relaxed.{place_of, is_in_reach, AllReach}
use Rattle.core_lines.specs.declared.line.Line.TheVariants.{Plain, Label, Jump, JumpUnless, BranchUnless, CallTo}
use Rattle.cyc_image.specs.Format.{code_limit}
use Rattle.rv32_select.specs.Beginning.{begins_within}
use Rattle.rv32_layout.specs.Placed.{AreWords}
use Rattle.rv32_layout.specs.declared.places.Places.{Places}

-- where the table has a label
abbrev pub place_in : Places → ℕ → ℕ
place_in places label = unwrap_or (get nat_eq places.by_label label) places.end

-- a jump at an address, within the greatest code, can go to the place
pub record IsInReach (place at : ℕ) : Type 0 where
  pub word : at % 4 ≡ 0
  pub within : at + 4 ≤ code_limit
  pub place_word : place % 4 ≡ 0
  pub place_within : place ≤ code_limit
  pub forward : place ≤ at + 1048574

-- a branch at an address, within the greatest code, can go to the place
pub record IsInBranch (place at : ℕ) : Type 0 where
  pub word : at % 4 ≡ 0
  pub within : at + 4 ≤ code_limit
  pub place_word : place % 4 ≡ 0
  pub place_within : place ≤ code_limit
  pub near : is_in_reach place at ≡ true

-- the jump of a line at an address can go to its label
abbrev pub Reaches : (ℕ → ℕ) → ℕ → Line → Type 0
Reaches places at (Plain instr) = Unit {0}
Reaches places at (Label label) = Unit {0}
Reaches places at (Jump label) = IsInReach (places label) at
Reaches places at (JumpUnless comparison label) = IsInReach (places label) (at + 4)
Reaches places at (BranchUnless comparison label) = IsInBranch (places label) at
Reaches places at (CallTo label) = IsInReach (places label) at

-- a line at an address is no branch alone, or one that reaches its label
abbrev pub reaches : (ℕ → ℕ) → ℕ → Line → Bool
reaches places at (Plain instr) = true
reaches places at (Label label) = true
reaches places at (Jump label) = true
reaches places at (JumpUnless comparison label) = true
reaches places at (BranchUnless comparison label) = is_in_reach (places label) at
reaches places at (CallTo label) = true

abbrev pub all_reach : (ℕ → ℕ) → ℕ → List Line → Bool
all_reach places at [] = true
all_reach places at (line ∷ lines) = reaches places at line && all_reach places (at + size_of line) lines

-- a line as a round leaves it at an address: a branch alone that doesn't reach its label becomes a branch over a jump
abbrev pub lengthen : (ℕ → ℕ) → ℕ → Line → Line
lengthen places at (Plain instr) = Plain instr
lengthen places at (Label label) = Label label
lengthen places at (Jump label) = Jump label
lengthen places at (JumpUnless comparison label) = JumpUnless comparison label
lengthen places at (BranchUnless comparison label) =
    (if is_in_reach (places label) at then BranchUnless comparison label else JumpUnless comparison label)
lengthen places at (CallTo label) = CallTo label

abbrev pub lengthened : (ℕ → ℕ) → ℕ → List Line → List Line
lengthened places at [] = []
lengthened places at (line ∷ lines) = lengthen places at line ∷ lengthened places (at + size_of line) lines

-- lines whose jumps, calls and branches all reach their labels, and the table of where these stand
pub record ArePlaceable (lines : List Line) (places : Places) : Type 0 where
  pub within : code_length lines ≤ code_limit
  pub begins : begins_within lines ≡ true
  pub reach : AllReach (place_of lines) 0 lines
  pub table : (label : ℕ) → place_in places label ≡ place_of lines label

-- the instructions' words are appended to the bytes
pub record Appends (instrs : List Instr) (old new : List ℕ) : Type 0 where
  pub words : List ℕ
  pub appended : new ≡ old ++ words
  pub spelled : AreWords instrs words
