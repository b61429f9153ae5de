-- Believed: which jumps of lines are branches alone: each begins as one, those that don't reach their labels become branches over jumps, and so on until all
-- reach.
use Rattle.std.specs.Prelude.{◌≡◌, ℕ, zero, suc, ◌+◌, Bool, true, false, not, ◌||◌, ◌&&◌, nat_eq, nat_le, if◌then◌else◌, List, [], ◌∷◌, length}
use Rattle.core_lines.specs.declared.line.Line.{Line}
use Rattle.core_lines.specs.declared.line.Line.TheVariants.{Plain, Label, Jump, JumpUnless, BranchUnless, CallTo}
use Rattle.core_lines.specs.Lines.{size_of}

-- where a label stands, in bytes from the first line on: at the first line that places it, or behind all lines where none does
abbrev pub place_of : List Line → ℕ → ℕ
place_of [] label = 0
place_of (Plain instr ∷ lines) label = 4 + place_of lines label
place_of (Label l ∷ lines) label = (if nat_eq l label then 0 else place_of lines label)
place_of (Jump l ∷ lines) label = 4 + place_of lines label
place_of (JumpUnless comparison l ∷ lines) label = 8 + place_of lines label
place_of (BranchUnless comparison l ∷ lines) label = 4 + place_of lines label
place_of (CallTo l ∷ lines) label = 4 + place_of lines label

-- a line as it is placed: of two words, if it is a conditional jump that is said to be one
abbrev pub shorten : Bool → Line → Line
shorten wide (Plain instr) = Plain instr
shorten wide (Label label) = Label label
shorten wide (Jump label) = Jump label
shorten wide (JumpUnless comparison label) = (if wide then JumpUnless comparison label else BranchUnless comparison label)
shorten wide (BranchUnless comparison label) = BranchUnless comparison label
shorten wide (CallTo label) = CallTo label

abbrev pub shortened : List Bool → List Line → List Line
shortened [] lines = lines
shortened (w ∷ ws) [] = []
shortened (w ∷ ws) (line ∷ lines) = shorten w line ∷ shortened ws lines

-- a branch at an address reaches a place: from 4,096 bytes before it to 4,094 behind it
abbrev pub is_in_reach : ℕ → ℕ → Bool
is_in_reach place at = nat_le at (place + 4096) && nat_le place (at + 4094)

abbrev pub reaches : (ℕ → ℕ) → ℕ → Line → Bool
reaches places at (JumpUnless comparison label) = is_in_reach (places label) at
reaches places at _ = true

-- one round: those that don't reach where they stand now
abbrev pub widened : (ℕ → ℕ) → ℕ → List Bool → List Line → List Bool
widened places at [] lines = []
widened places at (w ∷ ws) [] = w ∷ ws
widened places at (w ∷ ws) (line ∷ lines) = (w || not (reaches places at line)) ∷ widened places (at + size_of (shorten w line)) ws lines

abbrev pub next_round : List Line → List Bool → List Bool
next_round lines ws = widened (place_of (shortened ws lines)) 0 ws lines

abbrev pub rounds : ℕ → List Line → List Bool → List Bool
rounds zero lines ws = ws
rounds (suc n) lines ws = rounds n lines (next_round lines ws)

-- at first none is wide
abbrev pub none_wide : List Line → List Bool
none_wide [] = []
none_wide (line ∷ lines) = false ∷ none_wide lines

-- there are no more rounds than lines
abbrev pub wide_in : List Line → List Bool
wide_in lines = rounds (length lines) lines (none_wide lines)

-- each branch alone reaches its label
abbrev pub AllReach : (ℕ → ℕ) → ℕ → List Line → Type 0
AllReach places at [] = Unit {0}
AllReach places at (line ∷ lines) = Reaches line × AllReach places (at + size_of line) lines
  where
    Reaches : Line → Type 0
    Reaches (BranchUnless comparison label) = is_in_reach (places label) at ≡ true
    Reaches _ = Unit {0}

-- the labels that conditional jumps go to
abbrev pub targets : List Line → List ℕ
targets [] = []
targets (Plain instr ∷ lines) = targets lines
targets (Label label ∷ lines) = targets lines
targets (Jump label ∷ lines) = targets lines
targets (JumpUnless comparison label ∷ lines) = label ∷ targets lines
targets (BranchUnless comparison label ∷ lines) = label ∷ targets lines
targets (CallTo label ∷ lines) = targets lines

-- the same as `shortened`, where it is said of labels which jumps to them are wide
abbrev pub shorten_to : (ℕ → Bool) → Line → Line
shorten_to wide (Plain instr) = Plain instr
shorten_to wide (Label label) = Label label
shorten_to wide (Jump label) = Jump label
shorten_to wide (JumpUnless comparison label) = (if wide label then JumpUnless comparison label else BranchUnless comparison label)
shorten_to wide (BranchUnless comparison label) = BranchUnless comparison label
shorten_to wide (CallTo label) = CallTo label

abbrev pub shortened_to : (ℕ → Bool) → List Line → List Line
shortened_to wide [] = []
shortened_to wide (line ∷ lines) = shorten_to wide line ∷ shortened_to wide lines

-- what is said of the first conditional jump to a label
abbrev pub wide_to : List Bool → List Line → ℕ → Bool
wide_to [] lines label = true
wide_to (w ∷ ws) [] label = true
wide_to (w ∷ ws) (Plain instr ∷ lines) label = wide_to ws lines label
wide_to (w ∷ ws) (Label l ∷ lines) label = wide_to ws lines label
wide_to (w ∷ ws) (Jump l ∷ lines) label = wide_to ws lines label
wide_to (w ∷ ws) (JumpUnless comparison l ∷ lines) label = (if nat_eq l label then w else wide_to ws lines label)
wide_to (w ∷ ws) (BranchUnless comparison l ∷ lines) label = wide_to ws lines label
wide_to (w ∷ ws) (CallTo l ∷ lines) label = wide_to ws lines label
