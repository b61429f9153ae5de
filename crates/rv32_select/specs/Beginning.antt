-- View of code: how lines begin: where the first instruction of all is a jump or a call, it goes to another instruction. So it goes less far than the code is
-- long.
use Rattle.std.specs.Prelude.{ℕ, Bool, true, false, List, [], ◌∷◌, Option, Some, None, nat_eq, nat_lt, if◌then◌else◌}
use Rattle.core_lines.specs.declared.line.Line.{Line}
use Rattle.core_lines.specs.declared.line.Line.TheVariants.{Plain, Label, Jump, JumpUnless, BranchUnless, CallTo}
use Rattle.core_lines.specs.Lines.{code_length}

-- The label to which the first instruction goes, where it is a jump or a call. The jump that is made unless a comparison holds is its line's second
-- instruction.
abbrev pub first_target : List Line → Option ℕ
first_target [] = None
first_target (Plain instr ∷ lines) = None
first_target (Label label ∷ lines) = first_target lines
first_target (Jump label ∷ lines) = Some label
first_target (JumpUnless comparison label ∷ lines) = None
first_target (BranchUnless comparison label ∷ lines) = None
first_target (CallTo label ∷ lines) = Some label

-- a line places the label, and an instruction stands behind the first that does
abbrev pub leads_to_code : ℕ → List Line → Bool
leads_to_code label [] = false
leads_to_code label (Plain instr ∷ lines) = leads_to_code label lines
leads_to_code label (Label l ∷ lines) = (if nat_eq l label then nat_lt 0 (code_length lines) else leads_to_code label lines)
leads_to_code label (Jump l ∷ lines) = leads_to_code label lines
leads_to_code label (JumpUnless comparison l ∷ lines) = leads_to_code label lines
leads_to_code label (BranchUnless comparison l ∷ lines) = leads_to_code label lines
leads_to_code label (CallTo l ∷ lines) = leads_to_code label lines

-- no label, or one that leads to code
abbrev pub leads_if_some : Option ℕ → List Line → Bool
leads_if_some None lines = true
leads_if_some (Some label) lines = leads_to_code label lines

abbrev pub begins_within : List Line → Bool
begins_within lines = leads_if_some (first_target lines) lines

-- no conditional jump is a branch alone
abbrev pub are_long : List Line → Bool
are_long [] = true
are_long (Plain instr ∷ lines) = are_long lines
are_long (Label label ∷ lines) = are_long lines
are_long (Jump label ∷ lines) = are_long lines
are_long (JumpUnless comparison label ∷ lines) = are_long lines
are_long (BranchUnless comparison label ∷ lines) = false
are_long (CallTo label ∷ lines) = are_long lines
