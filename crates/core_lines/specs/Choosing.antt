-- Believed: how a choice tests a temporary, and what stands between its ways and behind them.
use Rattle.std.specs.Prelude.{ℕ, Bool, true, List, [], ◌∷◌, ◌++◌, if◌then◌else◌}
use Rattle.core_meaning.specs.Core.{Statements, NoStatements, MoreStatements}
use Rattle.core_lines.specs.declared.line.Line.{Line}
use Rattle.core_lines.specs.declared.line.Line.TheVariants.{Label, Jump, JumpUnless, BranchUnless}
use Rattle.core_lines.specs.declared.comparison.Comparison.{Comparison}
use Rattle.core_lines.specs.Held.{Holding}
use Rattle.core_lines.specs.Operands.{test_in, test_ready}

-- each label may be out of a branch's reach
abbrev pub far : ℕ → Bool
far label = true

-- A jump to a label that is made unless a comparison holds: by a branch over a jump where the label is one of those that a branch may not reach.
abbrev pub jump_unless : (ℕ → Bool) → Comparison → (label : ℕ) → Line
jump_unless wide comparison label = (if wide label then JumpUnless comparison label else BranchUnless comparison label)

-- Goes on where a temporary is neither 0 nor NULL, and at a label where it is.
abbrev pub choice_code : (ℕ → Bool) → (passed : ℕ) → List Holding → (t label : ℕ) → List Line
choice_code wide passed hs t label = test_ready passed hs 5 t ++ (jump_unless wide (test_in hs 5 t) label ∷ [])

-- a jump to a label, where code is reached
abbrev pub jump_code : Bool → ℕ → List Line
jump_code reached label = (if reached then Jump label ∷ [] else [])

-- Between the ways of a choice: a jump over the second one, if the first one can complete, and the label of the second one. There is no jump where the second
-- one is empty.
abbrev pub between_code : Bool → Statements → (behind next : ℕ) → List Line
between_code completes NoStatements behind next = Label next ∷ []
between_code completes (MoreStatements s ss) behind next = jump_code completes behind ++ (Label next ∷ [])

-- behind both, where that jump goes
abbrev pub behind_code : Statements → ℕ → List Line
behind_code NoStatements behind = []
behind_code (MoreStatements s ss) behind = Label behind ∷ []
