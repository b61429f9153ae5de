-- Operations, calls, returns, first and last lines have no conditional jumps, and a choice has one.
use Rattle.std.proofs.Common.{◌≡◌, ℕ, Bool, true, false, List, [], ◌∷◌, ◌++◌, refl, ap, ◌∙◌}
use Rattle.std.specs.Prelude.{if◌then◌else◌}
use Rattle.core_meaning.specs.Core.{Operation, Statement, Statements, NoStatements, MoreStatements}
use Rattle.core_lines.specs.declared.line.Line.{Line}
use Rattle.core_lines.specs.declared.line.Line.TheVariants.{Plain, Label, Jump, JumpUnless, BranchUnless, CallTo}
use Rattle.core_lines.specs.Relaxed.{targets}
use Rattle.core_lines.specs.Frames.{epilogue_code}
use Rattle.core_lines.specs.Held.{Holding}
use Rattle.core_lines.specs.Operands.{test_in, test_ready, call_code, return_code, prologue_code}
use Rattle.core_lines.specs.Choosing.{jump_unless, choice_code, between_code, behind_code}
use Rattle.core_lines.specs.Checks.{Failure, check_code}
use Rattle.core_lines.specs.Selected.{Surroundings, operation_code}
use Rattle.core_lines.specs.Straight.{straight_code}
use Rattle.core_lines.proofs.labels.Bare.{bare_targets, operation_bare, straight_bare, epilogue_bare, prologue_bare}
use Rattle.core_lines.proofs.labels.BareTemporaries.{test_bare, check_bare, call_bare, return_bare}

pub targets_append : (first second : List Line) → targets (first ++ second) ≡ targets first ++ targets second
targets_append [] second = refl
targets_append (Plain instr ∷ first) second = targets_append first second
targets_append (Label label ∷ first) second = targets_append first second
targets_append (Jump label ∷ first) second = targets_append first second
targets_append (JumpUnless comparison label ∷ first) second = ap (λ ls. label ∷ ls) (targets_append first second)
targets_append (BranchUnless comparison label ∷ first) second = ap (λ ls. label ∷ ls) (targets_append first second)
targets_append (CallTo label ∷ first) second = targets_append first second

pub operation_none : (keeps : Bool) (u : Surroundings) (o : Operation) → targets (operation_code keeps u o) ≡ []
operation_none keeps u o = bare_targets (operation_code keeps u o) (operation_bare u keeps o)

pub straight_none : (keeps : Bool) (u : Surroundings) (home : ℕ) (s : Statement) → targets (straight_code keeps u home s) ≡ []
straight_none keeps u home s = bare_targets (straight_code keeps u home s) (straight_bare u keeps home s)

pub test_none : (passed : ℕ) (hs : List Holding) (spare t : ℕ) → targets (test_ready passed hs spare t) ≡ []
test_none passed hs spare t = bare_targets (test_ready passed hs spare t) (test_bare passed hs spare t)

pub choice_one : (wide : ℕ → Bool) (passed : ℕ) (hs : List Holding) (t label : ℕ) → targets (choice_code wide passed hs t label) ≡ label ∷ []
choice_one wide passed hs t label =
    let jump : List Line = jump_unless wide (test_in hs 5 t) label ∷ [] in
    targets_append (test_ready passed hs 5 t) jump ∙ ap (λ ls. ls ++ targets jump) (test_none passed hs 5 t) ∙ by (wide label)
  where
    by : (b : Bool) → targets ((if b then JumpUnless (test_in hs 5 t) label else BranchUnless (test_in hs 5 t) label) ∷ []) ≡ label ∷ []
    by true = refl
    by false = refl

pub between_none : (completes : Bool) (those : Statements) (behind next : ℕ) → targets (between_code completes those behind next) ≡ []
between_none completes NoStatements behind next = refl
between_none true (MoreStatements s ss) behind next = refl
between_none false (MoreStatements s ss) behind next = refl

pub behind_none : (those : Statements) (behind : ℕ) → targets (behind_code those behind) ≡ []
behind_none NoStatements behind = refl
behind_none (MoreStatements s ss) behind = refl

pub check_none : (passed : ℕ) (hs : List Holding) (t : ℕ) (f : Failure) → targets (check_code passed hs t f) ≡ []
check_none passed hs t f = bare_targets (check_code passed hs t f) (check_bare passed hs t f)

pub call_none : (flags : List Bool) (passed : ℕ) (hs : List Holding) (results : List ℕ) (f : ℕ) (arguments : List ℕ)
    → targets (call_code flags passed hs results f arguments) ≡ []
call_none flags passed hs results f arguments =
    bare_targets (call_code flags passed hs results f arguments) (call_bare passed flags hs results f arguments)

pub return_none : (passed : ℕ) (hs : List Holding) (ts : List ℕ) (exit : ℕ) → targets (return_code passed hs ts exit) ≡ []
return_none passed hs ts exit = bare_targets (return_code passed hs ts exit) (return_bare passed hs ts exit)

pub epilogue_none : (bytes first : ℕ) (saved : List ℕ) → targets (epilogue_code bytes first saved) ≡ []
epilogue_none bytes first saved = bare_targets (epilogue_code bytes first saved) (epilogue_bare bytes first saved)

pub prologue_none : (refused bytes passed first : ℕ) (saved : List ℕ) (start : List Bool) (registers : ℕ → ℕ) (parameters : ℕ)
    → targets (prologue_code refused bytes passed first saved start registers parameters) ≡ []
prologue_none refused bytes passed first saved start registers parameters =
    bare_targets (prologue_code refused bytes passed first saved start registers parameters)
    (prologue_bare refused bytes passed first saved start registers parameters)
