-- Lines that place no label: those of operations and choices, of calls and returns, and the first and last ones of functions.
use Rattle.std.proofs.Common.{◌≡◌, ℕ, Bool, true, false, List, [], ◌∷◌, ◌++◌, refl, ap, ◌∙◌}
use Rattle.std.specs.Prelude.{if◌then◌else◌}
use Rattle.core_meaning.specs.Core.{Operation, Statement}
use Rattle.core_lines.specs.declared.line.Line.{Line}
use Rattle.core_lines.specs.declared.line.Line.TheVariants.{Plain, Label, Jump, JumpUnless, BranchUnless, CallTo}
use Rattle.core_lines.specs.Lines.{labels_placed}
use Rattle.core_lines.specs.Frames.{epilogue_code}
use Rattle.core_lines.specs.Held.{Holding}
use Rattle.core_lines.specs.Operands.{test_in, test_ready, call_code, return_code, prologue_code}
use Rattle.core_lines.specs.Choosing.{jump_unless, choice_code}
use Rattle.core_lines.specs.Checks.{Failure, check_code}
use Rattle.core_lines.specs.Selected.{Surroundings, operation_code}
use Rattle.core_lines.specs.Straight.{straight_code}
use Rattle.core_lines.proofs.labels.Bare.{bare_places, operation_bare, straight_bare, epilogue_bare, prologue_bare}
use Rattle.core_lines.proofs.labels.BareTemporaries.{test_bare, check_bare, call_bare, return_bare}

pub labels_placed-append : (first second : List Line) → labels_placed (first ++ second) ≡ labels_placed first ++ labels_placed second
labels_placed-append [] second = refl
labels_placed-append (Plain instr ∷ first) second = labels_placed-append first second
labels_placed-append (Label label ∷ first) second = ap (λ labels. label ∷ labels) (labels_placed-append first second)
labels_placed-append (Jump label ∷ first) second = labels_placed-append first second
labels_placed-append (JumpUnless comparison label ∷ first) second = labels_placed-append first second
labels_placed-append (BranchUnless comparison label ∷ first) second = labels_placed-append first second
labels_placed-append (CallTo label ∷ first) second = labels_placed-append first second

pub operation_none : (keeps : Bool) (u : Surroundings) (o : Operation) → labels_placed (operation_code keeps u o) ≡ []
operation_none keeps u o = bare_places (operation_code keeps u o) (operation_bare u keeps o)

pub straight_none : (keeps : Bool) (u : Surroundings) (home : ℕ) (s : Statement) → labels_placed (straight_code keeps u home s) ≡ []
straight_none keeps u home s = bare_places (straight_code keeps u home s) (straight_bare u keeps home s)

pub choice_code_none : (wide : ℕ → Bool) (passed : ℕ) (hs : List Holding) (t label : ℕ) → labels_placed (choice_code wide passed hs t label) ≡ []
choice_code_none wide passed hs t label =
    let ready = test_ready passed hs 5 t in
    let jump : List Line = jump_unless wide (test_in hs 5 t) label ∷ [] in
    labels_placed-append ready jump ∙ ap (λ labels. labels ++ labels_placed jump) (bare_places ready (test_bare passed hs 5 t)) ∙ by (wide label)
  where
    by : (b : Bool) → labels_placed ((if b then JumpUnless (test_in hs 5 t) label else BranchUnless (test_in hs 5 t) label) ∷ []) ≡ []
    by true = refl
    by false = refl

pub check_none : (passed : ℕ) (hs : List Holding) (t : ℕ) (f : Failure) → labels_placed (check_code passed hs t f) ≡ []
check_none passed hs t f = bare_places (check_code passed hs t f) (check_bare passed hs t f)

pub call_none : (flags : List Bool) (passed : ℕ) (hs : List Holding) (results : List ℕ) (f : ℕ) (arguments : List ℕ)
    → labels_placed (call_code flags passed hs results f arguments) ≡ []
call_none flags passed hs results f arguments =
    bare_places (call_code flags passed hs results f arguments) (call_bare passed flags hs results f arguments)

pub return_none : (passed : ℕ) (hs : List Holding) (ts : List ℕ) (exit : ℕ) → labels_placed (return_code passed hs ts exit) ≡ []
return_none passed hs ts exit = bare_places (return_code passed hs ts exit) (return_bare passed hs ts exit)

pub epilogue_none : (bytes first : ℕ) (saved : List ℕ) → labels_placed (epilogue_code bytes first saved) ≡ []
epilogue_none bytes first saved = bare_places (epilogue_code bytes first saved) (epilogue_bare bytes first saved)

pub prologue_none : (refused bytes passed first : ℕ) (saved : List ℕ) (start : List Bool) (registers : ℕ → ℕ) (parameters : ℕ)
    → labels_placed (prologue_code refused bytes passed first saved start registers parameters) ≡ []
prologue_none refused bytes passed first saved start registers parameters =
    bare_places (prologue_code refused bytes passed first saved start registers parameters)
    (prologue_bare refused bytes passed first saved start registers parameters)
