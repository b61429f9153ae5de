-- Believed: checks: choices that go on where a temporary isn't 0, and else do no more than raise an exception. Their code has one branch, over what raises it.
use Rattle.std.specs.Prelude.{ℕ, zero, suc, pos, ◌+◌, List, [], ◌∷◌, ◌++◌, Option, Some, None}
use Rattle.cyc_words.specs.declared.faults.Kind.{Kind}
use Rattle.core_meaning.specs.Core.{
  Statement,
  Do,
  If,
  While,
  Block,
  Leave,
  Break,
  Continue,
  Call,
  Return,
  Raise,
  Statements,
  NoStatements,
  MoreStatements,
}
use Rattle.core_lines.specs.declared.line.Line.{Line}
use Rattle.core_lines.specs.declared.line.Line.TheVariants.{Plain}
use Rattle.core_lines.specs.Lines.{code_length}
use Rattle.core_lines.specs.Frames.{raise_code}
use Rattle.core_lines.specs.Held.{Holding, source_of, number_in}
use Rattle.core_lines.specs.Comparisons.{inverse, branch_if}
use Rattle.core_lines.specs.Operands.{test_in, test_ready}

-- the exception that a statement raises, if it does nothing else
abbrev pub kind_of : Statement → Option Kind
kind_of (Do operation) = None
kind_of (If t these those) = None
kind_of (While test t body) = None
kind_of (Block locals body) = None
kind_of (Leave body) = None
kind_of Break = None
kind_of Continue = None
kind_of (Call results f arguments) = None
kind_of (Return values) = None
kind_of (Raise kind) = Some kind

abbrev pub kind_in : Statements → Option Kind
kind_in NoStatements = None
kind_in (MoreStatements s NoStatements) = kind_of s
kind_in (MoreStatements s (MoreStatements s' ss)) = None

-- What a failed check raises: one exception, or one where a temporary isn't 0 and else another.
pub data Failure : Type 0 where
  Always : (kind : Kind) → Failure
  ByTest : (t : ℕ) (first second : Kind) → Failure

abbrev pub either_failure : ℕ → Option Kind → Option Kind → Option Failure
either_failure t None second = None
either_failure t (Some a) None = None
either_failure t (Some a) (Some b) = Some (ByTest t a b)

abbrev pub failure_of : Statement → Option Failure
failure_of (Do operation) = None
failure_of (If t these those) = either_failure t (kind_in these) (kind_in those)
failure_of (While test t body) = None
failure_of (Block locals body) = None
failure_of (Leave body) = None
failure_of Break = None
failure_of Continue = None
failure_of (Call results f arguments) = None
failure_of (Return values) = None
failure_of (Raise kind) = Some (Always kind)

abbrev pub failure_in : Statements → Option Failure
failure_in NoStatements = None
failure_in (MoreStatements s NoStatements) = failure_of s
failure_in (MoreStatements s (MoreStatements s' ss)) = None

-- that of a choice whose first way does nothing
abbrev pub check_of : Statements → Statements → Option Failure
check_of NoStatements those = failure_in those
check_of (MoreStatements s ss) those = None

-- What raises one of two exceptions: the second one's code is behind the 12 bytes of the first one's. Where the temporary is known to be a number, only the
-- exception that is raised then has code.
abbrev pub either_code : (passed : ℕ) → List Holding → (t : ℕ) → (first second : Kind) → Option ℕ → List Line
either_code passed hs t first second None =
    test_ready passed hs 5 t ++ (Plain (branch_if (inverse (test_in hs 5 t)) (pos 16)) ∷ []) ++ raise_code first ++ raise_code second
either_code passed hs t first second (Some zero) = raise_code second
either_code passed hs t first second (Some (suc n)) = raise_code first

-- what raises a failure's exception
abbrev pub failure_code : (passed : ℕ) → List Holding → Failure → List Line
failure_code passed hs (Always kind) = raise_code kind
failure_code passed hs (ByTest t first second) = either_code passed hs t first second (number_in (source_of hs t))

-- A check: a branch over that. Where the temporary is known to be a number, there is no branch: the exception is raised, or there is no code at all.
abbrev pub tested_code : (passed : ℕ) → List Holding → ℕ → Failure → Option ℕ → List Line
tested_code passed hs t f None =
    test_ready passed hs 5 t ++ (Plain (branch_if (test_in hs 5 t) (pos (4 + code_length (failure_code passed hs f)))) ∷ []) ++ failure_code passed hs f
tested_code passed hs t f (Some zero) = failure_code passed hs f
tested_code passed hs t f (Some (suc n)) = []

abbrev pub check_code : (passed : ℕ) → List Holding → ℕ → Failure → List Line
check_code passed hs t f = tested_code passed hs t f (number_in (source_of hs t))

-- the code of a choice, which may be a check
abbrev pub checked_code : (passed : ℕ) → List Holding → ℕ → Option Failure → List Line → List Line
checked_code passed hs t None lines = lines
checked_code passed hs t (Some f) lines = check_code passed hs t f
