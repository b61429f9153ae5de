-- View of code: how many raises and how many calls a program has.
use Rattle.std.specs.Prelude.{ℕ, ◌+◌, List, [], ◌∷◌}
use Rattle.core_meaning.specs.Core.{
  Function,
  Program,
  Statement,
  Statements,
  Do,
  If,
  While,
  Block,
  Leave,
  Break,
  Continue,
  Call,
  Return,
  Raise,
  NoStatements,
  MoreStatements,
}

-- how many raises a statement has, those of the statements within it among them
abbrev mutual
  pub statement_raises : Statement → ℕ
  statement_raises (Do operation) = 0
  statement_raises (If t these those) = raises_of these + raises_of those
  statement_raises (While test t body) = raises_of test + raises_of body
  statement_raises (Block locals body) = raises_of body
  statement_raises (Leave body) = raises_of body
  statement_raises Break = 0
  statement_raises Continue = 0
  statement_raises (Call results function arguments) = 0
  statement_raises (Return values) = 0
  statement_raises (Raise kind) = 1

  pub raises_of : Statements → ℕ
  raises_of NoStatements = 0
  raises_of (MoreStatements first others) = statement_raises first + raises_of others

-- how many calls of functions a statement has, those of the statements within it among them
abbrev mutual
  pub statement_calls : Statement → ℕ
  statement_calls (Do operation) = 0
  statement_calls (If t these those) = calls_of these + calls_of those
  statement_calls (While test t body) = calls_of test + calls_of body
  statement_calls (Block locals body) = calls_of body
  statement_calls (Leave body) = calls_of body
  statement_calls Break = 0
  statement_calls Continue = 0
  statement_calls (Call results function arguments) = 1
  statement_calls (Return values) = 0
  statement_calls (Raise kind) = 0

  pub calls_of : Statements → ℕ
  calls_of NoStatements = 0
  calls_of (MoreStatements first others) = statement_calls first + calls_of others

-- those of functions' bodies
abbrev pub all_raises : List Function → ℕ
all_raises [] = 0
all_raises (f ∷ fs) = raises_of f.body + all_raises fs

abbrev pub all_calls : List Function → ℕ
all_calls [] = 0
all_calls (f ∷ fs) = calls_of f.body + all_calls fs

-- those of a program
abbrev pub raises_in : Program → ℕ
raises_in p = all_raises p.functions

abbrev pub calls_in : Program → ℕ
calls_in p = all_calls p.functions
