-- Believed: how many bytes of the stack a function may take, and how many bytes of code a program.
use Rattle.std.specs.Prelude.{ℕ, ◌+◌, ◌*◌, ◌/◌, List, [], ◌∷◌, length}
use Rattle.core_meaning.specs.Core.{
  Operation,
  RegionAlloc,
  Local,
  Statement,
  Do,
  If,
  While,
  Block,
  Leave,
  Break,
  Continue,
  Call,
  Return,
  Raise,
  Statements,
  NoStatements,
  MoreStatements,
  Function,
  Program,
}

-- ---- words of a frame

-- bytes in words, rounded up
abbrev pub words_of : ℕ → ℕ
words_of bytes = (bytes + 3) / 4

abbrev pub local_words : List Local → ℕ
local_words [] = 0
local_words (l ∷ ls) = words_of (l.count * l.layout.bytes) + local_words ls

-- the words of all locals of all blocks
abbrev mutual
  pub statement_words : Statement → ℕ
  statement_words (Do operation) = 0
  statement_words (If t these those) = block_words these + block_words those
  statement_words (While test t body) = block_words test + block_words body
  statement_words (Block locals body) = local_words locals + block_words body
  statement_words (Leave body) = block_words body
  statement_words Break = 0
  statement_words Continue = 0
  statement_words (Call results function arguments) = 0
  statement_words (Return values) = 0
  statement_words (Raise kind) = 0

  pub block_words : Statements → ℕ
  block_words NoStatements = 0
  block_words (MoreStatements first others) = statement_words first + block_words others

-- 64 bytes, and 4 for each word that is passed to a call, of temporaries, of temporary objects and of locals
abbrev pub core_bound : Function → ℕ
core_bound f = 64 + 4 * (f.passed + (f.temporaries + (local_words f.own + block_words f.body)))

-- ---- operations

-- an operation counts as one, and the request for a block, whose code is the longest, as two
abbrev pub operation_count : Operation → ℕ
operation_count (RegionAlloc t h n layout) = 2
operation_count operation = 1

-- what a choice counts for a branch with this number of operations: an exception alone counts with its choice
abbrev pub branch_count : Statements → ℕ → ℕ
branch_count (MoreStatements (Raise kind) NoStatements) operations = 0
branch_count ss operations = operations

-- each statement counts as one, with those inside it, and one more for each word that a call or a return passes
abbrev mutual
  pub statement_operations : Statement → ℕ
  statement_operations (Do operation) = operation_count operation
  statement_operations (If t these those) = 1 + (branch_count these (operations_of these) + branch_count those (operations_of those))
  statement_operations (While test t body) = 1 + (operations_of test + operations_of body)
  statement_operations (Block locals body) = 1 + operations_of body
  statement_operations (Leave body) = operations_of body
  statement_operations Break = 1
  statement_operations Continue = 1
  statement_operations (Call results function arguments) = 1 + (length results + length arguments)
  statement_operations (Return values) = 1 + length values
  statement_operations (Raise kind) = 1

  pub operations_of : Statements → ℕ
  operations_of NoStatements = 0
  operations_of (MoreStatements first others) = statement_operations first + operations_of others

-- a function counts as 8 more, and one for each word of its parameters
abbrev pub all_operations : List Function → ℕ
all_operations [] = 0
all_operations (f ∷ fs) = 8 + (f.parameters + operations_of f.body) + all_operations fs

-- 4,096 bytes of code, and 64 for each operation
abbrev pub core_code : Program → ℕ
core_code p = 4096 + 64 * all_operations p.functions
