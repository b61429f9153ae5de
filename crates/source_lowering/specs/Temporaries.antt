-- Believed: how many temporaries code uses, and how many words it passes.
use Rattle.std.specs.Prelude.{ℕ, suc, List, [], ◌∷◌, length, max}
use Rattle.core_meaning.specs.Core as core
use Rattle.core_meaning.specs.Core.{
  Operation,
  Do,
  If,
  While,
  Block,
  Leave,
  Break,
  Continue,
  Call,
  Return,
  Raise,
  Statements,
  NoStatements,
  MoreStatements,
  Constant,
  NullPointer,
  Move,
  Narrow,
  Apply,
  LocalAddress,
  OwnAddress,
  DataAddress,
  Offset,
  Element,
  Get,
  Put,
  Load,
  Store,
  Copy,
  Clear,
  IsNull,
  SamePlace,
  Getchar,
  Putchar,
  HeapHandle,
  RegionNew,
  RegionAlloc,
  RegionFree,
  UniqueAlloc,
  UniqueFree,
  KeyNew,
  KeyOpen,
  KeyClose,
  KeyFree,
}

-- temporaries from 0 on, these among them
abbrev pub last_of : List ℕ → ℕ
last_of [] = 0
last_of (t ∷ ts) = max (suc t) (last_of ts)

-- the temporaries of the operations that are used here
abbrev pub operation_temporaries : Operation → ℕ
operation_temporaries (Constant t w) = suc t
operation_temporaries (Move t x) = max (suc t) (suc x)
operation_temporaries (Narrow t x) = max (suc t) (suc x)
operation_temporaries (Apply o t x y) = max (suc t) (max (suc x) (suc y))
operation_temporaries (NullPointer t) = suc t
operation_temporaries (LocalAddress t out local) = suc t
operation_temporaries (OwnAddress t object) = suc t
operation_temporaries (DataAddress t object) = suc t
operation_temporaries (Offset t p cells bytes) = max (suc t) (suc p)
operation_temporaries (Element t p i cells bytes) = max (suc t) (max (suc p) (suc i))
operation_temporaries (Get t out local width) = suc t
operation_temporaries (Put out local width x) = suc x
operation_temporaries (Load t p d) = max (suc t) (suc p)
operation_temporaries (Store p d x) = max (suc p) (suc x)
operation_temporaries (Copy to from layout) = max (suc to) (suc from)
operation_temporaries (Clear p layout count) = suc p
operation_temporaries (IsNull t p) = max (suc t) (suc p)
operation_temporaries (SamePlace t p q) = max (suc t) (max (suc p) (suc q))
operation_temporaries (Getchar t) = suc t
operation_temporaries (Putchar t x) = max (suc t) (suc x)
operation_temporaries (HeapHandle t) = suc t
operation_temporaries (RegionNew t) = suc t
operation_temporaries (RegionAlloc t h n layout) = max (suc t) (max (suc h) (suc n))
operation_temporaries (RegionFree h) = suc h
operation_temporaries (UniqueAlloc t layout) = suc t
operation_temporaries (UniqueFree p) = suc p
operation_temporaries (KeyNew t) = suc t
operation_temporaries (KeyOpen k) = suc k
operation_temporaries (KeyClose k) = suc k
operation_temporaries (KeyFree k) = suc k

abbrev mutual
  pub statement_temporaries : core.Statement → ℕ
  statement_temporaries (Do operation) = operation_temporaries operation
  statement_temporaries (If t these those) = max (suc t) (max (temporaries_of these) (temporaries_of those))
  statement_temporaries (While test t body) = max (suc t) (max (temporaries_of test) (temporaries_of body))
  statement_temporaries (Block locals body) = temporaries_of body
  statement_temporaries (Leave body) = temporaries_of body
  statement_temporaries Break = 0
  statement_temporaries Continue = 0
  statement_temporaries (Call results function arguments) = max (last_of results) (last_of arguments)
  statement_temporaries (Return values) = last_of values
  statement_temporaries (Raise kind) = 0

  pub temporaries_of : Statements → ℕ
  temporaries_of NoStatements = 0
  temporaries_of (MoreStatements first others) = max (statement_temporaries first) (temporaries_of others)

abbrev mutual
  pub statement_passes : core.Statement → ℕ
  statement_passes (Do operation) = 0
  statement_passes (If t these those) = max (passed_by these) (passed_by those)
  statement_passes (While test t body) = max (passed_by test) (passed_by body)
  statement_passes (Block locals body) = passed_by body
  statement_passes (Leave body) = passed_by body
  statement_passes Break = 0
  statement_passes Continue = 0
  statement_passes (Call results function arguments) = length arguments
  statement_passes (Return values) = 0
  statement_passes (Raise kind) = 0

  pub passed_by : Statements → ℕ
  passed_by NoStatements = 0
  passed_by (MoreStatements first others) = max (statement_passes first) (passed_by others)
