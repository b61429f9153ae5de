-- Believed: where the words of temporaries are known to be besides their slots: in registers, or as numbers or comparisons that the code can make again.
use Rattle.std.specs.Prelude.{ℕ, zero, suc, ◌+◌, ◌%◌, ◌^◌, Bool, true, false, ◌&&◌, ◌||◌, List, [], ◌∷◌, take, Option, Some, None, nat_eq, nat_lt}
use Rattle.std.specs.Prelude.{if◌then◌else◌}
use Rattle.rv32_machine.specs.State.{data_base}
use Rattle.core_lines.specs.declared.comparison.Condition.{Condition}
use Rattle.core_lines.specs.declared.comparison.Condition.TheVariants as condition
use Rattle.core_lines.specs.declared.comparison.Comparison.{Comparison}
use Rattle.core_lines.specs.declared.comparison.NumberComparison.{NumberComparison}
use Rattle.core_meaning.specs.Core.{
  Binary,
  Add,
  Equal,
  NotEqual,
  Less,
  LessEqual,
  LessUnsigned,
  LessEqualUnsigned,
  Operation,
  Constant,
  NullPointer,
  Move,
  Narrow,
  Apply,
  LocalAddress,
  OwnAddress,
  DataAddress,
  Offset,
  Element,
  Get,
  Put,
  Load,
  Store,
  Copy,
  Clear,
  IsNull,
  SamePlace,
  Getchar,
  Putchar,
  HeapHandle,
  RegionNew,
  RegionAlloc,
  RegionFree,
  UniqueAlloc,
  UniqueFree,
  KeyNew,
  KeyOpen,
  KeyClose,
  KeyFree,
  Statement,
  Do,
  If,
  While,
  Block,
  Leave,
  Break,
  Continue,
  Call,
  Return,
  Raise,
  Statements,
  NoStatements,
  MoreStatements,
}

-- ---- what is known

-- where a word is: a register has it, it is a number, or it is 1 where a comparison holds, and else 0, also one that holds once x7 has a number
pub data Source : Type 0 where
  Register : (register : ℕ) → Source
  Number : (word : ℕ) → Source
  Compared : (comparison : Comparison) → Source
  ComparedWith : (numbered : NumberComparison) → Source

-- a temporary's word is there
pub record Holding : Type 0 where
  pub temporary : ℕ
  pub source : Source

-- x0 holds no temporary
abbrev pub some_source : Source → Option Source
some_source (Register zero) = None
some_source (Register (suc r)) = Some (Register (suc r))
some_source (Number w) = Some (Number w)
some_source (Compared c) = Some (Compared c)
some_source (ComparedWith n) = Some (ComparedWith n)

-- where a temporary's word is, if that is known
abbrev pub source_of : List Holding → ℕ → Option Source
source_of [] t = None
source_of (h ∷ hs) t = (if nat_eq h.temporary t then some_source h.source else source_of hs t)

abbrev pub is_in : ℕ → Source → Bool
is_in r (Register q) = nat_eq q r
is_in r (Number w) = false
is_in r (Compared c) = nat_eq c.left r || nat_eq c.right r
is_in r (ComparedWith n) = nat_eq n.comparison.left r || nat_eq n.comparison.right r

-- what is still known where a register changes
abbrev pub without_register : ℕ → List Holding → List Holding
without_register r [] = []
without_register r (h ∷ hs) = (if is_in r h.source then without_register r hs else h ∷ without_register r hs)

-- and where a temporary does
abbrev pub without_temporary : ℕ → List Holding → List Holding
without_temporary t [] = []
without_temporary t (h ∷ hs) = (if nat_eq h.temporary t then without_temporary t hs else h ∷ without_temporary t hs)

-- A temporary gets a word that is there. At most 32 temporaries are known at once: one more, and what was learned first is forgotten.
abbrev pub with_source : ℕ → Source → List Holding → List Holding
with_source t s hs = record { temporary = t; source = s } ∷ take 31 (without_temporary t hs)

-- ---- the registers of results

-- The register that an operation leaves its result in, by the temporary that gets it: one of x12 to x15 and x28 to x31.
abbrev pub result_index : ℕ → ℕ
result_index t = (if nat_lt (t % 8) 4 then 11 + t % 8 else 23 + t % 8)

abbrev pub result_register : ℕ → ℕ
result_register t = suc (result_index t)

-- a temporary gets what is in its register
abbrev pub with_result : ℕ → List Holding → List Holding
with_result t hs = with_source t (Register (result_register t)) (without_register (result_register t) hs)

-- a temporary gets the word of another one, by way of its own register where that word isn't known to be elsewhere
abbrev pub with_moved : ℕ → Option Source → List Holding → List Holding
with_moved t None hs = with_result t hs
with_moved t (Some s) hs = with_source t s hs

-- ---- numbers

-- the number that a word is known to be
abbrev pub number_in : Option Source → Option ℕ
number_in None = None
number_in (Some (Register r)) = None
number_in (Some (Number w)) = Some w
number_in (Some (Compared c)) = None
number_in (Some (ComparedWith n)) = None

-- a temporary gets the lowest byte of a word, which may be known to be a number
abbrev pub with_narrowed : ℕ → Option ℕ → List Holding → List Holding
with_narrowed t None hs = with_result t hs
with_narrowed t (Some w) hs = with_source t (Number (w % 256)) hs

-- ---- sums with 0

abbrev pub is_zero : Option Source → Bool
is_zero None = false
is_zero (Some (Register r)) = false
is_zero (Some (Number zero)) = true
is_zero (Some (Number (suc w))) = false
is_zero (Some (Compared c)) = false
is_zero (Some (ComparedWith n)) = false

-- the temporary whose word a sum is, where the other one is known to be 0
abbrev pub same_as : Binary → (x y : ℕ) → Option Source → Option Source → Option ℕ
same_as Add x y of_x of_y = (if is_zero of_x then Some y else (if is_zero of_y then Some x else None))
same_as o x y of_x of_y = None

-- ---- comparisons

-- the register that has a word, if one has: x0 if it is known to be 0
abbrev pub register_in : Option Source → Option ℕ
register_in None = None
register_in (Some (Register r)) = Some r
register_in (Some (Number zero)) = Some 0
register_in (Some (Number (suc w))) = None
register_in (Some (Compared c)) = None
register_in (Some (ComparedWith n)) = None

abbrev pub compared_by : Condition → Option ℕ → Option ℕ → Option Comparison
compared_by c None right = None
compared_by c (Some left) None = None
compared_by c (Some left) (Some right) = Some (record { condition = c; left = left; right = right })

-- The comparison that an operation on two words is, if registers have both. It needs no code until its result is used: a test of it is a branch on both.
abbrev pub comparison_of : Binary → (of_x of_y : Option Source) → Option Comparison
comparison_of Equal of_x of_y = compared_by condition.Equal (register_in of_x) (register_in of_y)
comparison_of NotEqual of_x of_y = compared_by condition.NotEqual (register_in of_x) (register_in of_y)
comparison_of Less of_x of_y = compared_by condition.Less (register_in of_x) (register_in of_y)
comparison_of LessEqual of_x of_y = compared_by condition.NotLess (register_in of_y) (register_in of_x)
comparison_of LessUnsigned of_x of_y = compared_by condition.LessUnsigned (register_in of_x) (register_in of_y)
comparison_of LessEqualUnsigned of_x of_y = compared_by condition.NotLessUnsigned (register_in of_y) (register_in of_x)
comparison_of o of_x of_y = None

abbrev pub with_computed : ℕ → Option Comparison → List Holding → List Holding
with_computed t None hs = with_result t hs
with_computed t (Some c) hs = with_source t (Compared c) hs

-- ---- tests of NULL

-- What is known of whether a word is 0, as NULL is: it is a number where the word is one, and else a comparison of the register that has the word with x0.
abbrev pub null_source : Option Source → Option Source
null_source None = None
null_source (Some (Register r)) = Some (Compared (record { condition = condition.Equal; left = r; right = 0 }))
null_source (Some (Number zero)) = Some (Number 1)
null_source (Some (Number (suc w))) = Some (Number 0)
null_source (Some (Compared c)) = None
null_source (Some (ComparedWith n)) = None

-- ---- comparisons with numbers

-- the number other than 0 that a word is known to be
abbrev pub some_number : Option Source → Option ℕ
some_number None = None
some_number (Some (Register r)) = None
some_number (Some (Number zero)) = None
some_number (Some (Number (suc w))) = Some (suc w)
some_number (Some (Compared c)) = None
some_number (Some (ComparedWith n)) = None

-- by the register that has the left word, the number that it is, and those of the right one
abbrev pub numbered_by : Condition → (left first right second : Option ℕ) → Option NumberComparison
numbered_by c (Some left) first right None = None
numbered_by c (Some left) first right (Some n) = Some (record { comparison = record { condition = c; left = left; right = 7 }; number = n })
numbered_by c None None right second = None
numbered_by c None (Some n) None second = None
numbered_by c None (Some n) (Some right) second = Some (record { comparison = record { condition = c; left = 7; right = right }; number = n })

abbrev pub numbered : Condition → (of_left of_right : Option Source) → Option NumberComparison
numbered c of_left of_right = numbered_by c (register_in of_left) (some_number of_left) (register_in of_right) (some_number of_right)

-- The comparison that an operation on two words is, if a register has one of them and the other is a number that isn't 0. It needs no code until its result is
-- used: a test of it is the number into x7 and a branch.
abbrev pub number_comparison_of : Binary → (of_x of_y : Option Source) → Option NumberComparison
number_comparison_of Equal of_x of_y = numbered condition.Equal of_x of_y
number_comparison_of NotEqual of_x of_y = numbered condition.NotEqual of_x of_y
number_comparison_of Less of_x of_y = numbered condition.Less of_x of_y
number_comparison_of LessEqual of_x of_y = numbered condition.NotLess of_y of_x
number_comparison_of LessUnsigned of_x of_y = numbered condition.LessUnsigned of_x of_y
number_comparison_of LessEqualUnsigned of_x of_y = numbered condition.NotLessUnsigned of_y of_x
number_comparison_of o of_x of_y = None

abbrev pub with_judged : ℕ → Option NumberComparison → Option Comparison → List Holding → List Holding
with_judged t None c hs = with_computed t c hs
with_judged t (Some n) c hs = with_source t (ComparedWith n) hs

-- a temporary gets what an operation on two gives
abbrev pub with_applied : ℕ → Option ℕ → Option NumberComparison → Option Comparison → List Holding → List Holding
with_applied t None n c hs = with_judged t n c hs
with_applied t (Some z) n c hs = with_moved t (source_of hs z) hs

-- the n-th of a list, or 0 behind it
abbrev pub nth : List ℕ → ℕ → ℕ
nth [] k = 0
nth (x ∷ xs) zero = x
nth (x ∷ xs) (suc k) = nth xs k

abbrev pub nth_block : List (List ℕ) → ℕ → List ℕ
nth_block [] k = []
nth_block (b ∷ bs) zero = b
nth_block (b ∷ bs) (suc k) = nth_block bs k

-- a temporary gets what a local has, whose register this is, or 0
abbrev pub with_local : ℕ → ℕ → List Holding → List Holding
with_local t zero hs = with_result t hs
with_local t (suc h) hs = with_source t (Register (suc h)) hs

-- A local gets the word of a temporary, which is then in the local's register, if it has one. Of a byte that isn't known: the register has less.
abbrev pub with_put : Bool → (x home : ℕ) → List Holding → List Holding
with_put byte x zero hs = hs
with_put true x (suc h) hs = without_register (suc h) hs
with_put false x (suc h) hs = with_source x (Register (suc h)) (without_register (suc h) hs)

-- ---- calls of the environment

-- What is still known behind a call of the environment: its argument and its answer are in x10, the bytes that it asks for in x11, and its number in x17.
abbrev pub without_call : List Holding → List Holding
without_call hs = without_register 17 (without_register 11 (without_register 10 hs))

-- a temporary gets the answer
abbrev pub with_answer : ℕ → List Holding → List Holding
with_answer t hs = with_source t (Register 10) (without_call hs)

-- parameters from one on, each in its register
abbrev pub with_taken : (registers : ℕ → ℕ) → ℕ → ℕ → List Holding → List Holding
with_taken registers k zero hs = hs
with_taken registers k (suc more) hs = with_taken registers (suc k) more (with_put false k (registers k) hs)

-- ---- behind operations

-- What is known behind an operation, where locals have these registers and the data these offsets. Nothing is known behind what goes over whole objects.
abbrev pub held_behind_operation : List (List ℕ) → List ℕ → List Holding → Operation → List Holding
held_behind_operation homes statics hs (Constant t w) = with_source t (Number (w % 2 ^ 32)) hs
held_behind_operation homes statics hs (NullPointer t) = with_source t (Number 0) hs
held_behind_operation homes statics hs (Move t x) = with_moved t (source_of hs x) hs
held_behind_operation homes statics hs (Narrow t x) = with_narrowed t (number_in (source_of hs x)) hs
held_behind_operation homes statics hs (Apply o t x y) =
    with_applied t (same_as o x y (source_of hs x) (source_of hs y)) (number_comparison_of o (source_of hs x) (source_of hs y))
    (comparison_of o (source_of hs x) (source_of hs y)) hs
held_behind_operation homes statics hs (LocalAddress t out local) = with_result t hs
held_behind_operation homes statics hs (OwnAddress t object) = with_result t hs
held_behind_operation homes statics hs (DataAddress t object) = with_source t (Number (data_base + nth statics object)) hs
held_behind_operation homes statics hs (Offset t p cells bytes) = with_result t hs
held_behind_operation homes statics hs (Element t p i cells bytes) = with_result t hs
held_behind_operation homes statics hs (Get t out local width) = with_local t (nth (nth_block homes out) local) hs
held_behind_operation homes statics hs (Put out local width x) = with_put (nat_eq width 1) x (nth (nth_block homes out) local) hs
held_behind_operation homes statics hs (Load t p d) = with_result t hs
held_behind_operation homes statics hs (Store p d x) = hs
held_behind_operation homes statics hs (Copy to from layout) = []
held_behind_operation homes statics hs (Clear p layout count) = []
held_behind_operation homes statics hs (IsNull t p) = with_moved t (null_source (source_of hs p)) hs
held_behind_operation homes statics hs (SamePlace t p q) = with_result t hs
held_behind_operation homes statics hs (Getchar t) = with_answer t hs
held_behind_operation homes statics hs (Putchar t x) = with_answer t hs
held_behind_operation homes statics hs (HeapHandle t) = with_source t (Number 0) hs
held_behind_operation homes statics hs (RegionNew t) = with_answer t hs
held_behind_operation homes statics hs (RegionAlloc t h n layout) = with_answer t hs
held_behind_operation homes statics hs (RegionFree h) = without_call hs
held_behind_operation homes statics hs (UniqueAlloc t layout) = with_answer t hs
held_behind_operation homes statics hs (UniqueFree p) = without_call hs
held_behind_operation homes statics hs (KeyNew t) = with_answer t hs
held_behind_operation homes statics hs (KeyOpen k) = without_call hs
held_behind_operation homes statics hs (KeyClose k) = without_call hs
held_behind_operation homes statics hs (KeyFree k) = without_call hs

-- ---- behind statements

-- whether statements do no more than raise an exception, one or another
abbrev mutual
  pub raises : Statement → Bool
  raises (Do operation) = false
  raises (If t these those) = raises_only these && raises_only those
  raises (While test t body) = false
  raises (Block locals body) = false
  raises (Leave body) = false
  raises Break = false
  raises Continue = false
  raises (Call results f arguments) = false
  raises (Return values) = false
  raises (Raise kind) = true

  pub raises_only : Statements → Bool
  raises_only NoStatements = false
  raises_only (MoreStatements s NoStatements) = raises s
  raises_only (MoreStatements s (MoreStatements s' ss)) = false

-- the results of a call, each in the register behind the one before it
abbrev pub with_results : ℕ → List ℕ → List Holding → List Holding
with_results r [] hs = hs
with_results r (t ∷ ts) hs = with_results (suc r) ts (with_source t (Register (suc r)) hs)

-- Behind a statement: what its operation leaves, or the results of its call. Behind a choice of which the second way only raises an exception it is what the
-- first one leaves: so a check costs nothing of what is known. Behind each other statement nothing is: others may have come there by a jump.
abbrev mutual
  pub held_behind : List (List ℕ) → List ℕ → List Holding → Statement → List Holding
  held_behind homes statics hs (Do operation) = held_behind_operation homes statics hs operation
  held_behind homes statics hs (If t these those) = (if raises_only those then held_behind_all homes statics hs these else [])
  held_behind homes statics hs (While test t body) = []
  held_behind homes statics hs (Block locals body) = []
  held_behind homes statics hs (Leave body) = []
  held_behind homes statics hs Break = []
  held_behind homes statics hs Continue = []
  held_behind homes statics hs (Call results f arguments) = with_results 9 results []
  held_behind homes statics hs (Return values) = []
  held_behind homes statics hs (Raise kind) = []

  pub held_behind_all : List (List ℕ) → List ℕ → List Holding → Statements → List Holding
  held_behind_all homes statics hs NoStatements = hs
  held_behind_all homes statics hs (MoreStatements s ss) = held_behind_all homes statics (held_behind homes statics hs s) ss
