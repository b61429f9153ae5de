-- Believed: core: a tree of statements over flat operations. Temporaries are words, numbered in their function; locals, globals and strings are objects of
-- memory.
use Rattle.std.specs.Prelude.{ℕ, List}
use Rattle.cyc_words.specs.declared.faults.Kind.{Kind}
use Rattle.core_meaning.specs.Memory.{Content, Layout}

-- where a part lies from a pointer on: cells and bytes, the part of the cell, and its width
pub record Distance : Type 0 where
  pub cells : ℕ
  pub bytes : ℕ
  pub part : ℕ
  pub width : ℕ

pub data Binary : Type 0 where
  Add : Binary
  Subtract : Binary
  Multiply : Binary
  Divide : Binary
  DivideUnsigned : Binary
  Remainder : Binary
  RemainderUnsigned : Binary
  And : Binary
  Or : Binary
  Xor : Binary
  ShiftLeft : Binary
  ShiftRight : Binary
  ShiftRightUnsigned : Binary
  Equal : Binary
  NotEqual : Binary
  Less : Binary
  LessEqual : Binary
  LessUnsigned : Binary
  LessEqualUnsigned : Binary

pub data Operation : Type 0 where
  -- words: `t` gets a number, NULL, another temporary, its low 8 bits, a result
  Constant : (t word : ℕ) → Operation
  NullPointer : (t : ℕ) → Operation
  Move : (t x : ℕ) → Operation
  Narrow : (t x : ℕ) → Operation
  Apply : (operation : Binary) (t x y : ℕ) → Operation
  -- `t` gets a pointer: to a local of the block that is `out` blocks out, a temporary object, a global or string; `cells` cells on from p; or to element i
  LocalAddress : (t out local : ℕ) → Operation
  OwnAddress : (t object : ℕ) → Operation
  DataAddress : (t object : ℕ) → Operation
  Offset : (t p cells bytes : ℕ) → Operation
  Element : (t p i cells bytes : ℕ) → Operation
  -- the part of a local of one part, so wide: loaded, stored
  Get : (t out local width : ℕ) → Operation
  Put : (out local width x : ℕ) → Operation
  -- parts: loaded, stored; an object's parts copied, or as they begin
  Load : (t p : ℕ) (d : Distance) → Operation
  Store : (p : ℕ) (d : Distance) (x : ℕ) → Operation
  Copy : (to from : ℕ) (layout : Layout) → Operation
  Clear : (p : ℕ) (layout : Layout) (count : ℕ) → Operation
  -- 1 or 0
  IsNull : (t p : ℕ) → Operation
  SamePlace : (t p q : ℕ) → Operation
  -- the streams; each takes a unit
  Getchar : (t : ℕ) → Operation
  Putchar : (t x : ℕ) → Operation
  -- `t` gets the handle of the heap
  HeapHandle : (t : ℕ) → Operation
  -- requests and frees
  RegionNew : (t : ℕ) → Operation
  RegionAlloc : (t h n : ℕ) (layout : Layout) → Operation
  RegionFree : (h : ℕ) → Operation
  UniqueAlloc : (t : ℕ) (layout : Layout) → Operation
  UniqueFree : (p : ℕ) → Operation
  KeyNew : (t : ℕ) → Operation
  KeyOpen : (k : ℕ) → Operation
  KeyClose : (k : ℕ) → Operation
  KeyFree : (k : ℕ) → Operation

-- a number of elements of a layout, one after the other
pub record Local : Type 0 where
  pub layout : Layout
  pub count : ℕ

mutual
  pub data Statement : Type 0 where
    Do : (operation : Operation) → Statement
    If : (t : ℕ) (these those : Statements) → Statement
    -- a turn takes a unit after the test; the elements of a `for` array are turns too
    While : (test : Statements) (t : ℕ) (body : Statements) → Statement
    -- a block's activation has a region with its locals, blank at first, which ends whichever way the block is left
    Block : (locals : List Local) (body : Statements) → Statement
    -- a `Break` in the body ends it, and takes no unit; a `Continue` is that of the loop around
    Leave : (body : Statements) → Statement
    Break : Statement
    Continue : Statement
    -- takes a unit
    Call : (results : List ℕ) (function : ℕ) (arguments : List ℕ) → Statement
    Return : (values : List ℕ) → Statement
    Raise : (kind : Kind) → Statement

  pub data Statements : Type 0 where
    NoStatements : Statements
    MoreStatements : (first : Statement) (others : Statements) → Statements

-- A function: how many temporaries it has, the parameters the first; the most words that it passes to a call; its temporary objects; and its locals in the
-- order of the text, each by how many locals stand before it where those of a block stand together, before those of the blocks within it.
pub record Function : Type 0 where
  pub parameters : ℕ
  pub temporaries : ℕ
  pub passed : ℕ
  pub own : List Local
  pub order : List ℕ
  pub body : Statements

-- a global or a string: its cells, how many elements, and what their parts hold first
pub record Datum : Type 0 where
  pub layout : Layout
  pub count : ℕ
  pub first : ℕ → ℕ → Content

pub record Program : Type 0 where
  pub functions : List Function
  pub main : ℕ
  pub data_objects : List Datum
