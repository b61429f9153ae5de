-- Believed, for this crate's laws: what code of Core names beside its temporaries: locals of the blocks around it, temporary objects, and objects of the data;
-- layouts are in order, and elements have no more bytes than a word says.
use Rattle.std.specs.Prelude.{ℕ, ◌≤◌, ◌<◌, ◌^◌, List, [], ◌∷◌, length}
use Rattle.core_meaning.specs.Core.{
  Operation,
  Constant,
  NullPointer,
  Move,
  Narrow,
  Apply,
  LocalAddress,
  OwnAddress,
  DataAddress,
  Get,
  Put,
  Load,
  Store,
  Offset,
  Element,
  Copy,
  Clear,
  IsNull,
  SamePlace,
  Getchar,
  Putchar,
  HeapHandle,
  RegionNew,
  RegionAlloc,
  RegionFree,
  UniqueAlloc,
  UniqueFree,
  KeyNew,
  KeyOpen,
  KeyClose,
  KeyFree,
  Statement,
  Do,
  If,
  While,
  Block,
  Leave,
  Break,
  Continue,
  Call,
  Return,
  Raise,
  Statements,
  NoStatements,
  MoreStatements,
}
use Rattle.core_meaning.specs.Layouts.{IsLayout, IsFull, IsZero}
use Rattle.core_meaning.specs.Selectable.{AreLayouts, IsLocal}

-- An operation names what there is: within blocks with these numbers of locals, the innermost first, in a function with `own` temporary objects, over
-- `objects` objects of the data.
abbrev pub NamesIn : List ℕ → (own objects : ℕ) → Operation → Type 0
NamesIn blocks own objects (Constant t w) = Unit {0}
NamesIn blocks own objects (NullPointer t) = Unit {0}
NamesIn blocks own objects (Narrow t x) = Unit {0}
NamesIn blocks own objects (Apply o t x y) = Unit {0}
NamesIn blocks own objects (LocalAddress t out local) = IsLocal blocks out local
NamesIn blocks own objects (OwnAddress t object) = object < own
NamesIn blocks own objects (DataAddress t object) = object < objects
NamesIn blocks own objects (Get t out local width) = IsLocal blocks out local
NamesIn blocks own objects (Put out local width x) = IsLocal blocks out local
NamesIn blocks own objects (Load t p d) = Unit {0}
NamesIn blocks own objects (Store p d x) = Unit {0}
NamesIn blocks own objects (Offset t p cells bytes) = Unit {0}
NamesIn blocks own objects (Element t p i cells bytes) = bytes < 2 ^ 32
NamesIn blocks own objects (Copy to from layout) = IsLayout layout × IsFull layout
NamesIn blocks own objects (Clear p layout count) = IsLayout layout × IsFull layout × IsZero layout
NamesIn blocks own objects (IsNull t p) = Unit {0}
NamesIn blocks own objects (SamePlace t p q) = Unit {0}
NamesIn blocks own objects (Getchar t) = Unit {0}
NamesIn blocks own objects (Putchar t x) = Unit {0}
NamesIn blocks own objects (HeapHandle t) = Unit {0}
NamesIn blocks own objects (RegionNew t) = Unit {0}
NamesIn blocks own objects (RegionAlloc t h n layout) = IsLayout layout
NamesIn blocks own objects (RegionFree h) = Unit {0}
NamesIn blocks own objects (UniqueAlloc t layout) = IsLayout layout × (layout.bytes < 2 ^ 32)
NamesIn blocks own objects (UniqueFree p) = Unit {0}
NamesIn blocks own objects (KeyNew t) = Unit {0}
NamesIn blocks own objects (KeyOpen k) = Unit {0}
NamesIn blocks own objects (KeyClose k) = Unit {0}
NamesIn blocks own objects (KeyFree k) = Unit {0}
NamesIn blocks own objects (Move t x) = Unit {0}

abbrev mutual
  pub IsNaming : List ℕ → (own objects : ℕ) → Statement → Type 0
  IsNaming blocks own objects (Do operation) = NamesIn blocks own objects operation
  IsNaming blocks own objects (If t these those) = AreNaming blocks own objects these × AreNaming blocks own objects those
  IsNaming blocks own objects (While test t body) = AreNaming blocks own objects test × AreNaming blocks own objects body
  IsNaming blocks own objects (Block locals body) = AreLayouts locals × AreNaming (length locals ∷ blocks) own objects body
  IsNaming blocks own objects (Leave body) = AreNaming blocks own objects body
  IsNaming blocks own objects Break = Unit {0}
  IsNaming blocks own objects Continue = Unit {0}
  IsNaming blocks own objects (Call results f arguments) = Unit {0}
  IsNaming blocks own objects (Return values) = length values ≤ 8
  IsNaming blocks own objects (Raise kind) = Unit {0}

  pub AreNaming : List ℕ → (own objects : ℕ) → Statements → Type 0
  AreNaming blocks own objects NoStatements = Unit {0}
  AreNaming blocks own objects (MoreStatements s ss) = IsNaming blocks own objects s × AreNaming blocks own objects ss

-- the same of code that is put together
abbrev pub CodeNames : List ℕ → (own objects : ℕ) → List Statement → Type 0
CodeNames blocks own objects [] = Unit {0}
CodeNames blocks own objects (s ∷ ss) = IsNaming blocks own objects s × CodeNames blocks own objects ss
