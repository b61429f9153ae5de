-- Believed: what has code: layouts whose parts lie apart, and functions whose numbers name what there is.
use Rattle.std.specs.Prelude.{◌≡◌, ℕ, zero, suc, ◌≤◌, ◌<◌, ◌^◌, List, [], ◌∷◌, Some, slice_get, length}
use Rattle.core_meaning.specs.Core.{
  Operation,
  Constant,
  NullPointer,
  Move,
  Narrow,
  Apply,
  LocalAddress,
  OwnAddress,
  DataAddress,
  Offset,
  Element,
  Get,
  Put,
  Load,
  Store,
  Copy,
  Clear,
  IsNull,
  SamePlace,
  Getchar,
  Putchar,
  HeapHandle,
  RegionNew,
  RegionAlloc,
  RegionFree,
  UniqueAlloc,
  UniqueFree,
  KeyNew,
  KeyOpen,
  KeyClose,
  KeyFree,
  Local,
  Statement,
  Do,
  If,
  While,
  Block,
  Leave,
  Break,
  Continue,
  Call,
  Return,
  Raise,
  Statements,
  NoStatements,
  MoreStatements,
  Function,
  Datum,
  Program,
}
use Rattle.core_meaning.specs.Layouts.{IsLayout, IsFull, IsZero}

-- ---- layouts

-- all objects' layouts are regular
abbrev pub AreLayouts : List Local → Type 0
AreLayouts [] = Unit {0}
AreLayouts (l ∷ ls) = IsLayout l.layout × AreLayouts ls

-- ---- numbers

-- What the numbers in a statement may name: how many temporaries there are, how many words are passed to callees, how many locals each block around has, the
-- innermost first, how many temporary objects the function has, and how many objects the data have.
pub record Scope : Type 0 where
  pub temporaries : ℕ
  pub passed : ℕ
  pub blocks : List ℕ
  pub unnamed : ℕ
  pub data_objects : ℕ

-- all numbers are below a bound
abbrev pub AreBelow : ℕ → List ℕ → Type 0
AreBelow most [] = Unit {0}
AreBelow most (t ∷ ts) = (t < most) × AreBelow most ts

-- the block that is `out` blocks out has the local
abbrev pub IsLocal : List ℕ → ℕ → ℕ → Type 0
IsLocal [] out local = ⊥
IsLocal (n ∷ ns) zero local = local < n
IsLocal (n ∷ ns) (suc out) local = IsLocal ns out local

-- ---- operations and statements

abbrev pub HasCode : Scope → Operation → Type 0
HasCode u (Constant t w) = t < u.temporaries
HasCode u (NullPointer t) = t < u.temporaries
HasCode u (Move t x) = (t < u.temporaries) × (x < u.temporaries)
HasCode u (Narrow t x) = (t < u.temporaries) × (x < u.temporaries)
HasCode u (Apply o t x y) = (t < u.temporaries) × (x < u.temporaries) × (y < u.temporaries)
HasCode u (LocalAddress t out local) = (t < u.temporaries) × IsLocal u.blocks out local
HasCode u (OwnAddress t object) = (t < u.temporaries) × (object < u.unnamed)
HasCode u (DataAddress t object) = (t < u.temporaries) × (object < u.data_objects)
HasCode u (Offset t p cells bytes) = (t < u.temporaries) × (p < u.temporaries)
HasCode u (Element t p i cells bytes) = (t < u.temporaries) × (p < u.temporaries) × (i < u.temporaries) × (bytes < 2 ^ 32)
HasCode u (Get t out local width) = (t < u.temporaries) × IsLocal u.blocks out local
HasCode u (Put out local width x) = (x < u.temporaries) × IsLocal u.blocks out local
HasCode u (Load t p d) = (t < u.temporaries) × (p < u.temporaries)
HasCode u (Store p d x) = (p < u.temporaries) × (x < u.temporaries)
HasCode u (Copy to from layout) = (to < u.temporaries) × (from < u.temporaries) × IsLayout layout × IsFull layout
HasCode u (Clear p layout count) = (p < u.temporaries) × IsLayout layout × IsFull layout × IsZero layout
HasCode u (IsNull t p) = (t < u.temporaries) × (p < u.temporaries)
HasCode u (SamePlace t p q) = (t < u.temporaries) × (p < u.temporaries) × (q < u.temporaries)
HasCode u (Getchar t) = t < u.temporaries
HasCode u (Putchar t x) = (t < u.temporaries) × (x < u.temporaries)
HasCode u (HeapHandle t) = t < u.temporaries
HasCode u (RegionNew t) = t < u.temporaries
HasCode u (RegionAlloc t h n layout) = (t < u.temporaries) × (h < u.temporaries) × (n < u.temporaries) × IsLayout layout
HasCode u (RegionFree h) = h < u.temporaries
HasCode u (UniqueAlloc t layout) = (t < u.temporaries) × IsLayout layout × (layout.bytes < 2 ^ 32)
HasCode u (UniqueFree p) = p < u.temporaries
HasCode u (KeyNew t) = t < u.temporaries
HasCode u (KeyOpen k) = k < u.temporaries
HasCode u (KeyClose k) = k < u.temporaries
HasCode u (KeyFree k) = k < u.temporaries

-- within a block with these locals
abbrev pub scope_within : List Local → Scope → Scope
scope_within locals u = record u { blocks = length locals ∷ u.blocks }

abbrev mutual
  pub HasLinesIn : Scope → Statement → Type 0
  HasLinesIn u (Do operation) = HasCode u operation
  HasLinesIn u (If t these those) = (t < u.temporaries) × HaveLinesIn u these × HaveLinesIn u those
  HasLinesIn u (While test t body) = (t < u.temporaries) × HaveLinesIn u test × HaveLinesIn u body
  HasLinesIn u (Block locals body) = AreLayouts locals × HaveLinesIn (scope_within locals u) body
  HasLinesIn u (Leave body) = HaveLinesIn u body
  HasLinesIn u Break = Unit {0}
  HasLinesIn u Continue = Unit {0}
  HasLinesIn u (Call results f arguments) = AreBelow u.temporaries results × AreBelow u.temporaries arguments × (length arguments ≤ u.passed)
  HasLinesIn u (Return values) = AreBelow u.temporaries values × (length values ≤ 8)
  HasLinesIn u (Raise kind) = Unit {0}

  pub HaveLinesIn : Scope → Statements → Type 0
  HaveLinesIn u NoStatements = Unit {0}
  HaveLinesIn u (MoreStatements s ss) = HasLinesIn u s × HaveLinesIn u ss

-- ---- functions and programs

abbrev pub scope_of : ℕ → Function → Scope
scope_of data_objects f =
    record { temporaries = f.temporaries; passed = f.passed; blocks = []; unnamed = length f.own; data_objects = data_objects }

pub record IsSelectableIn (data_objects : ℕ) (f : Function) : Type 0 where
  pub own_layouts : AreLayouts f.own
  pub few : f.parameters ≤ f.temporaries
  pub body : HaveLinesIn (scope_of data_objects f) f.body

abbrev pub HaveLayouts : List Datum → Type 0
HaveLayouts [] = Unit {0}
HaveLayouts (d ∷ ds) = IsLayout d.layout × HaveLayouts ds

pub record IsSelectable (p : Program) : Type 0 where
  pub data_layouts : HaveLayouts p.data_objects
  pub functions : (number : ℕ) (f : Function) → slice_get p.functions number ≡ Some f → IsSelectableIn (length p.data_objects) f
