-- Code whose names are there, and that has as many temporaries and passes as many words as its function counts, has lines.
use Rattle.std.proofs.Common.{ℕ, suc, ◌≤◌, List, [], ◌∷◌, ◌++◌, max}
use Rattle.core_meaning.specs.Core.{
  Operation,
  Constant,
  NullPointer,
  Move,
  Narrow,
  Apply,
  LocalAddress,
  OwnAddress,
  DataAddress,
  Offset,
  Element,
  Get,
  Put,
  Load,
  Store,
  Copy,
  Clear,
  IsNull,
  SamePlace,
  Getchar,
  Putchar,
  HeapHandle,
  RegionNew,
  RegionAlloc,
  RegionFree,
  UniqueAlloc,
  UniqueFree,
  KeyNew,
  KeyOpen,
  KeyClose,
  KeyFree,
  Statement,
  Do,
  If,
  While,
  Block,
  Leave,
  Break,
  Continue,
  Call,
  Return,
  Raise,
  Statements,
  NoStatements,
  MoreStatements,
}
use Rattle.core_meaning.specs.Selectable.{Scope, AreBelow, HasCode, HasLinesIn, HaveLinesIn, scope_within}
use Rattle.source_lowering.specs.Lowered.{all_of}
use Rattle.source_lowering.specs.Programs.{
  last_of,
  operation_temporaries,
  statement_temporaries,
  temporaries_of,
  statement_passes,
  passed_by,
}
use Rattle.source_lowering.proofs.bounds.Costs.{max_first, max_second}
use Rattle.selectable_proof.specs.Naming.{NamesIn, IsNaming, AreNaming, CodeNames}

-- ---- code that is put together

pub both_name : (blocks : List ℕ) (own n : ℕ) (xs ys : List Statement) → CodeNames blocks own n xs → CodeNames blocks own n ys
    → CodeNames blocks own n (xs ++ ys)
both_name blocks own n [] ys h g = g
both_name blocks own n (x ∷ xs) ys h g = (h.0, both_name blocks own n xs ys h.1 g)

pub all_name : (blocks : List ℕ) (own n : ℕ) (xs : List Statement) → CodeNames blocks own n xs → AreNaming blocks own n (all_of xs)
all_name blocks own n [] h = tt
all_name blocks own n (x ∷ xs) h = (h.0, all_name blocks own n xs h.1)

-- ---- lines

all_below : (ts : List ℕ) (t : ℕ) → last_of ts ≤ t → AreBelow t ts
all_below [] t h = tt
all_below (x ∷ xs) t h = (max_first (suc x) (last_of xs) t h, all_below xs t (max_second (suc x) (last_of xs) t h))

has_code : (u : Scope) (o : Operation) → NamesIn u.blocks u.unnamed u.data_objects o → operation_temporaries o ≤ u.temporaries → HasCode u o
has_code u (Constant t w) h f = f
has_code u (NullPointer t) h f = f
has_code u (Move t x) h f = (max_first (suc t) (suc x) u.temporaries f, max_second (suc t) (suc x) u.temporaries f)
has_code u (Narrow t x) h f = (max_first (suc t) (suc x) u.temporaries f, max_second (suc t) (suc x) u.temporaries f)
has_code u (Apply o t x y) h f =
    let g = max_second (suc t) (max (suc x) (suc y)) u.temporaries f in
    (max_first (suc t) (max (suc x) (suc y)) u.temporaries f, max_first (suc x) (suc y) u.temporaries g, max_second (suc x) (suc y) u.temporaries g)
has_code u (LocalAddress t out local) h f = (f, h)
has_code u (OwnAddress t object) h f = (f, h)
has_code u (DataAddress t object) h f = (f, h)
has_code u (Offset t p cells bytes) h f = (max_first (suc t) (suc p) u.temporaries f, max_second (suc t) (suc p) u.temporaries f)
has_code u (Element t p i cells bytes) h f =
    let g = max_second (suc t) (max (suc p) (suc i)) u.temporaries f in (
      max_first (suc t) (max (suc p) (suc i)) u.temporaries f,
      max_first (suc p) (suc i) u.temporaries g,
      max_second (suc p) (suc i) u.temporaries g,
      h,
    )
has_code u (Get t out local width) h f = (f, h)
has_code u (Put out local width x) h f = (f, h)
has_code u (Load t p d) h f = (max_first (suc t) (suc p) u.temporaries f, max_second (suc t) (suc p) u.temporaries f)
has_code u (Store p d x) h f = (max_first (suc p) (suc x) u.temporaries f, max_second (suc p) (suc x) u.temporaries f)
has_code u (Copy to from layout) h f = (max_first (suc to) (suc from) u.temporaries f, max_second (suc to) (suc from) u.temporaries f, h.0, h.1)
has_code u (Clear p layout count) h f = (f, h.0, h.1, h.2)
has_code u (IsNull t p) h f = (max_first (suc t) (suc p) u.temporaries f, max_second (suc t) (suc p) u.temporaries f)
has_code u (SamePlace t p q) h f =
    let g = max_second (suc t) (max (suc p) (suc q)) u.temporaries f in
    (max_first (suc t) (max (suc p) (suc q)) u.temporaries f, max_first (suc p) (suc q) u.temporaries g, max_second (suc p) (suc q) u.temporaries g)
has_code u (Getchar t) h f = f
has_code u (Putchar t x) h f = (max_first (suc t) (suc x) u.temporaries f, max_second (suc t) (suc x) u.temporaries f)
has_code u (HeapHandle t) h f = f
has_code u (RegionNew t) h f = f
has_code u (RegionAlloc t k n layout) h f =
    let g = max_second (suc t) (max (suc k) (suc n)) u.temporaries f in
    (max_first (suc t) (max (suc k) (suc n)) u.temporaries f, max_first (suc k) (suc n) u.temporaries g, max_second (suc k) (suc n) u.temporaries g, h)
has_code u (RegionFree k) h f = f
has_code u (UniqueAlloc t layout) h f = (f, h.0, h.1)
has_code u (UniqueFree p) h f = f
has_code u (KeyNew t) h f = f
has_code u (KeyOpen k) h f = f
has_code u (KeyClose k) h f = f
has_code u (KeyFree k) h f = f

mutual
  has_lines : (u : Scope) (s : Statement) → IsNaming u.blocks u.unnamed u.data_objects s → statement_temporaries s ≤ u.temporaries
      → statement_passes s ≤ u.passed → HasLinesIn u s
  has_lines u (Do operation) h f g = has_code u operation h f
  has_lines u (If t these those) h f g =
      let k = max_second (suc t) (max (temporaries_of these) (temporaries_of those)) u.temporaries f in (
        max_first (suc t) (max (temporaries_of these) (temporaries_of those)) u.temporaries f,
        have_lines u these h.0 (max_first (temporaries_of these) (temporaries_of those) u.temporaries k)
            (max_first (passed_by these) (passed_by those) u.passed g),
        have_lines u those h.1 (max_second (temporaries_of these) (temporaries_of those) u.temporaries k)
            (max_second (passed_by these) (passed_by those) u.passed g),
      )
  has_lines u (While test t body) h f g =
      let k = max_second (suc t) (max (temporaries_of test) (temporaries_of body)) u.temporaries f in (
        max_first (suc t) (max (temporaries_of test) (temporaries_of body)) u.temporaries f,
        have_lines u test h.0 (max_first (temporaries_of test) (temporaries_of body) u.temporaries k)
            (max_first (passed_by test) (passed_by body) u.passed g),
        have_lines u body h.1 (max_second (temporaries_of test) (temporaries_of body) u.temporaries k)
            (max_second (passed_by test) (passed_by body) u.passed g),
      )
  has_lines u (Block locals body) h f g = (h.0, have_lines (scope_within locals u) body h.1 f g)
  has_lines u (Leave body) h f g = have_lines u body h f g
  has_lines u Break h f g = tt
  has_lines u Continue h f g = tt
  has_lines u (Call results number arguments) h f g = (
    all_below results u.temporaries (max_first (last_of results) (last_of arguments) u.temporaries f),
    all_below arguments u.temporaries (max_second (last_of results) (last_of arguments) u.temporaries f),
    g,
  )
  has_lines u (Return values) h f g = (all_below values u.temporaries f, h)
  has_lines u (Raise kind) h f g = tt

  pub have_lines : (u : Scope) (ss : Statements) → AreNaming u.blocks u.unnamed u.data_objects ss → temporaries_of ss ≤ u.temporaries → passed_by ss ≤ u.passed
      → HaveLinesIn u ss
  have_lines u NoStatements h f g = tt
  have_lines u (MoreStatements s ss) h f g = (
    has_lines u s h.0 (max_first (statement_temporaries s) (temporaries_of ss) u.temporaries f)
        (max_first (statement_passes s) (passed_by ss) u.passed g),
    have_lines u ss h.1 (max_second (statement_temporaries s) (temporaries_of ss) u.temporaries f)
        (max_second (statement_passes s) (passed_by ss) u.passed g),
  )
