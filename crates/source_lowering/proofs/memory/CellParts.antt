-- The parts of a value's cell: where they lie, what they hold, and what stays when all of them are written.
use Rattle.std.proofs.Common.{◌≡◌, ℕ, suc, ◌+◌, ◌<◌, List, [], ◌∷◌, Bool, true, false, nat_eq, Option, Some, None, refl, sym, ap, ◌∙◌, subst, arith}
use Rattle.std.specs.Prelude.{◌&&◌, if◌then◌else◌}
use Rattle.std.proofs.lemmas.Bool.{eqb-true, eq-eqb, and_parts}
use Rattle.std.proofs.lemmas.Bool.Decides.{nat_tests}
use Rattle.std.proofs.lemmas.Option.{none-some}
use Rattle.source_meaning.specs.Shapes.{Shape}
use Rattle.source_meaning.specs.Memory as source
use Rattle.source_meaning.specs.Memory.{Scalar, Spot, Holds, same_spot, with_cell}
use Rattle.source_meaning.specs.Steps.{World}
use Rattle.source_meaning.proofs.Cases.{spot_is}
use Rattle.core_meaning.specs.Memory as core
use Rattle.core_meaning.specs.Memory.{Content, Part, with_part}
use Rattle.core_meaning.specs.Operations.{fitting}
use Rattle.core_meaning.proofs.Spots.{spot_same, spot_self}
use Rattle.source_lowering.specs.Layouts.{Piece}
use Rattle.source_lowering.specs.Simulation.{at, PartIs, Shown, PartsHold, IsShown, kept_in, SameMemory, Bound, IsFree, Grown}
use Rattle.source_lowering.proofs.memory.Keeping.{stays_self, spot_as, named_free, free_spot, part_kept, shape_kept, unmade_kept, cell, shape_in, content_in}
use Rattle.source_lowering.proofs.memory.Keeping.{m_written, Lasts, shown_kept, IsUnlent, lent_kept, kept_same}

-- ---- parts and contents

-- a part of a cell that begins at a byte
abbrev pub part_of : ℕ → Piece → Content → Part
part_of byte q x = record { offset = byte + q.offset; width = q.width; content = x }

-- the parts of a cell, from one on, hold these contents
abbrev pub PartsAre : core.Memory → core.Spot → (byte j : ℕ) → List Piece → List Content → Type 0
PartsAre c t byte j [] [] = Unit {0}
PartsAre c t byte j [] (x ∷ xs) = ⊥
PartsAre c t byte j (q ∷ qs) [] = ⊥
PartsAre c t byte j (q ∷ qs) (x ∷ xs) = (c.parts t j ≡ Some (part_of byte q x)) × PartsAre c t byte (suc j) qs xs

-- each content fits its part
abbrev pub FitPieces : List Piece → List Content → Type 0
FitPieces [] [] = Unit {0}
FitPieces [] (x ∷ xs) = ⊥
FitPieces (q ∷ qs) [] = ⊥
FitPieces (q ∷ qs) (x ∷ xs) = (fitting q.width x ≡ x) × FitPieces qs xs

-- so do those that are in the first of them; the others are free
abbrev pub FitFirst : List Piece → List Content → Type 0
FitFirst qs [] = Unit {0}
FitFirst [] (x ∷ xs) = ⊥
FitFirst (q ∷ qs) (x ∷ xs) = (fitting q.width x ≡ x) × FitFirst qs xs

pub fit_first : (qs : List Piece) (xs : List Content) → FitPieces qs xs → FitFirst qs xs
fit_first [] [] h = tt
fit_first [] (x ∷ xs) h = absurd h
fit_first (q ∷ qs) [] h = absurd h
fit_first (q ∷ qs) (x ∷ xs) h = (h.0, fit_first qs xs h.1)

-- what they hold first
abbrev pub firsts_of : List Piece → List Content
firsts_of [] = []
firsts_of (q ∷ qs) = q.first ∷ firsts_of qs

abbrev pub Parts : Type 0
Parts = core.Spot → ℕ → Option Part

-- one part is another
abbrev pub one_written : Parts → core.Spot → ℕ → Part → Parts
one_written ps t j p = λ u i. if core.same_spot u t && nat_eq i j then Some p else ps u i

-- the parts of a cell, from one on, get these contents
abbrev pub all_written : Parts → core.Spot → (byte j : ℕ) → List Piece → List Content → Parts
all_written ps t byte j [] xs = ps
all_written ps t byte j (q ∷ qs) [] = ps
all_written ps t byte j (q ∷ qs) (x ∷ xs) = all_written (one_written ps t j (part_of byte q x)) t byte (suc j) qs xs

abbrev pub with_values : core.Memory → core.Spot → (byte : ℕ) → List Piece → List Content → core.Memory
with_values c t byte qs xs = record c { parts = all_written c.parts t byte 0 qs xs }

-- ---- what stays

-- parts of other cells
pub all_other : (ps : Parts) (t : core.Spot) (byte j : ℕ) (qs : List Piece) (xs : List Content) (u : core.Spot) (i : ℕ) → core.same_spot u t ≡ false
    → all_written ps t byte j qs xs u i ≡ ps u i
all_other ps t byte j [] xs u i e = refl
all_other ps t byte j (q ∷ qs) [] u i e = refl
all_other ps t byte j (q ∷ qs) (x ∷ xs) u i e =
    all_other (one_written ps t j (part_of byte q x)) t byte (suc j) qs xs u i e ∙ ap (λ b. if b && nat_eq i j then Some (part_of byte q x) else ps u i) e

and_none : (b : Bool) → (b && false) ≡ false
and_none true = refl
and_none false = refl

-- those before
all_before : (ps : Parts) (t : core.Spot) (byte j : ℕ) (qs : List Piece) (xs : List Content) (u : core.Spot) (i : ℕ) → i < j
    → all_written ps t byte j qs xs u i ≡ ps u i
all_before ps t byte j [] xs u i less = refl
all_before ps t byte j (q ∷ qs) [] u i less = refl
all_before ps t byte j (q ∷ qs) (x ∷ xs) u i less =
    all_before (one_written ps t j (part_of byte q x)) t byte (suc j) qs xs u i (omega (arith, less)) ∙ rw (other, and_none (core.same_spot u t)) refl
  where
    other : nat_eq i j ≡ false
    other = grind (arith, nat_tests, less)

-- those to come are still as they were, of this cell and of others
pub parts_apart : (c : core.Memory) (t u : core.Spot) (byte i j : ℕ) (p : Part) (qs : List Piece) (ys : List Content) → i < j → PartsAre c u byte j qs ys
    → PartsAre (with_part c t i p) u byte j qs ys
parts_apart c t u byte i j p [] [] less h = tt
parts_apart c t u byte i j p [] (y ∷ ys) less h = absurd h
parts_apart c t u byte i j p (q ∷ qs) [] less h = absurd h
parts_apart c t u byte i j p (q ∷ qs) (y ∷ ys) less h =
    (rw (other, and_none (core.same_spot u t)) h.0, parts_apart c t u byte i (suc j) p qs ys (omega (arith, less)) h.1)
  where
    other : nat_eq j i ≡ false
    other = grind (arith, nat_tests, less)

pub parts_after : (c : core.Memory) (t : core.Spot) (byte i j : ℕ) (p : Part) (qs : List Piece) (ys : List Content) → i < j → PartsAre c t byte j qs ys
    → PartsAre (with_part c t i p) t byte j qs ys
parts_after c t byte i j p qs ys less h = parts_apart c t t byte i j p qs ys less h

-- where there is no part, none is written
pub none_written : (c : core.Memory) (t : core.Spot) (byte j : ℕ) (qs : List Piece) (ys xs : List Content) → PartsAre c t byte j qs ys → (u : core.Spot) (i : ℕ)
    → c.parts u i ≡ None → all_written c.parts t byte j qs xs u i ≡ None
none_written c t byte j [] ys xs h u i none = none
none_written c t byte j (q ∷ qs) ys [] h u i none = none
none_written c t byte j (q ∷ qs) [] (x ∷ xs) h u i none = absurd h
none_written c t byte j (q ∷ qs) (y ∷ ys) (x ∷ xs) h u i none =
    none_written (with_part c t j (part_of byte q x)) t byte (suc j) qs ys xs
    (parts_after c t byte j (suc j) (part_of byte q x) qs ys (omega arith) h.1) u i (by (core.same_spot u t && nat_eq i j) refl)
  where
    by : (b : Bool) → (core.same_spot u t && nat_eq i j) ≡ b → (with_part c t j (part_of byte q x)).parts u i ≡ None
    by false e = ap (λ b. if b then Some (part_of byte q x) else c.parts u i) e ∙ none
    by true e =
        let two = and_parts (core.same_spot u t) (nat_eq i j) e in
        absurd (none-some (part_of byte q y)
        (sym none ∙ ap (λ z. c.parts z i) (spot_same u t two.0) ∙ ap (λ z. c.parts t z) (eqb-true i j two.1) ∙ h.0))

-- parts stay where they are
all_kept : (c : core.Memory) (t : core.Spot) (byte j : ℕ) (qs : List Piece) (ys xs : List Content) → PartsAre c t byte j qs ys
    → (u : core.Spot) (i offset width : ℕ) → PartIs c u i offset width → PartIs (record c { parts = all_written c.parts t byte j qs xs }) u i offset width
all_kept c t byte j [] ys xs h u i offset width one = record { content = one.content; is = one.is }
all_kept c t byte j (q ∷ qs) ys [] h u i offset width one = record { content = one.content; is = one.is }
all_kept c t byte j (q ∷ qs) [] (x ∷ xs) h u i offset width one = absurd h
all_kept c t byte j (q ∷ qs) (y ∷ ys) (x ∷ xs) h u i offset width one =
    let c' : core.Memory = with_part c t j (part_of byte q x) in
    let more = all_kept c' t byte (suc j) qs ys xs (parts_after c t byte j (suc j) (part_of byte q x) qs ys (omega arith) h.1) u i offset width
    (part_kept c t j (part_of byte q y) x h.0 u i offset width one) in
    record { content = more.content; is = more.is }

-- the parts hold what was written
pub first_hold : (c : core.Memory) (t : core.Spot) (byte j : ℕ) (qs : List Piece) (xs : List Content) → FitFirst qs xs
    → PartsHold (record c { parts = all_written c.parts t byte j qs xs }) t j xs
first_hold c t byte j [] [] fits = tt
first_hold c t byte j [] (x ∷ xs) fits = absurd fits
first_hold c t byte j (q ∷ qs) [] fits = tt
first_hold c t byte j (q ∷ qs) (x ∷ xs) fits = (
  (
    part_of byte q x,
    (
      all_before (one_written c.parts t j (part_of byte q x)) t byte (suc j) qs xs t j (omega arith) ∙ rw (spot_self t, eq-eqb j j refl) refl,
      refl,
    ),
  ),
  first_hold (with_part c t j (part_of byte q x)) t byte (suc j) qs xs fits.1,
)

pub all_hold : (c : core.Memory) (t : core.Spot) (byte j : ℕ) (qs : List Piece) (xs : List Content) → FitPieces qs xs
    → PartsHold (record c { parts = all_written c.parts t byte j qs xs }) t j xs
all_hold c t byte j qs xs fits = first_hold c t byte j qs xs (fit_first qs xs fits)

-- those of other cells hold what they held
pub held_apart : (c : core.Memory) (ps : Parts) (t : core.Spot) (j : ℕ) (cs : List Content) → ((i : ℕ) → ps t i ≡ c.parts t i) → PartsHold c t j cs
    → PartsHold (record c { parts = ps }) t j cs
held_apart c ps t j [] e h = tt
held_apart c ps t j (x ∷ xs) e ((q, (is, holds)), others) = ((q, (e j ∙ is, holds)), held_apart c ps t (suc j) xs e others)

-- ---- a value is written

-- in Core alone
pub later_put : (b : Bound) (m : source.Memory) (c : core.Memory) (t : core.Spot) (byte : ℕ) (qs : List Piece) (ys xs : List Content) → IsFree b t
    → PartsAre c t byte 0 qs ys → Grown b m c m (with_values c t byte qs xs)
later_put b m c t byte qs ys xs free there = record {
  shapes = λ s shape h. h;
  lent = λ s shape v h. h;
  parts = all_kept c t byte 0 qs ys xs there;
  objects = λ k h. refl;
  begun = omega arith;
  called = omega arith;
  births = omega arith;
  stays = λ d less. stays_self _;
  stands = λ k h. refl;
  owned = λ k u j r h. all_other c.parts t byte 0 qs xs u j (free_spot b t u k free r h);
}

-- in both

pub later_values : (b : Bound) (m : source.Memory) (c : core.Memory) (s : Spot) (shape : Shape) (old new : source.Content) (byte : ℕ) (qs : List Piece)
    (ys xs : List Content) → m.cells s ≡ Some (cell shape old) → IsUnlent m s → PartsAre c (at s) byte 0 qs ys
    → Grown b m c (with_cell m s (cell shape new)) (with_values c (at s) byte qs xs)
later_values b m c s shape old new byte qs ys xs is free there = record {
  shapes = shape_kept m s shape old new is;
  lent = lent_kept m s (cell shape new) free;
  parts = all_kept c (at s) byte 0 qs ys xs there;
  objects = λ k h. refl;
  begun = omega arith;
  called = omega arith;
  births = omega arith;
  stays = λ d less. stays_self _;
  stands = λ k h. refl;
  owned = λ k t j r h. all_other c.parts (at s) byte 0 qs xs t j (free_spot b (at s) t k (named_free b s) r h);
}

pub agree_values : (w : World) (m : source.Memory) (c : core.Memory) (s : Spot) (shape : Shape) (old : source.Content) (v : Scalar) (byte : ℕ)
    (qs : List Piece) (ys xs cs : List Content) → SameMemory w m c → m.cells s ≡ Some (cell shape old) → PartsAre c (at s) byte 0 qs ys
    → PartsHold (with_values c (at s) byte qs xs) (at s) 0 cs → Shown w m c shape v cs
    → SameMemory w (m_written m s shape v) (with_values c (at s) byte qs xs)
agree_values w m c s shape old v byte qs ys xs cs a is there held shown = record {
  cells = λ t other y u keeps h. by (same_spot t s) t other y u keeps refl h;
  live = a.live;
  activations = a.activations;
  unmade = unmade_kept m s shape old (Holds v) is a.unmade;
  unentered = λ k t j h r. none t j (a.unentered k t j h r);
  unbegun = a.unbegun;
  uncalled = λ k t j h r. none t j (a.uncalled k t j h r);
  unowned = a.unowned;
  births = a.births;
  heap = a.heap;
  closed = a.closed;
  unborn = a.unborn;
  blocks = a.blocks;
  ungranted = λ d t j r h. none t j (a.ungranted d t j r h);
}
  where
    m' : source.Memory
    m' = m_written m s shape v

    c' : core.Memory
    c' = with_values c (at s) byte qs xs

    none : (t : core.Spot) (j : ℕ) → c.parts t j ≡ None → c'.parts t j ≡ None
    none = none_written c (at s) byte 0 qs ys xs there

    later : Lasts m c m' c'
    later = record {
      shapes = shape_kept m s shape old (Holds v) is;
      parts = all_kept c (at s) byte 0 qs ys xs there;
      births = omega arith;
      stays = λ d less. stays_self _;
    }

    here : IsShown w m' c' s shape v
    here = record { contents = cs; shown = shown_kept w m m' c c' shape v cs later shown; held = held }

    by : (b : Bool) (t : Spot) (other : Shape) (y : source.Content) (u : Scalar) → kept_in y ≡ Some u → same_spot t s ≡ b → m'.cells t ≡ Some (cell other y)
        → IsShown w m' c' t other u
    by true t other y u keeps e h =
        let same : Some (cell shape (Holds v)) ≡ Some (cell other y) = sym (ap (λ b. if b then Some (cell shape (Holds v)) else m.cells t) e) ∙ h in
        subst (λ z. IsShown w m' c' z other u) (sym (spot_is t s e))
        (subst (λ z. IsShown w m' c' s z u) (ap (shape_in shape) same)
        (subst (λ z. IsShown w m' c' s shape z) (kept_same (Holds v) y v u refl (ap (content_in (Holds v)) same) keeps) here))
    by false t other y u keeps e h =
        let one = a.cells t other y u keeps (sym (ap (λ b. if b then Some (cell shape (Holds v)) else m.cells t) e) ∙ h) in
        record {
          contents = one.contents;
          shown = shown_kept w m m' c c' other u one.contents later one.shown;
          held = held_apart c c'.parts (at t) 0 one.contents (λ i. all_other c.parts (at s) byte 0 qs xs (at t) i (spot_as t s ∙ e)) one.held;
        }

-- in the source alone, whose cell gets what Core's parts show already
pub later_shown : (b : Bound) (m : source.Memory) (c : core.Memory) (s : Spot) (shape : Shape) (old new : source.Content) → m.cells s ≡ Some (cell shape old)
    → IsUnlent m s → Grown b m c (with_cell m s (cell shape new)) c
later_shown b m c s shape old new is free = record {
  shapes = shape_kept m s shape old new is;
  lent = lent_kept m s (cell shape new) free;
  parts = λ t j o w h. h;
  objects = λ k h. refl;
  begun = omega arith;
  called = omega arith;
  births = omega arith;
  stays = λ d less. stays_self _;
  stands = λ k h. refl;
  owned = λ k t j r h. refl;
}

-- it holds the value then, or it is lent
pub agree_keeping : (w : World) (m : source.Memory) (c : core.Memory) (s : Spot) (shape : Shape) (old new : source.Content) (v : Scalar) (xs : List Content)
    → kept_in new ≡ Some v → SameMemory w m c → m.cells s ≡ Some (cell shape old) → PartsHold c (at s) 0 xs → Shown w m c shape v xs
    → SameMemory w (with_cell m s (cell shape new)) c
agree_keeping w m c s shape old new v xs keep a is held shown = record {
  cells = λ t other y u keeps h. by (same_spot t s) t other y u keeps refl h;
  live = a.live;
  activations = a.activations;
  unmade = unmade_kept m s shape old new is a.unmade;
  unentered = a.unentered;
  unbegun = a.unbegun;
  uncalled = a.uncalled;
  unowned = a.unowned;
  births = a.births;
  heap = a.heap;
  closed = a.closed;
  unborn = a.unborn;
  blocks = a.blocks;
  ungranted = a.ungranted;
}
  where
    m' : source.Memory
    m' = with_cell m s (cell shape new)

    later : Lasts m c m' c
    later = record { shapes = shape_kept m s shape old new is; parts = λ t j o x h. h; births = omega arith; stays = λ d less. stays_self _ }

    here : IsShown w m' c s shape v
    here = record { contents = xs; shown = shown_kept w m m' c c shape v xs later shown; held = held }

    by : (b : Bool) (t : Spot) (other : Shape) (y : source.Content) (u : Scalar) → kept_in y ≡ Some u → same_spot t s ≡ b → m'.cells t ≡ Some (cell other y)
        → IsShown w m' c t other u
    by true t other y u keeps e h =
        let same : Some (cell shape new) ≡ Some (cell other y) = sym (ap (λ b. if b then Some (cell shape new) else m.cells t) e) ∙ h in
        subst (λ z. IsShown w m' c z other u) (sym (spot_is t s e))
        (subst (λ z. IsShown w m' c s z u) (ap (shape_in shape) same)
        (subst (λ z. IsShown w m' c s shape z) (kept_same new y v u keep (ap (content_in new) same) keeps) here))
    by false t other y u keeps e h =
        let one = a.cells t other y u keeps (sym (ap (λ b. if b then Some (cell shape new) else m.cells t) e) ∙ h) in
        record { contents = one.contents; shown = shown_kept w m m' c c other u one.contents later one.shown; held = one.held }

pub agree_shown : (w : World) (m : source.Memory) (c : core.Memory) (s : Spot) (shape : Shape) (old : source.Content) (v : Scalar) (xs : List Content)
    → SameMemory w m c → m.cells s ≡ Some (cell shape old) → PartsHold c (at s) 0 xs → Shown w m c shape v xs → SameMemory w (m_written m s shape v) c
agree_shown w m c s shape old v xs a is held shown = agree_keeping w m c s shape old (Holds v) v xs refl a is held shown
