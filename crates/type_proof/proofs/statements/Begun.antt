-- A variable without an initializer, or an array: its cells hold values from the start.
use Rattle.std.proofs.Common.{◌≡◌, ℕ, suc, ◌+◌, ◌<◌, ◌≤◌, Bool, Option, Some, None, List, [], ◌∷◌, refl, sym, ◌∙◌, ap, subst, arith}
use Rattle.std.specs.Prelude.{nat_eq, ◌&&◌, if◌then◌else◌, map, slice_get}
use Rattle.std.proofs.lemmas.Bool.{eq-eqb}
use Rattle.source_meaning.specs.Memory.{Region, Spot, Scalar, Holds, Cell, Object, Live, Memory, beyond, with_cell, with_object, next_spot, is_live}
use Rattle.source_meaning.specs.Memory.{state_is_live, first_cell}
use Rattle.source_meaning.specs.Steps.{Act, ◌>>=◌}
use Rattle.source_meaning.specs.Making.{make_object}
use Rattle.source_typing.specs.Types.{shape_of}
use Rattle.source_meaning.proofs.Cases.{region_itself}
use Rattle.type_proof.specs.Flat.{Tables}
use Rattle.type_proof.proofs.invariant.Facts.{at_region, at_spot, same_at, further, not_further}
use Rattle.type_proof.proofs.invariant.Invariant.{RunType, Owner, Flying, Kept, Reached, type_of, Ghost, Laid, HasType, CellOk, Inv, Grows}
use Rattle.type_proof.proofs.invariant.Runs.{Runs, runs_check}
use Rattle.type_proof.proofs.invariant.Moves.{Class, inv_cells}
use Rattle.type_proof.proofs.invariant.Cells.{cell}
use Rattle.type_proof.proofs.invariant.Layouts.{AllBegin}
use Rattle.type_proof.proofs.invariant.Objects.{FullAt, full_laid, New, old_cells, inv_object, grows_object, filled, inv_filled, grows_filled, untyped}

itself : Class (λ o. o)
itself = record { state = λ o k s h. h; steady = λ o h. h; nobody = λ o h. h; free = refl }

-- storing what a cell holds already changes nothing
pub inv_same : (d : Tables) (w : Ghost) (m : Memory) (s : Spot) (x : Cell) → m.cells s ≡ Some x → Inv d w (with_cell m s x) → Inv d w m
inv_same d w m s x e i = inv_cells d w (with_cell m s x) (λ o. o) m.cells i itself (λ y k h.
    subst (λ (o : Option Cell). CellOk d w y o k) (same y) (i.cells y k h))
  where
    same : (y : Spot) → (with_cell m s x).cells y ≡ m.cells y
    same y = at_spot m.cells s (Some x) y (λ o. o ≡ m.cells y) (λ z. sym e ∙ sym (ap m.cells z)) (λ z. refl)

pub grows_same : (k b : ℕ) (w0 : Ghost) (m0 : Memory) (w : Ghost) (m : Memory) (s : Spot) (x : Cell) → m.cells s ≡ Some x
    → Grows k b w0 m0 w (with_cell m s x) → Grows k b w0 m0 w m
grows_same k b w0 m0 w m s x e g = record {
  types = g.types;
  above = g.above;
  old = g.old;
  known = g.known;
  keyed = g.keyed;
  scoped = g.scoped;
  nobody = g.nobody;
  state = g.state;
  flying = g.flying;
  pinned = g.pinned;
  kept = λ y t j p l h. sym (same y) ∙ g.kept y t j p l h;
  bare = g.bare;
  blank = λ y n l. sym (same y) ∙ g.blank y n l;
  objects = g.objects;
}
  where
    same : (y : Spot) → (with_cell m s x).cells y ≡ m.cells y
    same y = at_spot m.cells s (Some x) y (λ o. o ≡ m.cells y) (λ z. sym e ∙ sym (ap m.cells z)) (λ z. refl)

-- ---- cells that hold a value from the start

-- cells without types that begin with their first values
abbrev pub BegunAt : Ghost → Memory → Spot → List RunType → Type 0
BegunAt w m s [] = Unit {0}
BegunAt w m s (t ∷ ts) = (w.types s ≡ None) × (m.cells s ≡ Some (first_cell (shape_of t))) × BegunAt w m (beyond s 1) ts

-- the cells of an object that begin so
pub begun_slice : (w : Ghost) (m : Memory) (s : Spot) (ts : List RunType) → ((j : ℕ) → w.types (beyond s j) ≡ None)
    → ((j : ℕ) → m.cells (beyond s j) ≡ slice_get (map first_cell (map shape_of ts)) j) → BegunAt w m s ts
begun_slice w m s [] none here = tt
begun_slice w m s (t ∷ ts) none here = (
  sym (ap w.types (not_further s)) ∙ none 0,
  sym (ap m.cells (not_further s)) ∙ here 0,
  begun_slice w m (beyond s 1) ts (λ j. ap w.types (further s 1 j (suc j) (omega arith)) ∙ none (suc j))
      (λ j. ap m.cells (further s 1 j (suc j) (omega arith)) ∙ here (suc j)),
)

-- a cell without a type that holds a value of one, whatever else there is
pub record Held (w : Ghost) (m : Memory) (s : Spot) (t : RunType) : Type 0 where
  pub none : w.types s ≡ None
  pub value : Scalar
  pub is : m.cells s ≡ Some (cell t (Holds value))
  pub typed : (d : Tables) (w' : Ghost) (by : Owner) → HasType d w' by value t

abbrev pub HeldAt : Ghost → Memory → Spot → List RunType → Type 0
HeldAt w m s [] = Unit {0}
HeldAt w m s (t ∷ ts) = Held w m s t × HeldAt w m (beyond s 1) ts

held_begun : (w : Ghost) (m : Memory) (s : Spot) (ts : List RunType) → AllBegin ts → BegunAt w m s ts → HeldAt w m s ts
held_begun w m s [] a h = tt
held_begun w m s (t ∷ ts) a h = (
  record {
    none = h.0;
    value = a.0.value;
    is = h.1 ∙ ap (λ c. Some (record { shape = shape_of t; content = c })) a.0.first;
    typed = a.0.typed;
  },
  held_begun w m (beyond s 1) ts a.1 h.2,
)

held_later : (w : Ghost) (m : Memory) (s y : Spot) (kept : Kept) (k : ℕ) (ts : List RunType) → s.cell < y.cell → HeldAt w m y ts
    → HeldAt (filled s kept k 0 w) m y ts
held_later w m s y kept k [] l h = tt
held_later w m s y kept k (t ∷ ts) l h = (
  record {
    none = at_spot w.types s (Some kept) y (λ z. z ≡ None) (λ z. absurd (let a = ap (λ (p : Spot). p.cell) z in omega (arith, l))) (λ z. h.0.none);
    value = h.0.value;
    is = h.0.is;
    typed = h.0.typed;
  },
  held_later w m s (beyond y 1) kept k ts (omega (arith, l)) h.1,
)

-- the ghost in which they have types; where the object is new, nothing else grows by it
pub record Typed (d : Tables) (k b : ℕ) (K : RunType → Kept) (w : Ghost) (m : Memory) (s : Spot) (ts : List RunType) : Type 0 where
  pub ghost : Ghost
  pub inv : Inv d ghost m
  pub grows : (w0 : Ghost) (m0 : Memory) → m0.objects s.region ≤ s.object → Grows k b w0 m0 w m → Grows k b w0 m0 ghost m
  pub values : List Scalar
  pub full : FullAt K ghost m s ts values
  pub keeps : (y : Spot) (q : Kept) → w.types y ≡ Some q → ghost.types y ≡ Some q
  pub others : (y : Spot) → (y.object ≡ s.object → ⊥) → ghost.types y ≡ w.types y

pub held_typed : (d : Tables) (k b : ℕ) (K : RunType → Kept) (w : Ghost) (m : Memory) (s : Spot) (ts : List RunType) → ((t : RunType) → type_of (K t) ≡ t)
    → Inv d w m → s.object < m.objects s.region
    → HeldAt w m s ts → Typed d k b K w m s ts
held_typed d k b K w m s [] same i there h =
    record { ghost = w; inv = i; grows = λ w0 m0 new g. g; values = []; full = tt; keeps = λ y q e. e; others = λ y n. refl }
held_typed d k b K w m s (t ∷ ts) same i there h =
    let x : Cell = cell t (Holds h.0.value) in
    let w1 : Ghost = filled s (K t) k 0 w in
    let i1 : Inv d w1 m = inv_same d w1 m s x h.0.is (subst (λ (u : RunType). Inv d w1 (with_cell m s (cell u (Holds h.0.value)))) (same t)
    (inv_filled d w m s (K t) k 0 h.0.value i h.0.none there
    (subst (λ (u : RunType). HasType d w (Flying k 0) h.0.value u) (sym (same t)) (h.0.typed d w (Flying k 0))))) in
    let kept : (y : Spot) (q : Kept) → w.types y ≡ Some q → w1.types y ≡ Some q =
    (λ y q e. at_spot w.types s (Some (K t)) y (λ z. z ≡ Some q) (λ z. absurd (bare h.0.none (ap w.types z) e)) (λ z. e)) in
    let r : Typed d k b K w1 m (beyond s 1) ts =
    held_typed d k b K w1 m (beyond s 1) ts same i1 there (held_later w m s (beyond s 1) (K t) k ts (omega arith) h.1) in
    record {
      ghost = r.ghost;
      inv = r.inv;
      grows = λ w0 m0 new g. r.grows w0 m0 new (grows_same k b w0 m0 w1 m s x h.0.is (grows_filled k b w0 w m0 m s (K t) 0 x g h.0.none new));
      values = h.0.value ∷ r.values;
      full = (r.keeps s (K t) (same_at s (Some (K t)) (w.types s)), h.0.is, r.full);
      keeps = λ y q e. r.keeps y q (kept y q e);
      others = λ y n. r.others y n
          ∙ at_spot w.types s (Some (K t)) y (λ z. z ≡ w.types y) (λ z. absurd (n (ap (λ (p : Spot). p.object) z))) (λ z. refl);
    }
  where
    bare : {o p : Option Kept} {q : Kept} → o ≡ None → p ≡ o → p ≡ Some q → ⊥
    bare a b c = cc

pub cells_typed : (d : Tables) (k b : ℕ) (K : RunType → Kept) (w : Ghost) (m : Memory) (s : Spot) (ts : List RunType) → ((t : RunType) → type_of (K t) ≡ t)
    → Inv d w m → s.object < m.objects s.region
    → AllBegin ts → BegunAt w m s ts → Typed d k b K w m s ts
cells_typed d k b K w m s ts same i there a h = held_typed d k b K w m s ts same i there (held_begun w m s ts a h)

-- cells that pointers may reach
pub typed_laid : (d : Tables) (k b : ℕ) (w : Ghost) (m : Memory) (s : Spot) (ts : List RunType) → (z : Typed d k b (λ u. Reached u) w m s ts)
    → Laid z.ghost s ts
typed_laid d k b w m s ts z = full_laid z.ghost m s ts z.values z.full

-- a new object whose cells hold their first values
pub runs_begun : {B : Type 0} (d : Tables) (n k b : ℕ) (K : RunType → Kept) (w : Ghost) (m : Memory) (r : Region) (o : Object) (ts : List RunType)
    (rest : Spot → Act B)
    (Q : B → Memory → Type 0) → ((t : RunType) → type_of (K t) ≡ t) → Inv d w m → m.state r ≡ Live → AllBegin ts
    → ((j : ℕ) → o j ≡ slice_get (map first_cell (map shape_of ts)) j)
    → ((at : Spot) (w' : Ghost) (m' : Memory) → Inv d w' m' → Grows k b w m w' m' → New m m' r at
    → ((y : Spot) (q : Kept) → w.types y ≡ Some q → m'.cells y ≡ m.cells y) → (vs : List Scalar) → FullAt K w' m' at ts vs → Runs n (rest at) m' Q)
    → Runs n (make_object r o >>= rest) m Q
runs_begun d n k b K w m r o ts rest Q same i l begins first go =
    let m1 : Memory = with_object m r o in
    let at : Spot = next_spot m r in
    let there : at.object < m1.objects at.region =
    at_region m.objects r (m.objects r + 1) r (λ y. m.objects r < y) (λ e. omega arith) (λ e. absurd (e refl)) in
    let z : Typed d k b K w m1 at ts =
    cells_typed d k b K w m1 at ts same (inv_object d w m r o i l) there begins
    (begun_slice w m1 at ts (λ j. untyped d w m (beyond at j) i (omega arith) (w.types (beyond at j)) refl) (λ j.
    ap (λ (c : Bool). if c && nat_eq (m.objects r) (m.objects r) then o (0 + j) else m.cells (beyond at j)) (region_itself r)
    ∙ (ap (λ (c : Bool). if c then o (0 + j) else m.cells (beyond at j)) (eq-eqb (m.objects r) (m.objects r) refl) ∙ (ap o (omega arith) ∙ first j)))) in
    let done = go at z.ghost m1 z.inv (z.grows w m (omega arith) (grows_object d k b w m r o i))
    (record { region = refl; object = refl; first = refl; counted = there })
    (λ y q e. old_cells m r o y (i.counted y q e)) z.values z.full in
    record {
      by = λ next q. (runs_check n (is_live m r) (λ next2 m2. rest at next2 m1) m Q (ap state_is_live l)
          (record { by = λ next2 q2. done.by next2 q2 })).by next q;
    }
