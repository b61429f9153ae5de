-- New objects, and locals in them.
use Rattle.std.proofs.Common.{◌≡◌, ℕ, suc, ◌+◌, ◌<◌, ◌≤◌, Bool, true, false, inl, inr, Option, Some, None, List, [], ◌∷◌, refl, sym, ◌∙◌, ap, subst, arith}
use Rattle.std.specs.Prelude.{nat_eq, ◌&&◌, map, slice_get, if◌then◌else◌}
use Rattle.std.proofs.lemmas.Bool.{false≢true, eq-eqb}
use Rattle.std.proofs.lemmas.Bool.Decides.{eqb_tells}
use Rattle.source_meaning.specs.Memory.{Region, Spot, Scalar, Holds, Blank, Cell, Object, Live, Memory, same_region, same_spot, with_cell, with_object}
use Rattle.source_meaning.specs.Memory.{next_spot, is_live, state_is_live, beyond, blank_cell, blank_object}
use Rattle.source_meaning.specs.Steps.{Act, ◌>>=◌, ◌>>◌}
use Rattle.source_meaning.specs.Values.{write_cells}
use Rattle.source_meaning.specs.Making.{make_object}
use Rattle.source_typing.specs.Types.{shape_of}
use Rattle.source_meaning.proofs.Cases.{region_is, region_itself}
use Rattle.type_proof.specs.Flat.{Tables}
use Rattle.type_proof.proofs.invariant.Facts.{if_cases, at_region, at_spot, same_at}
use Rattle.type_proof.proofs.invariant.Invariant.{RunType, Flying, InCell, Kept, Reached, Private, type_of, Ghost, Laid, HasType, HaveTypes, CellOk, Known, Inv}
use Rattle.type_proof.proofs.invariant.Invariant.{Grows}
use Rattle.type_proof.proofs.invariant.Values.{value_kept, values_kept}
use Rattle.type_proof.proofs.invariant.Moves.{passing, Class, cell_kept, into, into_class}
use Rattle.type_proof.proofs.invariant.Births.{known_live}
use Rattle.type_proof.proofs.invariant.Runs.{Runs, runs_check}
use Rattle.type_proof.proofs.invariant.Cells.{cell, into_it, seen, typed_is, runs_write}
use Rattle.type_proof.proofs.invariant.After.{flying}

-- ---- an object whose cells have no type yet

pub inv_object : (d : Tables) (w : Ghost) (m : Memory) (r : Region) (o : Object) → Inv d w m → m.state r ≡ Live → Inv d w (with_object m r o)
inv_object d w m r o i l = record {
  cells = λ s k e. subst (λ (x : Bool). CellOk d w s (if x then o s.cell else m.cells s) k) (sym (older s k e)) (i.cells s k e);
  counted = λ s k e. let c : s.object < m.objects s.region = i.counted s k e in
      at_region m.objects r (m.objects r + 1) s.region (λ x. s.object < x)
      (λ z. let p : m.objects s.region ≡ m.objects r = ap m.objects z in omega (arith, c, p)) (λ z. c);
  states = i.states;
  closed = i.closed;
  rests = i.rests;
  sole = i.sole;
  itself = i.itself;
  under_heap = i.under_heap;
  top = i.top;
  heap_lives = i.heap_lives;
  heap_is_free = i.heap_is_free;
  frames = i.frames;
  unborn = i.unborn;
  unowned = i.unowned;
  empty = λ q k. at_region m.objects r (m.objects r + 1) q (λ x. x ≡ 0) (λ z. absurd (k (subst (λ (x : Region). Known m x) (sym z) (known_live d w m r i l))))
      (λ z. i.empty q k);
  born_upper = i.born_upper;
  born_lower = i.born_lower;
  along = i.along;
}
  where
    apart : (s : Spot) → s.object < m.objects s.region → (b : Bool) → same_region s.region r ≡ b → b && nat_eq s.object (m.objects r) ≡ false
    apart s c true e = elim (eqb_tells s.object (m.objects r)) [
      | inl f ↦ absurd (let p : m.objects s.region ≡ m.objects r = ap m.objects (region_is s.region r e) in let q = f.1 in omega (arith, c, p))
      | inr f ↦ f.0
    ]
    apart s c false e = refl

    older : (s : Spot) (k : Kept) → w.types s ≡ Some k → same_region s.region r && nat_eq s.object (m.objects r) ≡ false
    older s k e = apart s (i.counted s k e) (same_region s.region r) refl

new_apart : (m : Memory) (r : Region) (s : Spot) → s.object < m.objects s.region → (b : Bool) → same_region s.region r ≡ b → b && nat_eq s.object (m.objects r)
    ≡ false
new_apart m r s c true e = elim (eqb_tells s.object (m.objects r)) [
  | inl f ↦ absurd (let p : m.objects s.region ≡ m.objects r = ap m.objects (region_is s.region r e) in let q = f.1 in omega (arith, c, p))
  | inr f ↦ f.0
]
new_apart m r s c false e = refl

pub old_cells : (m : Memory) (r : Region) (o : Object) (s : Spot) → s.object < m.objects s.region → (with_object m r o).cells s ≡ m.cells s
old_cells m r o s c = ap (λ (x : Bool). if x then o s.cell else m.cells s) (new_apart m r s c (same_region s.region r) refl)

pub grows_object : (d : Tables) (k b : ℕ) (w : Ghost) (m : Memory) (r : Region) (o : Object) → Inv d w m → Grows k b w m w (with_object m r o)
grows_object d k b w m r o i = record {
  types = λ s t e. e;
  above = λ q p e. e;
  old = λ q p n e. e;
  known = λ q h. h;
  keyed = λ q h. refl;
  scoped = λ q h e. e;
  nobody = λ q e. e;
  state = λ q e. refl;
  flying = λ q x c l e. e;
  pinned = λ q x l e. e;
  kept = λ s t j e l h. old_cells m r o s (i.counted s (Private t) h);
  bare = λ s e l. e;
  blank = λ s e l. old_cells m r o s l;
  objects = λ q. at_region m.objects r (m.objects r + 1) q (λ x. m.objects q ≤ x) (λ z. let p : m.objects q ≡ m.objects r = ap m.objects z in omega (arith, p))
      (λ z. omega arith);
}

-- ---- a cell without a type gets a value, and with it its type

abbrev pub typed : Spot → Kept → Ghost → Ghost
typed s k w = record w { types = λ t. if same_spot t s then Some k else w.types t }

abbrev pub filled : Spot → Kept → ℕ → ℕ → Ghost → Ghost
filled s kept k c w = passing (into s k c) (typed s kept w)

still : (w : Ghost) (s : Spot) (kept : Kept) → w.types s ≡ None → (x : Spot) (k : Kept) → w.types x ≡ Some k → (typed s kept w).types x ≡ Some k
still w s kept none x k e = at_spot w.types s (Some kept) x (λ z. z ≡ Some k) (λ z. absurd (let a = ap w.types z in cc)) (λ z. e)

pub inv_filled : (d : Tables) (w : Ghost) (m : Memory) (s : Spot) (kept : Kept) (k c : ℕ) (v : Scalar) → Inv d w m → w.types s ≡ None
    → s.object < m.objects s.region → HasType d w (Flying k c) v (type_of kept) → Inv d (filled s kept k c w) (with_cell m s (cell (type_of kept) (Holds v)))
inv_filled d w m s kept k c v i none there h = record {
  cells = λ x q e. at_spot w.types s (Some kept) x (λ z. z ≡ Some q → CellOk d w' x (if same_spot x s then Some new else m.cells x) q)
      (λ z f. subst (λ (y : Spot). CellOk d w' y (if same_spot y s then Some new else m.cells y) q) (sym z)
      (subst (λ (o : Option Cell). CellOk d w' s o q) (sym (same_at s (Some new) (m.cells s)))
      (let same : kept ≡ q = cc in subst (λ (y : Kept). CellOk d w' s (Some new) y) same (here kept h))))
      (λ z f. subst (λ (o : Option Cell). CellOk d w' x o q) (sym (at_spot m.cells s (Some new) x (λ y. y ≡ m.cells x) (λ y. absurd (z y)) (λ y. refl)))
      (cell_kept d w w' x (m.cells x) q (record {
        types = λ y u a. still w s kept none y (Reached u) a;
        above = λ a b u. u;
        owner = λ b u. ap (into s k c) u;
        keyed = λ b u. refl;
      }) (i.cells x q f))) e;
  counted = λ x q e. at_spot w.types s (Some kept) x (λ z. z ≡ Some q → x.object < m.objects x.region)
      (λ z f. subst (λ (y : Spot). y.object < m.objects y.region) (sym z) there) (λ z f. i.counted x q f) e;
  states = λ r. held.state _ _ _ (i.states r);
  closed = i.closed;
  rests = λ r q l e n. held.steady _ (i.rests r q l e n);
  sole = λ r q n e ne. i.sole r q (λ x. n (ap (into s k c) x)) e ne;
  itself = i.itself;
  under_heap = i.under_heap;
  top = i.top;
  heap_lives = i.heap_lives;
  heap_is_free = ap (into s k c) i.heap_is_free;
  frames = λ j. ap (into s k c) (i.frames j);
  unborn = i.unborn;
  unowned = λ r n. ap (into s k c) (i.unowned r n);
  empty = i.empty;
  born_upper = i.born_upper;
  born_lower = i.born_lower;
  along = i.along;
}
  where
    w' : Ghost
    w' = filled s kept k c w

    new : Cell
    new = cell (type_of kept) (Holds v)

    held : Class (into s k c)
    held = into_class s k c

    now : (t : RunType) → HasType d w (Flying k c) v t → HasType d w' (InCell s) v t
    now t x = value_kept d w w' (Flying k c) (InCell s) v t
        (record {
          types = λ y u a. still w s kept none y (Reached u) a;
          above = λ a b u. u;
          owner = λ b u. ap (into s k c) u ∙ into_it s k c;
          keyed = λ b u.
              refl;
        }) x

    here : (q : Kept) → HasType d w (Flying k c) v (type_of q) → CellOk d w' s (Some (cell (type_of q) (Holds v))) q
    here (Reached t) x = record { content = Holds v; is = refl; ok = record { value = v; is = refl; typed = now t x } }
    here (Private t) x = record {
      content = Holds v;
      is = refl;
      ok = λ u a. let z : v ≡ u =
          cc in subst (λ (y : Scalar). HasType d w' (InCell s) y t) z (now t x);
    }

pub grows_filled : (k b : ℕ) (w0 w : Ghost) (m0 m : Memory) (s : Spot) (kept : Kept) (c : ℕ) (x : Cell) → Grows k b w0 m0 w m → w.types s ≡ None
    → m0.objects s.region ≤ s.object → Grows k b w0 m0 (filled s kept k c w) (with_cell m s x)
grows_filled k b w0 w m0 m s kept c x g none new = record {
  types = λ y q e. still w s kept none y q (g.types y q e);
  above = g.above;
  old = g.old;
  known = g.known;
  keyed = g.keyed;
  scoped = λ r n e. ap (into s k c) (g.scoped r n e);
  nobody = λ r e. g.nobody r (held.nobody _ e);
  state = λ r e. g.state r (held.nobody _ e);
  flying = λ r i j l e. ap (into s k c) (g.flying r i j l e) ∙ below i j l;
  pinned = λ r i l e. ap (into s k c) (g.pinned r i l e);
  kept = λ y t j e l h. at_spot m.cells s (Some x) y (λ z. z ≡ m0.cells y)
      (λ z. absurd (let p : w.types y ≡ Some (Private t) = g.types y (Private t) h in let a = ap w.types z in cc)) (λ z. g.kept y t j e l h);
  bare = λ y e l. at_spot w.types s (Some kept) y (λ z. z ≡ None) (λ z. absurd (older y l z)) (λ z. g.bare y e l);
  blank = λ y e l. at_spot m.cells s (Some x) y (λ z. z ≡ m0.cells y) (λ z. absurd (older y l z)) (λ z. g.blank y e l);
  objects = g.objects;
}
  where
    held : Class (into s k c)
    held = into_class s k c

    older : (y : Spot) → y.object < m0.objects y.region → y ≡ s → ⊥
    older y l z = let p : s.object < m0.objects s.region = subst (λ (q : Spot). q.object < m0.objects q.region) z l in omega (arith, p, new)

    below : (i j : ℕ) → i < k → into s k c (Flying i j) ≡ Flying i j
    below i j l = elim (eqb_tells i k) [
      | inl e ↦ absurd (let f = e.1 in omega (arith, l))
      | inr e ↦ ap (λ (q : Bool). if q && nat_eq j c then InCell s else Flying i j) e.0
    ]

-- cells of these types to which nothing was stored yet
abbrev pub BlankAt : Ghost → Memory → Spot → List RunType → Type 0
BlankAt w m s [] = Unit {0}
BlankAt w m s (t ∷ ts) = (w.types s ≡ None) × (m.cells s ≡ Some (cell t Blank)) × BlankAt w m (beyond s 1) ts

-- cells of these types that hold these values
abbrev pub FullAt : (RunType → Kept) → Ghost → Memory → Spot → List RunType → List Scalar → Type 0
FullAt K w m s [] [] = Unit {0}
FullAt K w m s (t ∷ ts) (v ∷ vs) = (w.types s ≡ Some (K t)) × (m.cells s ≡ Some (cell t (Holds v))) × FullAt K w m (beyond s 1) ts vs
FullAt K w m s [] (v ∷ vs) = ⊥
FullAt K w m s (t ∷ ts) [] = ⊥

blank_later : (w : Ghost) (m : Memory) (s y : Spot) (kept : Kept) (k c : ℕ) (x : Cell) (ts : List RunType) → s.cell < y.cell → BlankAt w m y ts
    → BlankAt (filled s kept k c w) (with_cell m s x) y ts
blank_later w m s y kept k c x [] l h = tt
blank_later w m s y kept k c x (t ∷ ts) l h = (
  at_spot w.types s (Some kept) y (λ z. z ≡ None) (λ z. absurd (let a = ap (λ (p : Spot). p.cell) z in omega (arith, l))) (λ z. h.0),
  at_spot m.cells s (Some x) y (λ z. z ≡ Some (cell t Blank)) (λ z. absurd (let a = ap (λ (p : Spot). p.cell) z in omega (arith, l))) (λ z. h.1),
  blank_later w m s (beyond y 1) kept k c x ts (omega (arith, l)) h.2,
)

-- a value that came into new cells: what else is on its way stays so, and no other cell is touched
pub record Settles (k : ℕ) (w : Ghost) (m : Memory) (w' : Ghost) (m' : Memory) : Type 0 where
  pub flights : (r : Region) (i c : ℕ) → (i ≡ k → ⊥) → w.owner r ≡ Flying i c → w'.owner r ≡ Flying i c
  pub keyed : (r : Region) → w'.keyed r ≡ w.keyed r
  pub cells : (y : Spot) (q : Kept) → w.types y ≡ Some q → m'.cells y ≡ m.cells y

into_apart : (s : Spot) (k c i j : ℕ) → (i ≡ k → ⊥) → into s k c (Flying i j) ≡ Flying i j
into_apart s k c i j n = elim (eqb_tells i k) [
  | inl e ↦ absurd (n e.1)
  | inr e ↦ ap (λ (q : Bool). if q && nat_eq j c then InCell s else Flying i j) e.0
]

pub runs_fill : {B : Type 0} (d : Tables) (n k b c : ℕ) (K : RunType → Kept) (w0 w : Ghost) (m0 m : Memory) (s : Spot) (ts : List RunType) (vs : List Scalar)
    (g : Act B) (Q : B → Memory → Type 0) → ((t : RunType) → type_of (K t) ≡ t) → Inv d w m → m.state s.region ≡ Live → m0.objects s.region ≤ s.object
    → s.object < m.objects s.region → BlankAt w m s ts → HaveTypes d w (flying k c) vs ts → Grows k b w0 m0 w m
    → ((w' : Ghost) (m' : Memory) → Inv d w' m' → Grows k b w0 m0 w' m' → FullAt K w' m' s ts vs → m'.state ≡ m.state → m'.objects ≡ m.objects
    → ((y : Spot) → y.cell < s.cell → m'.cells y ≡ m.cells y) → ((y : Spot) (q : Kept) → w.types y ≡ Some q → w'.types y ≡ Some q) → Settles k w m w' m'
    → Runs n g m' Q) → Runs n (write_cells s vs >> g) m Q
runs_fill d n k b c K w0 w m0 m s [] [] g Q same i l new there h hv g0 r =
    record {
      by = λ next q. (r w m i g0 tt refl refl (λ y p. refl) (λ y q e. e)
          (record { flights = λ x a e n2 z. z; keyed = λ x. refl; cells = λ y q e. refl })).by next q;
    }
runs_fill d n k b c K w0 w m0 m s (t ∷ ts) (v ∷ vs) g Q same i l new there h hv g0 r =
    let first : HasType d w (Flying k c) v t = subst (λ (q : ℕ). HasType d w (Flying k q) v t) (omega arith) hv.0 in
    let w1 : Ghost = filled s (K t) k c w in
    let m1 : Memory = with_cell m s (cell t (Holds v)) in
    let i1 : Inv d w1 m1 = subst (λ (x : RunType). Inv d w1 (with_cell m s (cell x (Holds v)))) (same t)
    (inv_filled d w m s (K t) k c v i h.0 there (subst (λ (x : RunType). HasType d w (Flying k c) v x) (sym (same t)) first)) in
    let g1 : Grows k b w0 m0 w1 m1 = grows_filled k b w0 w m0 m s (K t) c (cell t (Holds v)) g0 h.0 new in
    let rest : HaveTypes d w1 (flying k (suc c)) vs ts = values_kept d w w1 (λ j. flying k c (suc j)) (flying k (suc c)) vs ts (λ j. record {
      types = λ y u a. still w s (K t) h.0 y (Reached u) a;
      above = λ a q u. u;
      keyed = λ q u. refl;
      owner = λ q u. ap (into s k c) u ∙ later s (c + suc j) (λ e. omega arith) ∙ ap (Flying k) (omega arith);
    }) hv.1 in
    let tail = runs_fill d n k b (suc c) K w0 w1 m0 m1 (beyond s 1) ts vs g Q same i1 l new there
    (blank_later w m s (beyond s 1) (K t) k c (cell t (Holds v)) ts (omega arith) h.2) rest g1
    (λ w' m' i' g' full st os older types settled. r w' m' i' g'
    (types s (K t) (same_at s (Some (K t)) (w.types s)), older s (omega arith) ∙ same_at s (Some (cell t (Holds v))) (m.cells s), full) st os
    (λ y p. older y (omega (arith, p)) ∙ at_spot m.cells s (Some (cell t (Holds v))) y (λ z. z ≡ m.cells y)
    (λ z. absurd (let a = ap (λ (q : Spot). q.cell) z in omega (arith, p))) (λ z. refl))
    (λ y q e. types y q (still w s (K t) h.0 y q e))
    (record {
      flights = λ x a e ne z. settled.flights x a e ne (ap (into s k c) z ∙ into_apart s k c a e ne);
      keyed = λ x. settled.keyed x;
      cells = λ y q e. settled.cells y q (still w s (K t) h.0 y q e)
          ∙ at_spot m.cells s (Some (cell t (Holds v))) y (λ z. z ≡ m.cells y) (λ z. absurd (let a = ap w.types z in let b0 : w.types s ≡ None = h.0 in cc))
          (λ z. refl);
    })) in
    runs_write n s (shape_of t) Blank v (write_cells (beyond s 1) vs >> g) m Q (seen m s _ l h.1) refl (typed_is d w (Flying k c) v t first)
    (record { by = λ next q. tail.by next q })
  where
    later : (s : Spot) (j : ℕ) → (j ≡ c → ⊥) → into s k c (Flying k j) ≡ Flying k j
    later s j x = elim (eqb_tells j c) [
      | inl e ↦ absurd (x e.1)
      | inr e ↦ if_cases (nat_eq k k && nat_eq j c) (InCell s) (Flying k j) (λ o. o ≡ Flying k j)
          (λ z. absurd (false≢true (sym e.0 ∙ both (nat_eq k k) (nat_eq j c) z))) (λ z. refl)
    ]
      where
        both : (a b : Bool) → a && b ≡ true → b ≡ true
        both true b h = h
        both false b h = absurd (false≢true h)
runs_fill d n k b c K w0 w m0 m s [] (v ∷ vs) g Q same i l new there h hv g0 r = absurd hv
runs_fill d n k b c K w0 w m0 m s (t ∷ ts) [] g Q same i l new there h hv g0 r = absurd hv

-- ---- a new object that gets its value at once, as a local and what `new` makes

pub untyped : (d : Tables) (w : Ghost) (m : Memory) (s : Spot) → Inv d w m → m.objects s.region ≤ s.object → (o : Option Kept) → w.types s ≡ o → w.types s
    ≡ None
untyped d w m s i h None e = e
untyped d w m s i h (Some k) e = absurd (let c : s.object < m.objects s.region = i.counted s k e in omega (arith, c, h))

pub blank_from : (d : Tables) (w : Ghost) (m : Memory) (r : Region) (o : Object) (j : ℕ) (ts : List RunType) → Inv d w m
    → ((k : ℕ) → o (j + k) ≡ slice_get (map blank_cell (map shape_of ts)) k)
    → BlankAt w (with_object m r o) (record { region = r; object = m.objects r; cell = j }) ts
blank_from d w m r o j [] i h = tt
blank_from d w m r o j (t ∷ ts) i h = (
  untyped d w m (record { region = r; object = m.objects r; cell = j }) i (omega arith) _ refl,
  ap (λ (b : Bool). if b && nat_eq (m.objects r) (m.objects r) then o j else m.cells (record { region = r; object = m.objects r; cell = j })) (region_itself r)
      ∙ ap (λ (b : Bool). if b then o j else m.cells (record { region = r; object = m.objects r; cell = j })) (eq-eqb (m.objects r) (m.objects r) refl)
      ∙ ap o (omega arith) ∙ h 0,
  blank_from d w m r o (j + 1) ts i (λ k. ap o (omega arith) ∙ h (suc k)),
)

-- where a new object lies: after all that there were
pub record New (m m' : Memory) (r : Region) (at : Spot) : Type 0 where
  pub region : at.region ≡ r
  pub object : at.object ≡ m.objects r
  pub first : at.cell ≡ 0
  pub counted : at.object < m'.objects r

pub runs_made : {B : Type 0} (d : Tables) (n k b : ℕ) (K : RunType → Kept) (w : Ghost) (m : Memory) (r : Region) (ts : List RunType) (vs : List Scalar)
    (rest : Spot → Act B) (Q : B → Memory → Type 0) → ((t : RunType) → type_of (K t) ≡ t) → Inv d w m → m.state r ≡ Live → HaveTypes d w (flying k 0) vs ts
    → ((at : Spot) (w' : Ghost) (m' : Memory) → Inv d w' m' → Grows k b w m w' m' → New m m' r at → FullAt K w' m' at ts vs → m'.state ≡ m.state
    → Settles k w m w' m' → Runs n (rest at) m' Q) → Runs n (make_object r (blank_object (map shape_of ts)) >>= λ at. write_cells at vs >> rest at) m Q
runs_made d n k b K w m r ts vs rest Q same i l hv go =
    let o : Object = blank_object (map shape_of ts) in
    let m1 : Memory = with_object m r o in
    let at : Spot = next_spot m r in
    let i1 : Inv d w m1 = inv_object d w m r o i l in
    let there : at.object < m1.objects at.region = at_region m.objects r (m.objects r + 1) r (λ x. m.objects r < x) (λ e. omega arith) (λ e. absurd (e refl)) in
    let fill = runs_fill d n k b 0 K w w m m1 at ts vs (rest at) Q same i1 l (omega arith) there (blank_from d w m r o 0 ts i (λ j. ap o (omega arith))) hv
    (grows_object d k b w m r o i) (λ w' m' i' g' full st os older types z.
    go at w' m' i' g' (record { region = refl; object = refl; first = refl; counted = subst (λ (c : Region → ℕ). m.objects r < c r) (sym os) there }) full st
    (record { flights = z.flights; keyed = z.keyed; cells = λ y q e. z.cells y q e ∙ old_cells m r o y (i.counted y q e) })) in
    record {
      by = λ next q. (runs_check n (is_live m r) (λ next2 m2. (write_cells at vs >> rest at) next2 m1) m Q (ap state_is_live l)
          (record { by = λ next2 q2. fill.by next2 q2 })).by next q;
    }

-- cells that hold a value are there
pub full_laid : (w : Ghost) (m : Memory) (s : Spot) (ts : List RunType) (vs : List Scalar) → FullAt (λ t. Reached t) w m s ts vs → Laid w s ts
full_laid w m s [] [] h = tt
full_laid w m s (t ∷ ts) (v ∷ vs) h = (h.0, full_laid w m (beyond s 1) ts vs h.2)
full_laid w m s [] (v ∷ vs) h = absurd h
full_laid w m s (t ∷ ts) [] h = absurd h
