-- What each move in memory keeps.
use Rattle.std.proofs.Common.{◌≡◌, ℕ, Bool, true, ◌⊎◌, inl, inr, Option, Some, refl, sym, ◌∙◌, ap, subst}
use Rattle.std.specs.Prelude.{nat_eq, ◌&&◌, if◌then◌else◌}
use Rattle.std.proofs.lemmas.Bool.{cases_Bool}
use Rattle.source_meaning.specs.Memory.{Region, Frame, Born, Spot, Cell, State, Live, Dead, Memory, same_region, same_spot, with_state}
use Rattle.source_meaning.proofs.Cases.{region_is}
use Rattle.type_proof.specs.Flat.{Tables}
use Rattle.type_proof.proofs.invariant.Facts.{if_cases, at_region, not_region}
use Rattle.type_proof.proofs.invariant.Invariant.{heap, Owner, Nobody, Flying, Returned, Pinned, InCell, Freed, Kept, Ghost, CellOk, Steady, ByScope, StateOk}
use Rattle.type_proof.proofs.invariant.Invariant.{Inv}
use Rattle.type_proof.proofs.invariant.Values.{Carries, content_kept}

pub cell_kept : (d : Tables) (w w' : Ghost) (s : Spot) (o : Option Cell) (k : Kept) → Carries w w' (InCell s) (InCell s) → CellOk d w s o k → CellOk d w' s o k
cell_kept d w w' s o k c h = record { content = h.content; is = h.is; ok = content_kept d w w' s h.content k c h.ok }

-- ---- rights pass from cell to cell, or to values on their way

abbrev pub passing : (Owner → Owner) → Ghost → Ghost
passing f w = record w { owner = λ r. f (w.owner r) }

abbrev pub with_cells : Memory → (Spot → Option Cell) → Memory
with_cells m c = record m { cells = c }

-- held rights stay held, and nothing else changes
pub record Class (f : Owner → Owner) : Type 0 where
  pub state : (o : Owner) (keyed : Bool) (s : State) → StateOk o keyed s → StateOk (f o) keyed s
  pub steady : (o : Owner) → Steady o → Steady (f o)
  pub nobody : (o : Owner) → f o ≡ Nobody → o ≡ Nobody
  pub free : f Nobody ≡ Nobody

pub inv_cells : (d : Tables) (w : Ghost) (m : Memory) (f : Owner → Owner) (c : Spot → Option Cell) → Inv d w m → Class f
    → ((s : Spot) (k : Kept) → w.types s ≡ Some k → CellOk d (passing f w) s (c s) k) → Inv d (passing f w) (with_cells m c)
inv_cells d w m f c i t h = record {
  cells = h;
  counted = i.counted;
  states = λ r. t.state _ _ _ (i.states r);
  closed = i.closed;
  rests = λ r q l e n. t.steady _ (i.rests r q l e n);
  sole = λ r q n e ne. i.sole r q (λ x. n (ap f x ∙ t.free)) e ne;
  itself = i.itself;
  under_heap = i.under_heap;
  top = i.top;
  heap_lives = i.heap_lives;
  heap_is_free = ap f i.heap_is_free ∙ t.free;
  frames = λ j. ap f (i.frames j) ∙ t.free;
  unborn = i.unborn;
  unowned = λ r n. ap f (i.unowned r n) ∙ t.free;
  empty = i.empty;
  born_upper = i.born_upper;
  born_lower = i.born_lower;
  along = i.along;
}

-- a cell's right comes to a value on its way
abbrev pub out_of : Spot → ℕ → ℕ → Owner → Owner
out_of s i k Nobody = Nobody
out_of s i k (Flying j c) = Flying j c
out_of s i k (Pinned j) = Pinned j
out_of s i k (Returned j) = Returned j
out_of s i k (InCell x) = (if same_spot x s then Flying i k else InCell x)
out_of s i k Freed = Freed

pub out_class : (s : Spot) (i k : ℕ) → Class (out_of s i k)
out_class s i k = record { state = held; steady = stands; nobody = was; free = refl }
  where
    held : (o : Owner) (keyed : Bool) (st : State) → StateOk o keyed st → StateOk (out_of s i k o) keyed st
    held Nobody keyed st h = h
    held (Flying j c) keyed st h = h
    held (Pinned j) keyed st h = h
    held (Returned j) keyed st h = h
    held (InCell x) keyed st h = if_cases (same_spot x s) (Flying i k) (InCell x) (λ o. StateOk o keyed st) (λ e. h) (λ e. h)
    held Freed keyed st h = h

    stands : (o : Owner) → Steady o → Steady (out_of s i k o)
    stands Nobody h = h
    stands (Flying j c) h = h
    stands (Pinned j) h = h
    stands (Returned j) h = elim h [ ]
    stands (InCell x) h = elim h [ ]
    stands Freed h = h

    was : (o : Owner) → out_of s i k o ≡ Nobody → o ≡ Nobody
    was Nobody h = h
    was (Flying j c) h = h
    was (Pinned j) h = h
    was (Returned j) h = h
    was (InCell x) h = if_cases (same_spot x s) (Flying i k) (InCell x) (λ o. o ≡ Nobody → InCell x ≡ Nobody) (λ e z. absurd (cc)) (λ e z. z) h
    was Freed h = h

-- a value on its way comes into a cell
abbrev pub into : Spot → ℕ → ℕ → Owner → Owner
into s i k Nobody = Nobody
into s i k (Flying j c) = (if nat_eq j i && nat_eq c k then InCell s else Flying j c)
into s i k (Pinned j) = Pinned j
into s i k (Returned j) = Returned j
into s i k (InCell x) = InCell x
into s i k Freed = Freed

pub into_class : (s : Spot) (i k : ℕ) → Class (into s i k)
into_class s i k = record { state = held; steady = stands; nobody = was; free = refl }
  where
    held : (o : Owner) (keyed : Bool) (st : State) → StateOk o keyed st → StateOk (into s i k o) keyed st
    held Nobody keyed st h = h
    held (Flying j c) keyed st h = if_cases (nat_eq j i && nat_eq c k) (InCell s) (Flying j c) (λ o. StateOk o keyed st) (λ e. h) (λ e. h)
    held (Pinned j) keyed st h = h
    held (Returned j) keyed st h = h
    held (InCell x) keyed st h = h
    held Freed keyed st h = h

    stands : (o : Owner) → Steady o → Steady (into s i k o)
    stands Nobody h = h
    stands (Flying j c) h = elim h [ ]
    stands (Pinned j) h = h
    stands (Returned j) h = elim h [ ]
    stands (InCell x) h = h
    stands Freed h = h

    was : (o : Owner) → into s i k o ≡ Nobody → o ≡ Nobody
    was Nobody h = h
    was (Flying j c) h = if_cases (nat_eq j i && nat_eq c k) (InCell s) (Flying j c) (λ o. o ≡ Nobody → Flying j c ≡ Nobody) (λ e z. absurd (cc)) (λ e z. z) h
    was (Pinned j) h = h
    was (Returned j) h = h
    was (InCell x) h = h
    was Freed h = h

-- two cells exchange their rights
abbrev pub other_of : Spot → Spot → Spot → Spot
other_of s t x = (if same_spot x s then t else (if same_spot x t then s else x))

abbrev pub swapped : Spot → Spot → Owner → Owner
swapped s t Nobody = Nobody
swapped s t (Flying j c) = Flying j c
swapped s t (Pinned j) = Pinned j
swapped s t (Returned j) = Returned j
swapped s t (InCell x) = InCell (other_of s t x)
swapped s t Freed = Freed

pub swap_class : (s t : Spot) → Class (swapped s t)
swap_class s t = record { state = held; steady = stands; nobody = was; free = refl }
  where
    held : (o : Owner) (keyed : Bool) (st : State) → StateOk o keyed st → StateOk (swapped s t o) keyed st
    held Nobody keyed st h = h
    held (Flying j c) keyed st h = h
    held (Pinned j) keyed st h = h
    held (Returned j) keyed st h = h
    held (InCell x) keyed st h = h
    held Freed keyed st h = h

    stands : (o : Owner) → Steady o → Steady (swapped s t o)
    stands Nobody h = h
    stands (Flying j c) h = h
    stands (Pinned j) h = h
    stands (Returned j) h = elim h [ ]
    stands (InCell x) h = elim h [ ]
    stands Freed h = h

    was : (o : Owner) → swapped s t o ≡ Nobody → o ≡ Nobody
    was Nobody h = h
    was (Flying j c) h = absurd (cc)
    was (Pinned j) h = absurd (cc)
    was (Returned j) h = absurd (cc)
    was (InCell x) h = absurd (cc)
    was Freed h = absurd (cc)

-- ---- a right and its region's state change together

abbrev pub owned_by : Ghost → Region → Owner → Ghost
owned_by w r o = record w { owner = λ q. if same_region q r then o else w.owner q }

-- nothing else that is live rests on a region
abbrev pub Alone : Ghost → Memory → Region → Type 0
Alone w m r = (q : Region) → m.state q ≡ Live → w.above r q ≡ true → (q ≡ r → ⊥) → ⊥

pub record Turns (w : Ghost) (m : Memory) (r : Region) (o : Owner) (st : State) : Type 0 where
  pub had : w.owner r ≡ Nobody → ⊥
  pub gets : o ≡ Nobody → ⊥
  pub ok : StateOk o (w.keyed r) st
  pub alone : (Steady o × (st ≡ Live)) ⊎ Alone w m r
  -- no cell has it, before or after
  pub away : (s : Spot) → w.owner r ≡ InCell s → ⊥

both_at : {A B : Type 0} (f : Region → A) (g : Region → B) (r : Region) (a : A) (b : B) (q : Region) (P : A → B → Type 0) → (q ≡ r → P a b)
    → ((q ≡ r → ⊥) → P (f q) (g q)) → P (if same_region q r then a else f q) (if same_region q r then b else g q)
both_at f g r a b q P h k = elim (cases_Bool (same_region q r)) [
  | inl e ↦ subst (λ (x : Bool). P (if x then a else f q) (if x then b else g q)) (sym e) (h (region_is q r e))
  | inr e ↦ subst (λ (x : Bool). P (if x then a else f q) (if x then b else g q)) (sym e) (k (not_region q r e))
]

pub inv_turn : (d : Tables) (w : Ghost) (m : Memory) (r : Region) (o : Owner) (st : State) → Inv d w m → Turns w m r o st
    → Inv d (owned_by w r o) (with_state m r st)
inv_turn d w m r o st i t = record {
  cells = λ s k e. cell_kept d w (owned_by w r o) s (m.cells s) k (carries s) (i.cells s k e);
  counted = i.counted;
  states = λ q. both_at w.owner m.state r o st q (λ x y. StateOk x (w.keyed q) y)
      (λ e. subst (λ (x : Region). StateOk o (w.keyed x) st) (sym e) t.ok) (λ n. i.states q);
  closed = λ q p. at_region m.state r st q (λ x. x ≡ Live → w.above p q ≡ true → (if same_region p r then st else m.state p) ≡ Live)
      (λ e l a. at_region m.state r st p (λ y. y ≡ Live) (λ f. l)
      (λ n. let z : p ≡ heap = i.sole r p t.had (subst (λ (x : Region). w.above p x ≡ true) e a) n in ap m.state z ∙ i.heap_lives))
      (λ n l a. at_region m.state r st p (λ y. y ≡ Live) (λ f. lives q (λ x. n x) l (subst (λ (x : Region). w.above x q ≡ true) f a)) (λ k. i.closed q p l a));
  rests = λ q p. at_region m.state r st q (λ x. x ≡ Live → w.above p q ≡ true → (p ≡ q → ⊥) → Steady (if same_region p r then o else w.owner p))
      (λ e l a ne. at_region w.owner r o p (λ y. Steady y) (λ f. absurd (ne (f ∙ sym e)))
      (λ n. let z : p ≡ heap = i.sole r p t.had (subst (λ (x : Region). w.above p x ≡ true) e a) n in subst Steady (sym (ap w.owner z ∙ i.heap_is_free))
      ByScope))
      (λ n l a ne. at_region w.owner r o p (λ y. Steady y) (λ f. stands q (λ x. n x) l (subst (λ (x : Region). w.above x q ≡ true) f a))
      (λ k. i.rests q p l a ne));
  sole = λ q p n e ne. i.sole q p (λ x. n (at_region w.owner r o q (λ y. y ≡ Nobody) (λ f. absurd (t.had (sym (ap w.owner f) ∙ x))) (λ f. x))) e ne;
  itself = i.itself;
  under_heap = i.under_heap;
  top = i.top;
  heap_lives = at_region m.state r st heap (λ y. y ≡ Live) (λ e. absurd (t.had (sym (ap w.owner e) ∙ i.heap_is_free))) (λ n. i.heap_lives);
  heap_is_free = at_region w.owner r o heap (λ y. y ≡ Nobody) (λ e. absurd (t.had (sym (ap w.owner e) ∙ i.heap_is_free))) (λ n. i.heap_is_free);
  frames = λ j. at_region w.owner r o (Frame j) (λ y. y ≡ Nobody) (λ e. absurd (t.had (sym (ap w.owner e) ∙ i.frames j))) (λ n. i.frames j);
  unborn = λ q u. at_region m.state r st q (λ y. y ≡ Dead) (λ e. absurd (t.had (sym (ap w.owner e) ∙ i.unowned q u))) (λ n. i.unborn q u);
  unowned = λ q u. at_region w.owner r o q (λ y. y ≡ Nobody) (λ e. absurd (t.had (sym (ap w.owner e) ∙ i.unowned q u))) (λ n. i.unowned q u);
  empty = i.empty;
  born_upper = i.born_upper;
  born_lower = i.born_lower;
  along = i.along;
}
  where
    carries : (s : Spot) → Carries w (owned_by w r o) (InCell s) (InCell s)
    carries s = record {
      types = λ x k e. e;
      above = λ q p e. e;
      keyed = λ b e. refl;
      owner = λ b e. at_region w.owner r o (Born b) (λ y. y ≡ InCell s) (λ f. absurd (t.away s (sym (ap w.owner f) ∙ e))) (λ n. e);
    }

    lives : (q : Region) → (q ≡ r → ⊥) → m.state q ≡ Live → w.above r q ≡ true → st ≡ Live
    lives q n l a = elim t.alone [ inl x ↦ x.1 | inr x ↦ absurd (x q l a n) ]

    stands : (q : Region) → (q ≡ r → ⊥) → m.state q ≡ Live → w.above r q ≡ true → Steady o
    stands q n l a = elim t.alone [ inl x ↦ x.0 | inr x ↦ absurd (x q l a n) ]

-- nothing rests on a region whose right is held and not lent
pub held_alone : (d : Tables) (w : Ghost) (m : Memory) (r : Region) → Inv d w m → (Steady (w.owner r) → ⊥) → Alone w m r
held_alone d w m r i n q l a ne = n (i.rests q r l a (λ e. ne (sym e)))
