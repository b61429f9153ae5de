-- What later memories keep.
use Rattle.std.proofs.Common.{◌≡◌, ℕ, suc, ◌<◌, Bool, true, false, inl, inr, Option, Some, None, refl, sym, ◌∙◌, ap, subst, arith}
use Rattle.std.specs.Prelude.{if◌then◌else◌}
use Rattle.source_meaning.specs.Memory.{Region, Frame, Spot, Cell, State, Live, Dead, Memory, same_region, with_state}
use Rattle.type_proof.specs.Flat.{Tables}
use Rattle.type_proof.proofs.invariant.Facts.{at_region}
use Rattle.type_proof.proofs.invariant.Invariant.{RunType, heap, Owner, Nobody, Flying, Pinned, Private, Ghost, Steady, ByScope, Counted, Known, Inv, Grows}
use Rattle.type_proof.proofs.invariant.Moves.{passing, with_cells, Class, owned_by, Alone}
use Rattle.type_proof.proofs.invariant.Births.{bearing, with_birth, Births, known_live, nobody_or_not}

pub grows_refl : (k b : ℕ) (w : Ghost) (m : Memory) → Grows k b w m w m
grows_refl k b w m = record {
  types = λ s t e. e;
  above = λ q r e. e;
  old = λ q r n e. e;
  known = λ r h. h;
  keyed = λ r h. refl;
  scoped = λ r h e. e;
  nobody = λ r e. e;
  state = λ r e. refl;
  flying = λ r i c l e. e;
  pinned = λ r i l e. e;
  kept = λ s t j e l h. refl;
  bare = λ s e l. e;
  blank = λ s e l. refl;
  objects = λ r. omega arith;
}

pub grows_trans : {k b : ℕ} {w w' w'' : Ghost} {m m' m'' : Memory} → Grows k b w m w' m' → Grows k b w' m' w'' m'' → Grows k b w m w'' m''
grows_trans x y = record {
  types = λ s t e. y.types s t (x.types s t e);
  above = λ q r e. y.above q r (x.above q r e);
  old = λ q r n e. x.old q r n (y.old q r (x.known r n) e);
  known = λ r h. y.known r (x.known r h);
  keyed = λ r h. y.keyed r (x.known r h) ∙ x.keyed r h;
  scoped = λ r h e. y.scoped r (x.known r h) (x.scoped r h e);
  nobody = λ r e. x.nobody r (y.nobody r e);
  state = λ r e. y.state r e ∙ x.state r (y.nobody r e);
  flying = λ r i c l e. y.flying r i c l (x.flying r i c l e);
  pinned = λ r i l e. y.pinned r i l (x.pinned r i l e);
  kept = λ s t j e l h. y.kept s t j e l (x.types s (Private t) h) ∙ x.kept s t j e l h;
  bare = λ s e l. let o = x.objects s.region in y.bare s (x.bare s e l) (omega (arith, l, o));
  blank = λ s e l. let o = x.objects s.region in y.blank s (x.bare s e l) (omega (arith, l, o)) ∙ x.blank s e l;
  objects = λ r. let o = x.objects r in let p = y.objects r in omega (arith, o, p);
}

pub grows_less : {k b : ℕ} {w w' : Ghost} {m m' : Memory} → Grows (suc k) b w m w' m' → Grows k b w m w' m'
grows_less x = record {
  types = x.types;
  above = x.above;
  old = x.old;
  known = x.known;
  keyed = x.keyed;
  scoped = x.scoped;
  nobody = x.nobody;
  state = x.state;
  flying = λ r i c l e. x.flying r i c (omega (arith, l)) e;
  pinned = λ r i l e. x.pinned r i (omega (arith, l)) e;
  kept = x.kept;
  bare = x.bare;
  blank = x.blank;
  objects = x.objects;
}

-- rights pass, and cells change that are no noncopyable locals of callers
pub grows_cells : (k b : ℕ) (w : Ghost) (m : Memory) (f : Owner → Owner) (c : Spot → Option Cell) → Class f → ((i j : ℕ) → i < k → f (Flying i j) ≡ Flying i j)
    → ((i : ℕ) → f (Pinned i) ≡ Pinned i) → ((s : Spot) (t : RunType) (j : ℕ) → s.region ≡ Frame j → j < b → w.types s ≡ Some (Private t) → c s ≡ m.cells s)
    → ((s : Spot) → w.types s ≡ None → c s ≡ m.cells s) → Grows k b w m (passing f w) (with_cells m c)
grows_cells k b w m f c h fl pin kept bare = record {
  types = λ s t e. e;
  above = λ q r e. e;
  old = λ q r n e. e;
  known = λ r h. h;
  keyed = λ r h. refl;
  scoped = λ r n e. ap f e ∙ h.free;
  nobody = λ r e. h.nobody _ e;
  state = λ r e. refl;
  flying = λ r i j l e. ap f e ∙ fl i j l;
  pinned = λ r i l e. ap f e ∙ pin i;
  kept = kept;
  bare = λ s e l. e;
  blank = λ s e l. bare s e;
  objects = λ r. omega arith;
}

-- a right and its region's state change
pub grows_turn : (k b : ℕ) (w : Ghost) (m : Memory) (r : Region) (o : Owner) (st : State) → (w.owner r ≡ Nobody → ⊥) → (o ≡ Nobody → ⊥)
    → ((i j : ℕ) → i < k → w.owner r ≡ Flying i j → ⊥) → ((i : ℕ) → i < k → w.owner r ≡ Pinned i → ⊥) → Grows k b w m (owned_by w r o) (with_state m r st)
grows_turn k b w m r o st had gets nf np = record {
  types = λ s t e. e;
  above = λ q p e. e;
  old = λ q p n e. e;
  known = λ q h. h;
  keyed = λ q h. refl;
  scoped = λ q h e. at_region w.owner r o q (λ x. x ≡ Nobody) (λ z. absurd (had (sym (ap w.owner z) ∙ e))) (λ z. e);
  nobody = λ q. at_region w.owner r o q (λ x. x ≡ Nobody → w.owner q ≡ Nobody) (λ z e. absurd (gets e)) (λ z e. e);
  state = λ q. at_region w.owner r o q (λ x. x ≡ Nobody → (if same_region q r then st else m.state q) ≡ m.state q)
      (λ z e. absurd (gets e)) (λ z e. at_region m.state r st q (λ x. x ≡ m.state q) (λ y. absurd (z y)) (λ y. refl));
  flying = λ q i j l e. at_region w.owner r o q (λ x. x ≡ Flying i j) (λ z. absurd (nf i j l (sym (ap w.owner z) ∙ e))) (λ z. e);
  pinned = λ q i l e. at_region w.owner r o q (λ x. x ≡ Pinned i) (λ z. absurd (np i l (sym (ap w.owner z) ∙ e))) (λ z. e);
  kept = λ s t j e l h. refl;
  bare = λ s e l. e;
  blank = λ s e l. refl;
  objects = λ r. omega arith;
}

not_known : (w : Ghost) (m : Memory) (r q : Region) → (Known m r → ⊥) → Known m q → q ≡ r → ⊥
not_known w m r q n k e = n (subst (λ (x : Region). Known m x) e k)

-- a region with a right is born
pub grows_birth : (d : Tables) (k b : ℕ) (w : Ghost) (m : Memory) (x y : ℕ) (r : Region) (st : State) (u : Region → Bool) (o : Owner) (f : Bool) → Inv d w m
    → Births w m x y r st u o f → (o ≡ Nobody → ⊥) → Grows k b w m (bearing w r u o f) (with_birth m x y r st)
grows_birth d k b w m x y r st u o f i n gets = record {
  types = λ s t e. e;
  above = λ q p e. at_region (λ z. w.above q p) r (u q) p (λ z. z ≡ true) (λ g. absurd (not_known w m r p n.new (i.born_lower q p e) g)) (λ g. e);
  old = λ q p k. at_region (λ z. w.above q p) r (u q) p (λ z. z ≡ true → w.above q p ≡ true) (λ g. absurd (not_known w m r p n.new k g)) (λ g e. e);
  known = n.more;
  keyed = λ q k. at_region w.keyed r f q (λ z. z ≡ w.keyed q) (λ g. absurd (not_known w m r q n.new k g)) (λ g. refl);
  scoped = λ q k e. at_region w.owner r o q (λ z. z ≡ Nobody) (λ g. absurd (not_known w m r q n.new k g)) (λ g. e);
  nobody = λ q. at_region w.owner r o q (λ z. z ≡ Nobody → w.owner q ≡ Nobody) (λ g e. absurd (gets e)) (λ g e. e);
  state = λ q. at_region w.owner r o q (λ z. z ≡ Nobody → (if same_region q r then st else m.state q) ≡ m.state q)
      (λ g e. absurd (gets e)) (λ g e. at_region m.state r st q (λ z. z ≡ m.state q) (λ y. absurd (g y)) (λ y. refl));
  flying = λ q c j l e. at_region w.owner r o q (λ z. z ≡ Flying c j)
      (λ g. absurd (let a : w.owner r ≡ Nobody = i.unowned r n.new in let z = ap w.owner g in cc)) (λ g. e);
  pinned = λ q c l e. at_region w.owner r o q (λ z. z ≡ Pinned c) (λ g. absurd (let a : w.owner r ≡ Nobody = i.unowned r n.new in let z = ap w.owner g in cc))
      (λ g. e);
  kept = λ s t j e l h. refl;
  bare = λ s e l. e;
  blank = λ s e l. refl;
  objects = λ r. omega arith;
}

-- a scoped region is born, and what comes after it left the region
pub grows_scope : (d : Tables) (k b : ℕ) (w : Ghost) (m : Memory) (x y : ℕ) (r : Region) (u : Region → Bool) (w2 : Ghost) (m2 : Memory) → Inv d w m
    → Births w m x y r Live u Nobody false → Grows k b (bearing w r u Nobody false) (with_birth m x y r Live) w2 m2 → Grows k b w m w2 (with_state m2 r Dead)
grows_scope d k b w m x y r u w2 m2 i n g = record {
  types = g.types;
  above = λ q p e. g.above q p (at_region (λ z. w.above q p) r (u q) p (λ z. z ≡ true) (λ h. absurd (not_known w m r p n.new (i.born_lower q p e) h)) (λ h. e));
  old = λ q p h e. at_region (λ z. w.above q p) r (u q) p (λ z. z ≡ true → w.above q p ≡ true) (λ z. absurd (not_known w m r p n.new h z)) (λ z v. v)
      (g.old q p (n.more p h) e);
  known = λ q h. g.known q (n.more q h);
  keyed = λ q h. g.keyed q (n.more q h) ∙ at_region w.keyed r false q (λ z. z ≡ w.keyed q) (λ z. absurd (not_known w m r q n.new h z)) (λ z. refl);
  scoped = λ q h e. g.scoped q (n.more q h) (at_region w.owner r Nobody q (λ z. z ≡ Nobody) (λ z. refl) (λ z. e));
  nobody = λ q e. at_region w.owner r Nobody q (λ z. z ≡ Nobody → w.owner q ≡ Nobody) (λ z v. ap w.owner z ∙ i.unowned r n.new) (λ z v. v) (g.nobody q e);
  state = λ q e. at_region m2.state r Dead q (λ z. z ≡ m.state q)
      (λ z. sym (i.unborn r n.new) ∙ sym (ap m.state z))
      (λ z. g.state q e ∙ at_region m.state r Live q (λ v. v ≡ m.state q) (λ v. absurd (z v)) (λ v. refl));
  flying = λ q c j l e. g.flying q c j l (at_region w.owner r Nobody q (λ z. z ≡ Flying c j)
      (λ h. absurd (let a : w.owner r ≡ Nobody = i.unowned r n.new in let z = ap w.owner h in cc)) (λ h. e));
  pinned = λ q c l e. g.pinned q c l (at_region w.owner r Nobody q (λ z. z ≡ Pinned c)
      (λ h. absurd (let a : w.owner r ≡ Nobody = i.unowned r n.new in let z = ap w.owner h in cc)) (λ h. e));
  kept = g.kept;
  bare = g.bare;
  blank = g.blank;
  objects = g.objects;
}

-- nothing that is live rests on a scoped region when it is left
pub scope_alone : (d : Tables) (k b : ℕ) (w : Ghost) (m : Memory) (x y : ℕ) (r : Region) (u : Region → Bool) (w2 : Ghost) (m2 : Memory) → Inv d w m
    → Births w m x y r Live u Nobody false → (r ≡ heap → ⊥) → Inv d (bearing w r u Nobody false) (with_birth m x y r Live) → Inv d w2 m2
    → Grows k b (bearing w r u Nobody false) (with_birth m x y r Live) w2 m2 → Alone w2 m2 r
scope_alone d k b w m x y r u w2 m2 i n nh i1 i2 g q l a ne = elim (nobody_or_not (w2.owner q)) [
  | inl e ↦
      (let was : (if same_region q r then Live else m.state q) ≡ Live = sym (g.state q e) ∙ l in
      let kn : Counted x y q = known_live d (bearing w r u Nobody false) (with_birth m x y r Live) q i1 was in
      let up : (if same_region q r then u r else w.above r q) ≡ true = g.old r q kn a in
      at_region (λ z. w.above r q) r (u r) q (λ z. z ≡ true → ⊥) (λ z v. ne z) (λ z v. n.new (i.born_upper r q v)) up)
  | inr e ↦ nh (i2.sole q r e a (λ z. ne (sym z)))
]

-- nothing that is live rests on a region when its loan ends
pub loan_alone : (d : Tables) (k b : ℕ) (w : Ghost) (m : Memory) (r : Region) (o : Owner) (st : State) (w2 : Ghost) (m2 : Memory) → Inv d w m
    → (Steady (w.owner r) → ⊥) → Inv d (owned_by w r o) (with_state m r st) → Inv d w2 m2 → Grows k b (owned_by w r o) (with_state m r st) w2 m2 → Alone w2 m2 r
loan_alone d k b w m r o st w2 m2 i un i1 i2 g q l a ne = elim (nobody_or_not (w2.owner q)) [
  | inl e ↦
      (let was : (if same_region q r then st else m.state q) ≡ Live = sym (g.state q e) ∙ l in
      let kn : Known m q = known_live d (owned_by w r o) (with_state m r st) q i1 was in
      let live : m.state q ≡ Live = at_region m.state r st q (λ z. z ≡ Live → m.state q ≡ Live) (λ z v. absurd (ne z)) (λ z v. v) was in
      un (i.rests q r live (g.old r q kn a) (λ z. ne (sym z))))
  | inr e ↦ un (subst Steady (sym (ap w.owner (i2.sole q r e a (λ z. ne (sym z))) ∙ i.heap_is_free)) ByScope)
]
