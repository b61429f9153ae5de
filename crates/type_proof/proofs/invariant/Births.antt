-- Regions are born and left.
use Rattle.std.proofs.Common.{◌≡◌, ℕ, Bool, true, ◌⊎◌, inl, inr, refl, sym, ◌∙◌, ap, subst}
use Rattle.std.specs.Prelude.{if◌then◌else◌}
use Rattle.std.proofs.Math.Decide.{dec_lt}
use Rattle.std.proofs.lemmas.Bool.{cases_Bool}
use Rattle.source_meaning.specs.Memory.{Region, Frame, Born, Spot, State, Live, Dead, Memory, same_region, with_state}
use Rattle.source_meaning.proofs.Cases.{region_is, region_itself}
use Rattle.type_proof.specs.Flat.{Tables}
use Rattle.type_proof.proofs.invariant.Facts.{at_region, not_region}
use Rattle.type_proof.proofs.invariant.Invariant.{heap, Owner, Nobody, Flying, Returned, Pinned, InCell, Freed, Ghost, Steady, StateOk, Counted, Known, Inv}
use Rattle.type_proof.proofs.invariant.Values.{Carries}
use Rattle.type_proof.proofs.invariant.Moves.{cell_kept, Alone}

pub known_or_not : (m : Memory) (r : Region) → Known m r ⊎ (Known m r → ⊥)
known_or_not m (Frame k) = elim (dec_lt k m.activations) [ yes h ↦ inl h | no h ↦ inr h ]
known_or_not m (Born k) = elim (dec_lt k m.births) [ yes h ↦ inl h | no h ↦ inr h ]

pub known_live : (d : Tables) (w : Ghost) (m : Memory) (r : Region) → Inv d w m → m.state r ≡ Live → Known m r
known_live d w m r i l = elim (known_or_not m r) [ inl h ↦ h | inr h ↦ absurd (let e : m.state r ≡ Dead = i.unborn r h in cc) ]

pub nobody_or_not : (o : Owner) → (o ≡ Nobody) ⊎ (o ≡ Nobody → ⊥)
nobody_or_not Nobody = inl refl
nobody_or_not (Flying i k) = inr (λ e. cc)
nobody_or_not (Pinned i) = inr (λ e. cc)
nobody_or_not (Returned i) = inr (λ e. cc)
nobody_or_not (InCell s) = inr (λ e. cc)
nobody_or_not Freed = inr (λ e. cc)

-- ---- births

abbrev pub bearing : Ghost → Region → (Region → Bool) → Owner → Bool → Ghost
bearing w r u o f = record w {
  above = λ q p. if same_region p r then u q else w.above q p;
  owner = λ q. if same_region q r then o else w.owner q;
  keyed = λ q. if same_region q r then f else w.keyed q;
}

abbrev pub with_birth : Memory → ℕ → ℕ → Region → State → Memory
with_birth m a b r st = with_state (record m { activations = a; births = b }) r st

-- a new region: what outlives it, its right, and whether a key opens it
pub record Births (w : Ghost) (m : Memory) (a b : ℕ) (r : Region) (st : State) (u : Region → Bool) (o : Owner) (f : Bool) : Type 0 where
  pub new : Known m r → ⊥
  pub here : Counted a b r
  pub more : (q : Region) → Known m q → Counted a b q
  pub only : (q : Region) → Counted a b q → (q ≡ r → ⊥) → Known m q
  pub ok : StateOk o f st
  pub up_itself : u r ≡ true
  pub up_heap : u heap ≡ true
  pub up_live : (q : Region) → u q ≡ true → (q ≡ r → ⊥) → m.state q ≡ Live
  pub up_steady : (q : Region) → u q ≡ true → (q ≡ r → ⊥) → Steady (w.owner q)
  pub up_along : (p q : Region) → w.above p q ≡ true → u q ≡ true → (q ≡ r → ⊥) → u p ≡ true
  pub up_sole : (q : Region) → (o ≡ Nobody → ⊥) → u q ≡ true → (q ≡ r → ⊥) → q ≡ heap
  pub framed : (j : ℕ) → r ≡ Frame j → o ≡ Nobody

all_at : {A B C : Type 0} (f : Region → A) (g : Region → B) (h : Region → C) (r : Region) (a : A) (b : B) (c : C) (q : Region) (P : A → B → C → Type 0)
    → (q ≡ r → P a b c) → ((q ≡ r → ⊥) → P (f q) (g q) (h q))
    → P (if same_region q r then a else f q) (if same_region q r then b else g q) (if same_region q r then c else h q)
all_at f g h r a b c q P y n = elim (cases_Bool (same_region q r)) [
  | inl e ↦ subst (λ (x : Bool). P (if x then a else f q) (if x then b else g q) (if x then c else h q)) (sym e) (y (region_is q r e))
  | inr e ↦ subst (λ (x : Bool). P (if x then a else f q) (if x then b else g q) (if x then c else h q)) (sym e) (n (not_region q r e))
]

pub inv_birth : (d : Tables) (w : Ghost) (m : Memory) (a b : ℕ) (r : Region) (st : State) (u : Region → Bool) (o : Owner) (f : Bool) → Inv d w m
    → Births w m a b r st u o f → Inv d (bearing w r u o f) (with_birth m a b r st)
inv_birth d w m a b r st u o f i n = record {
  cells = λ s k e. cell_kept d w (bearing w r u o f) s (m.cells s) k (carries s) (i.cells s k e);
  counted = i.counted;
  states = λ q. all_at w.owner w.keyed m.state r o f st q (λ x y z. StateOk x y z) (λ e. n.ok) (λ e. i.states q);
  closed = λ q p. at_region m.state r st q (λ x. x ≡ Live → (if same_region q r then u p else w.above p q) ≡ true → (if same_region p r then st else m.state p)
      ≡ Live)
      (λ e l v. at_region m.state r st p (λ y. y ≡ Live) (λ g. l) (λ g. n.up_live p (of_new q p e v) g))
      (λ e l v. at_region m.state r st p (λ y. y ≡ Live) (λ g. absurd (not_new p (i.born_upper p q (of_old q p e v)) g))
      (λ g. i.closed q p l (of_old q p e v)));
  rests = λ q p. at_region m.state r st q (λ x. x ≡ Live → (if same_region q r then u p else w.above p q) ≡ true → (p ≡ q → ⊥)
      → Steady (if same_region p r then o else w.owner p))
      (λ e l v ne. at_region w.owner r o p (λ y. Steady y) (λ g. absurd (ne (g ∙ sym e))) (λ g. n.up_steady p (of_new q p e v) g))
      (λ e l v ne. at_region w.owner r o p (λ y. Steady y) (λ g. absurd (not_new p (i.born_upper p q (of_old q p e v)) g))
      (λ g. i.rests q p l (of_old q p e v) ne));
  sole = λ q p. at_region w.owner r o q (λ x. (x ≡ Nobody → ⊥) → (if same_region q r then u p else w.above p q) ≡ true → (p ≡ q → ⊥) → p ≡ heap)
      (λ e x v ne. n.up_sole p x (of_new q p e v) (λ g. ne (g ∙ sym e)))
      (λ e x v ne. i.sole q p x (of_old q p e v) ne);
  itself = λ q k. at_region (λ x. w.above q q) r (u q) q (λ x. x ≡ true) (λ e. subst (λ (x : Region). u x ≡ true) (sym e) n.up_itself)
      (λ e. i.itself q (n.only q k e));
  under_heap = λ q k. at_region (λ x. w.above heap q) r (u heap) q (λ x. x ≡ true) (λ e. n.up_heap) (λ e. i.under_heap q (n.only q k e));
  top = λ q v. i.top q (of_old heap q no_heap v);
  heap_lives = at_region m.state r st heap (λ x. x ≡ Live) (λ e. absurd (no_heap e)) (λ e. i.heap_lives);
  heap_is_free = at_region w.owner r o heap (λ x. x ≡ Nobody) (λ e. absurd (no_heap e)) (λ e. i.heap_is_free);
  frames = λ j. at_region w.owner r o (Frame j) (λ x. x ≡ Nobody) (λ e. n.framed j (sym e)) (λ e. i.frames j);
  unborn = λ q k. at_region m.state r st q (λ x. x ≡ Dead) (λ e. absurd (k (subst (λ (x : Region). Counted a b x) (sym e) n.here)))
      (λ e. i.unborn q (λ x. k (n.more q x)));
  unowned = λ q k. at_region w.owner r o q (λ x. x ≡ Nobody) (λ e. absurd (k (subst (λ (x : Region). Counted a b x) (sym e) n.here)))
      (λ e. i.unowned q (λ x. k (n.more q x)));
  empty = λ q k. i.empty q (λ x. k (n.more q x));
  born_upper = λ q p. at_region (λ x. w.above q p) r (u q) p (λ x. x ≡ true → Counted a b q)
      (λ e v. elim (cases_Bool (same_region q r)) [
        | inl g ↦ subst (λ (x : Region). Counted a b x) (sym (region_is q r g)) n.here
        | inr g ↦ n.more q (known_live d w m q i (n.up_live q v (not_region q r g)))
      ])
      (λ e v. n.more q (i.born_upper q p v));
  born_lower = λ q p. at_region (λ x. w.above q p) r (u q) p (λ x. x ≡ true → Counted a b p)
      (λ e v. subst (λ (x : Region). Counted a b x) (sym e) n.here) (λ e v. n.more p (i.born_lower q p v));
  along = λ x y z. at_region (λ g. w.above y z) r (u y) z
      (λ v. (if same_region y r then u x else w.above x y) ≡ true → v ≡ true → (if same_region z r then u x else w.above x z) ≡ true)
      (λ e v t. subst (λ (g : Bool). (if g then u x else w.above x z) ≡ true) (sym (ap (λ (c : Region). same_region c r) e ∙ region_itself r))
      (elim (cases_Bool (same_region y r)) [
        | inl g ↦ of_new y x (region_is y r g) v
        | inr g ↦ n.up_along x y (of_old y x (not_region y r g) v) t (not_region y r g)
      ]))
      (λ e v t. at_region (λ g. w.above x z) r (u x) z (λ g. g ≡ true) (λ g. absurd (e g))
      (λ g. i.along x y z (of_old y x (not_new y (i.born_upper y z t)) v) t));
}
  where
    not_new : (q : Region) → Known m q → q ≡ r → ⊥
    not_new q k e = n.new (subst (λ (x : Region). Known m x) e k)

    no_heap : heap ≡ r → ⊥
    no_heap e = let x : m.state r ≡ Dead = i.unborn r n.new in let y : m.state heap ≡ Live = i.heap_lives in let z = ap m.state e in cc

    of_new : (q p : Region) → q ≡ r → (if same_region q r then u p else w.above p q) ≡ true → u p ≡ true
    of_new q p e v = sym (ap (λ (x : Bool). if x then u p else w.above p q) (ap (λ (x : Region). same_region x r) e ∙ region_itself r)) ∙ v

    of_old : (q p : Region) → (q ≡ r → ⊥) → (if same_region q r then u p else w.above p q) ≡ true → w.above p q ≡ true
    of_old q p e v = at_region (λ x. w.above p q) r (u p) q (λ x. x ≡ true → w.above p q ≡ true) (λ g. absurd (e g)) (λ g h. h) v

    owned : (c : ℕ) (s : Spot) → w.owner (Born c) ≡ InCell s → Born c ≡ r → ⊥
    owned c s e g = let x : w.owner r ≡ Nobody = i.unowned r n.new in let y = ap w.owner g in cc

    carries : (s : Spot) → Carries w (bearing w r u o f) (InCell s) (InCell s)
    carries s = record {
      types = λ x k e. e;
      above = λ q p e. at_region (λ x. w.above q p) r (u q) p (λ x. x ≡ true) (λ g. absurd (not_new p (i.born_lower q p e) g)) (λ g. e);
      owner = λ c e. at_region w.owner r o (Born c) (λ x. x ≡ InCell s) (λ g. absurd (owned c s e g)) (λ g. e);
      keyed = λ c e. at_region w.keyed r f (Born c) (λ x. x ≡ w.keyed (Born c)) (λ g. absurd (owned c s e g)) (λ g. refl);
    }

-- ---- a region is left with its scope

pub inv_death : (d : Tables) (w : Ghost) (m : Memory) (r : Region) → Inv d w m → w.owner r ≡ Nobody → (r ≡ heap → ⊥) → Alone w m r
    → Inv d w (with_state m r Dead)
inv_death d w m r i free nh alone = record {
  cells = i.cells;
  counted = i.counted;
  states = λ q. at_region m.state r Dead q (λ x. StateOk (w.owner q) (w.keyed q) x)
      (λ e. subst (λ (o : Owner). StateOk o (w.keyed q) Dead) (sym (ap w.owner e ∙ free)) (λ z. cc)) (λ n. i.states q);
  closed = λ q p. at_region m.state r Dead q (λ x. x ≡ Live → w.above p q ≡ true → (if same_region p r then Dead else m.state p) ≡ Live)
      (λ e l v. absurd (cc))
      (λ n l v. at_region m.state r Dead p (λ x. x ≡ Live) (λ e. absurd (alone q l (subst (λ (x : Region). w.above x q ≡ true) e v) (λ z. n z)))
      (λ e. i.closed q p l v));
  rests = λ q p l v ne. i.rests q p (was q l) v ne;
  sole = i.sole;
  itself = i.itself;
  under_heap = i.under_heap;
  top = i.top;
  heap_lives = at_region m.state r Dead heap (λ x. x ≡ Live) (λ e. absurd (nh (sym e))) (λ n. i.heap_lives);
  heap_is_free = i.heap_is_free;
  frames = i.frames;
  unborn = λ q k. at_region m.state r Dead q (λ x. x ≡ Dead) (λ e. refl) (λ n. i.unborn q k);
  unowned = i.unowned;
  empty = i.empty;
  born_upper = i.born_upper;
  born_lower = i.born_lower;
  along = i.along;
}
  where
    was : (q : Region) → (if same_region q r then Dead else m.state q) ≡ Live → m.state q ≡ Live
    was q = at_region m.state r Dead q (λ x. x ≡ Live → m.state q ≡ Live) (λ e l. absurd (cc)) (λ n l. l)
