-- Blocks and lexical regions are entered and left.
use Rattle.std.proofs.Common.{◌≡◌, ℕ, ◌+◌, ◌<◌, Bool, true, false, inl, inr, refl, sym, ◌∙◌, ap, subst, arith}
use Rattle.std.specs.Cmp.Derive.{both_true}
use Rattle.std.specs.Prelude.{◌&&◌, if◌then◌else◌}
use Rattle.std.proofs.lemmas.Bool.{cases_Bool, and_parts, false≢true}
use Rattle.cyc_words.specs.Events.{RegionNew, RegionFree}
use Rattle.source_meaning.specs.Memory.{Region, Frame, Born, Object, State, Live, Closed, Dead, Memory, same_region, with_object, with_state, is_live}
use Rattle.source_meaning.specs.Memory.{state_is_live}
use Rattle.source_meaning.specs.Steps.{Step, Flow, Act, give, ◌>>=◌, ◌>>◌, show}
use Rattle.source_meaning.specs.Making.{set_state}
use Rattle.source_meaning.specs.Regions.{in_region, in_block, region_born, region_freed}
use Rattle.source_meaning.proofs.Cases.{region_is, region_itself}
use Rattle.type_proof.specs.Flat.{Tables}
use Rattle.type_proof.proofs.invariant.Facts.{if_cases, same_here, not_region}
use Rattle.type_proof.proofs.invariant.Invariant.{heap, Owner, Nobody, Flying, Returned, Pinned, InCell, Freed, Ghost, Steady, ByScope, ByLoan, Counted, Known}
use Rattle.type_proof.proofs.invariant.Invariant.{Inv, Grows}
use Rattle.type_proof.proofs.invariant.Births.{bearing, with_birth, Births, inv_birth, inv_death, known_live}
use Rattle.type_proof.proofs.invariant.Growth.{grows_scope, scope_alone}
use Rattle.type_proof.proofs.invariant.Runs.{Safe, Runs, runs_check}
use Rattle.type_proof.proofs.invariant.After.{After, runs_show}

-- ---- what outlives a new scope: all that is live and will stay so

abbrev pub is_steady : Owner → Bool
is_steady Nobody = true
is_steady (Flying i k) = false
is_steady (Returned k) = false
is_steady (Pinned i) = true
is_steady (InCell s) = false
is_steady Freed = false

pub steady_by : (o : Owner) → is_steady o ≡ true → Steady o
steady_by Nobody h = ByScope
steady_by (Flying i k) h = absurd (false≢true h)
steady_by (Returned k) h = absurd (false≢true h)
steady_by (Pinned i) h = ByLoan
steady_by (InCell s) h = absurd (false≢true h)
steady_by Freed h = absurd (false≢true h)

pub by_steady : (o : Owner) → Steady o → is_steady o ≡ true
by_steady Nobody h = refl
by_steady (Flying i k) h = elim h [ ]
by_steady (Returned k) h = elim h [ ]
by_steady (Pinned i) h = refl
by_steady (InCell s) h = elim h [ ]
by_steady Freed h = elim h [ ]

abbrev pub lasting : Ghost → Memory → Region → Bool
lasting w m q = state_is_live (m.state q) && is_steady (w.owner q)

abbrev pub above_scope : Ghost → Memory → Region → Region → Bool
above_scope w m r q = (if same_region q r then true else lasting w m q)

live_by : (s : State) → state_is_live s ≡ true → s ≡ Live
live_by Live h = refl
live_by Closed h = absurd (false≢true h)
live_by Dead h = absurd (false≢true h)

pub lasts : (w : Ghost) (m : Memory) (r q : Region) → m.state q ≡ Live → Steady (w.owner q) → above_scope w m r q ≡ true
lasts w m r q l s = if_cases (same_region q r) true (lasting w m q) (λ x. x ≡ true) (λ e. refl) (λ e. both_true (ap state_is_live l) (by_steady _ s))

pub scope_births : (d : Tables) (w : Ghost) (m : Memory) (a b : ℕ) (r : Region) → Inv d w m → (Known m r → ⊥) → Counted a b r
    → ((q : Region) → Known m q → Counted a b q) → ((q : Region) → Counted a b q → (q ≡ r → ⊥) → Known m q)
    → Births w m a b r Live (above_scope w m r) Nobody false
scope_births d w m a b r i new here more only = record {
  new = new;
  here = here;
  more = more;
  only = only;
  ok = λ e. cc;
  up_itself = ap (λ (x : Bool). if x then true else lasting w m r) (region_itself r);
  up_heap = lasts w m r heap i.heap_lives (subst Steady (sym i.heap_is_free) ByScope);
  up_live = λ q e n. live_by _ (and_parts _ _ (old q e n)).0;
  up_steady = λ q e n. steady_by _ (and_parts _ _ (old q e n)).1;
  up_along = λ p q v e n. elim (cases_Bool (same_region p q)) [
    | inl z ↦ (let same : p ≡ q = region_is p q z in subst (λ (x : Region). above_scope w m r x ≡ true) (sym same) e)
    | inr z ↦ (let l : m.state q ≡ Live = live_by _ (and_parts _ _ (old q e n)).0 in lasts w m r p (i.closed q p l v) (i.rests q p l v (not_region p q z)))
  ];
  up_sole = λ q n e z. absurd (n refl);
  framed = λ j e. refl;
}
  where
    old : (q : Region) → above_scope w m r q ≡ true → (q ≡ r → ⊥) → lasting w m q ≡ true
    old q e n = if_cases (same_region q r) true (lasting w m q) (λ x. x ≡ true → lasting w m q ≡ true) (λ z v. absurd (n (region_is q r z))) (λ z v. v) e

pub frame_births : (d : Tables) (w : Ghost) (m : Memory) → Inv d w m
    → Births w m (m.activations + 1) m.births (Frame m.activations) Live (above_scope w m (Frame m.activations)) Nobody false
frame_births d w m i = scope_births d w m (m.activations + 1) m.births (Frame m.activations) i (λ h. omega (arith, h)) (omega arith) more only
  where
    more : (q : Region) → Known m q → Counted (m.activations + 1) m.births q
    more (Frame k) h = omega (arith, h)
    more (Born k) h = h

    only : (q : Region) → Counted (m.activations + 1) m.births q → (q ≡ Frame m.activations → ⊥) → Known m q
    only (Frame k) h n = less k m.activations h (λ e. n (ap (λ (x : ℕ). Frame x) e))
      where
        less : (x y : ℕ) → x < y + 1 → (x ≡ y → ⊥) → x < y
        less x y p z = omega (arith, p, z)
    only (Born k) h n = h

pub born_births : (d : Tables) (w : Ghost) (m : Memory) → Inv d w m
    → Births w m m.activations (m.births + 1) (Born m.births) Live (above_scope w m (Born m.births)) Nobody false
born_births d w m i = scope_births d w m m.activations (m.births + 1) (Born m.births) i (λ h. omega (arith, h)) (omega arith) more only
  where
    more : (q : Region) → Known m q → Counted m.activations (m.births + 1) q
    more (Frame k) h = h
    more (Born k) h = omega (arith, h)

    only : (q : Region) → Counted m.activations (m.births + 1) q → (q ≡ Born m.births → ⊥) → Known m q
    only (Frame k) h n = h
    only (Born k) h n = less k m.births h (λ e. n (ap (λ (x : ℕ). Born x) e))
      where
        less : (x y : ℕ) → x < y + 1 → (x ≡ y → ⊥) → x < y
        less x y p z = omega (arith, p, z)

-- the ghost and memory at the start of a block
abbrev pub block_ghost : Ghost → Memory → Ghost
block_ghost w m = bearing w (Frame m.activations) (above_scope w m (Frame m.activations)) Nobody false

abbrev pub block_memory : Memory → Memory
block_memory m = with_birth m (m.activations + 1) m.births (Frame m.activations) Live

pub block_inv : (d : Tables) (w : Ghost) (m : Memory) → Inv d w m → Inv d (block_ghost w m) (block_memory m)
block_inv d w m i =
    inv_birth d w m (m.activations + 1) m.births (Frame m.activations) Live (above_scope w m (Frame m.activations)) Nobody false i (frame_births d w m i)

-- What comes of a block that was entered in a memory: its region ends then.
pub block_left : (d : Tables) (k b : ℕ) (w : Ghost) (m : Memory) (P R : Ghost → Memory → Type 0) → Inv d w m
    → ((w2 : Ghost) (m2 : Memory) → Inv d w2 m2 → Grows k b (block_ghost w m) (block_memory m) w2 m2 → P w2 m2
    → R w2 (with_state m2 (Frame m.activations) Dead)) → (m2 : Memory) → After d k b (block_ghost w m) (block_memory m) P m2
    → After d k b w m R (with_state m2 (Frame m.activations) Dead)
block_left d k b w m P R i finish m2 p = record {
  ghost = p.ghost;
  inv = inv_death d p.ghost m2 r p.inv (p.grows.scoped r (omega arith) (same_here r Nobody (w.owner r))) (λ e. cc)
      (scope_alone d k b w m (m.activations + 1) m.births r (above_scope w m r) p.ghost m2 i births (λ e. cc) (block_inv d w m i) p.inv p.grows);
  grows = grows_scope d k b w m (m.activations + 1) m.births r (above_scope w m r) p.ghost m2 i births p.grows;
  holds = finish p.ghost m2 p.inv p.grows p.holds;
}
  where
    r : Region
    r = Frame m.activations

    births : Births w m (m.activations + 1) m.births r Live (above_scope w m r) Nobody false
    births = frame_births d w m i

-- a block, whatever it gives
pub runs_block : {A : Type 0} (d : Tables) (n k b : ℕ) (w : Ghost) (m : Memory) (body : ℕ → Act A) (P R : A → Ghost → Memory → Type 0) → Inv d w m
    → (Inv d (block_ghost w m) (block_memory m) → Runs n (body m.activations) (block_memory m)
    (λ a. After d k b (block_ghost w m) (block_memory m) (P a)))
    → ((a : A) (w2 : Ghost) (m2 : Memory) → Inv d w2 m2 → Grows k b (block_ghost w m) (block_memory m) w2 m2 → P a w2 m2
    → R a w2 (with_state m2 (Frame m.activations) Dead)) → Runs n (in_block body) m (λ a. After d k b w m (R a))
runs_block d n k b w m body P R i run finish = record {
  by = λ next g. (run (block_inv d w m i)).by (λ a. (set_state (Frame m.activations) Dead >> give a) next)
      (λ a m2 p. g a (with_state m2 (Frame m.activations) Dead) (block_left d k b w m (P a) (R a) i (finish a) m2 p));
}

-- a block that is entered behind a new object, which is a part of what the block makes
pub runs_block_with : {A : Type 0} (d : Tables) (n k b : ℕ) (w : Ghost) (m : Memory) (q : Region) (o : Object) (body : ℕ → Act A)
    (P R : A → Ghost → Memory → Type 0) → Inv d w m
    → Runs n (body m.activations) (with_object (block_memory m) q o) (λ a. After d k b (block_ghost w m) (block_memory m) (P a))
    → ((a : A) (w2 : Ghost) (m2 : Memory) → Inv d w2 m2 → Grows k b (block_ghost w m) (block_memory m) w2 m2 → P a w2 m2
    → R a w2 (with_state m2 (Frame m.activations) Dead)) → Runs n (in_block body) (with_object m q o) (λ a. After d k b w m (R a))
runs_block_with d n k b w m q o body P R i run finish = record {
  by = λ next g. run.by (λ a. (set_state (Frame m.activations) Dead >> give a) next)
      (λ a m2 p. g a (with_state m2 (Frame m.activations) Dead) (block_left d k b w m (P a) (R a) i (finish a) m2 p));
}

abbrev pub region_ghost : Ghost → Memory → Ghost
region_ghost w m = bearing w (Born m.births) (above_scope w m (Born m.births)) Nobody false

abbrev pub region_memory : Memory → Memory
region_memory m = with_birth m m.activations (m.births + 1) (Born m.births) Live

not_heap : (d : Tables) (w : Ghost) (m : Memory) → Inv d w m → Born m.births ≡ heap → ⊥
not_heap d w m i e = let h : Known m heap = known_live d w m heap i i.heap_lives in let z : m.births ≡ 0 = cc in omega (arith, h)

-- a lexical region, whatever way it is left
pub runs_region : (d : Tables) (n k b : ℕ) (w : Ghost) (m : Memory) (body : ℕ → Act Flow) (P R : Flow → Ghost → Memory → Type 0) → Inv d w m
    → (Inv d (region_ghost w m) (region_memory m) → Runs n (body m.births) (region_memory m)
    (λ flow. After d k b (region_ghost w m) (region_memory m) (P flow)))
    → ((flow : Flow) (w2 : Ghost) (m2 : Memory) → Inv d w2 m2 → Grows k b (region_ghost w m) (region_memory m) w2 m2 → P flow w2 m2
    → R flow w2 (with_state m2 (Born m.births) Dead)) → Runs n (in_region region_born region_freed body) m (λ flow. After d k b w m (R flow))
runs_region d n k b w m body P R i run finish = record {
  by = λ next g. (runs_show n (RegionNew m.births) (body m.births >>= λ flow. region_freed m.births >> give flow) (region_memory m)
      (λ flow. After d k b w m (R flow))
      (record { by = λ next2 g2. (run inner).by (λ flow. (region_freed m.births >> give flow) next2) (λ flow m2 p. leaves next2 g2 flow m2 p) })).by next g;
}
  where
    r : Region
    r = Born m.births

    births : Births w m m.activations (m.births + 1) r Live (above_scope w m r) Nobody false
    births = born_births d w m i

    inner : Inv d (region_ghost w m) (region_memory m)
    inner = inv_birth d w m m.activations (m.births + 1) r Live (above_scope w m r) Nobody false i births

    leaves : (next : Flow → Memory → Step) → ((flow : Flow) (m' : Memory) → After d k b w m (R flow) m' → Safe n (next flow m')) → (flow : Flow) (m2 : Memory)
        → After d k b (region_ghost w m) (region_memory m) (P flow) m2 → Safe n ((region_freed m.births >> give flow) next m2)
    leaves next g flow m2 p =
        let free : p.ghost.owner r ≡ Nobody = p.grows.scoped r (omega arith) (same_here r Nobody (w.owner r)) in
        let alive : m2.state r ≡ Live = p.grows.state r free ∙ same_here r Live (m.state r) in
        (runs_check n (is_live m2 r) (show (RegionFree m.births) >> (λ next2 m3. next2 flow (with_state m3 r Dead))) m2 (λ f. After d k b w m (R f))
        (ap state_is_live alive)
        (runs_show n (RegionFree m.births) (λ next2 m3. next2 flow (with_state m3 r Dead)) m2 (λ f. After d k b w m (R f))
        (record {
          by = λ next2 g2. g2 flow (with_state m2 r Dead) (record {
            ghost = p.ghost;
            inv = inv_death d p.ghost m2 r p.inv free (not_heap d w m i)
                (scope_alone d k b w m m.activations (m.births + 1) r (above_scope w m r) p.ghost m2 i births (not_heap d w m i) inner p.inv p.grows);
            grows = grows_scope d k b w m m.activations (m.births + 1) r (above_scope w m r) p.ghost m2 i births p.grows;
            holds = finish flow p.ghost m2 p.inv p.grows p.holds;
          });
        }))).by next g
