-- What each change of a memory does to what is seen of it: all that a proof about memory has to know.
use Rattle.std.proofs.Common.{◌≡◌, ℕ, true, false, Some, None, refl, ap, arith}
use Rattle.std.specs.Prelude.{nat_eq, ◌&&◌, if◌then◌else◌}
use Rattle.std.proofs.lemmas.Bool.{and_parts, eqb-true, eq-eqb, false≢true}
use Rattle.source_meaning.specs.Memory.{Region, Frame, Born, Spot, Cell, Object, State, Memory, same_region, same_spot, is_live, cell_at, with_state, with_cell}
use Rattle.source_meaning.specs.Memory.{next_spot, with_object, beyond}

-- ---- the same region, the same spot

pub region_itself : (r : Region) → same_region r r ≡ true
region_itself (Frame k) = eq-eqb k k refl
region_itself (Born k) = eq-eqb k k refl

pub region_is : (q r : Region) → same_region q r ≡ true → q ≡ r
region_is (Frame j) (Frame k) h = ap (λ (n : ℕ). Frame n) (eqb-true j k h)
region_is (Born j) (Born k) h = ap (λ (n : ℕ). Born n) (eqb-true j k h)
region_is (Frame j) (Born k) h = absurd (false≢true h)
region_is (Born j) (Frame k) h = absurd (false≢true h)

pub spot_itself : (s : Spot) → same_spot s s ≡ true
spot_itself s = rw (region_itself s.region, eq-eqb s.object s.object refl, eq-eqb s.cell s.cell refl) refl

pub spot_is : (s t : Spot) → same_spot s t ≡ true → s ≡ t
spot_is s t e =
    let p = and_parts (same_region s.region t.region) _ e in
    let q = and_parts (nat_eq s.object t.object) (nat_eq s.cell t.cell) p.1 in
    let a = region_is s.region t.region p.0 in
    let b = eqb-true s.object t.object q.0 in
    let c = eqb-true s.cell t.cell q.1 in
    λ i. record { region = a i; object = b i; cell = c i }

-- ---- a cell is written

pub written_is_seen : (m : Memory) (s : Spot) (c : Cell) → is_live m s.region ≡ true → cell_at (with_cell m s c) s ≡ Some c
written_is_seen m s c live = rw (live, spot_itself s) refl

pub other_is_kept : (m : Memory) (s t : Spot) (c : Cell) → same_spot t s ≡ false → cell_at (with_cell m s c) t ≡ cell_at m t
other_is_kept m s t c other = rw other refl

-- ---- an object is made

pub made_is_seen : (m : Memory) (r : Region) (o : Object) (k : ℕ) → is_live m r ≡ true → cell_at (with_object m r o) (beyond (next_spot m r) k) ≡ o k
made_is_seen m r o k live = rw (live, region_itself r, eq-eqb (m.objects r) (m.objects r) refl) (ap o (omega arith))

pub older_is_kept : (m : Memory) (r : Region) (o : Object) (t : Spot) → nat_eq t.object (m.objects r) ≡ false → cell_at (with_object m r o) t ≡ cell_at m t
older_is_kept m r o t older = elim (same_region t.region r) as
    (λ b. (if is_live m t.region then (if b && nat_eq t.object (m.objects r) then o t.cell else m.cells t) else None) ≡ cell_at m t)
    [ true ↦ rw older refl | false ↦ refl ]

pub elsewhere_is_kept : (m : Memory) (r : Region) (o : Object) (t : Spot) → same_region t.region r ≡ false → cell_at (with_object m r o) t ≡ cell_at m t
elsewhere_is_kept m r o t elsewhere = rw elsewhere refl

-- ---- a region's state changes

pub state_is_set : (m : Memory) (r : Region) (state : State) → (with_state m r state).state r ≡ state
state_is_set m r state = rw (region_itself r) refl

pub other_state_is_kept : (m : Memory) (q r : Region) (state : State) → same_region q r ≡ false → (with_state m r state).state q ≡ m.state q
other_state_is_kept m q r state other = rw other refl

pub cells_elsewhere_are_kept : (m : Memory) (r : Region) (state : State) (t : Spot) → same_region t.region r ≡ false
    → cell_at (with_state m r state) t ≡ cell_at m t
cells_elsewhere_are_kept m r state t elsewhere = rw elsewhere refl
