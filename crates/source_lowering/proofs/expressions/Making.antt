-- The source makes a local, whose object Core has made before.
use Rattle.std.proofs.Common.{◌≡◌, ℕ, zero, suc, ◌+◌, ◌<◌, ◌≤◌, List, [], ◌∷◌, Bool, true, false, nat_eq, Option, Some, None, refl, sym, ap, ◌∙◌, subst, arith}
use Rattle.std.specs.Prelude.{◌&&◌, if◌then◌else◌, map, slice_get}
use Rattle.std.proofs.lemmas.Bool.{eqb-true, eq-eqb, and_parts, true≢false}
use Rattle.std.proofs.lemmas.Bool.Decides.{nat_tests}
use Rattle.std.proofs.lemmas.Option.{none-some}
use Rattle.source_meaning.specs.Shapes.{Shape}
use Rattle.source_meaning.specs.Memory as source
use Rattle.source_meaning.specs.Memory.{Scalar, Spot, Holds, Cell, Object, object_of, same_region, with_object}
use Rattle.source_meaning.specs.Steps.{World}
use Rattle.source_meaning.specs.Values.{is_lent}
use Rattle.source_meaning.proofs.Cases.{region_itself, region_is}
use Rattle.core_meaning.specs.Memory as core
use Rattle.core_meaning.specs.Memory.{Content, Part, with_part}
use Rattle.source_lowering.specs.Simulation.{region_at, at, PartIs, AreCells, IsShown, kept_in, SameMemory, Bound, nothing, IsFree, Grown}
use Rattle.core_meaning.proofs.Spots.{spot_same}
use Rattle.source_lowering.proofs.memory.Keeping.{stays_self, named_free, free_spot, held_other, none_kept, region_as, shown_later, kept_cases}

abbrev pub local_spot : ℕ → ℕ → Spot
local_spot k index = record { region = source.Frame k; object = index; cell = 0 }

-- a cell of a local
abbrev pub cell_spot : ℕ → ℕ → ℕ → Spot
cell_spot k index cell = record { region = source.Frame k; object = index; cell = cell }

abbrev pub m_made : source.Memory → ℕ → Object → source.Memory
m_made m k o = with_object m (source.Frame k) o

-- ---- one more object of a region

-- a cell of an object
abbrev pub spot_of : source.Region → ℕ → ℕ → Spot
spot_of r index cell = record { region = r; object = index; cell = cell }

abbrev pub is_here : source.Memory → source.Region → Spot → Bool
is_here m r t = same_region t.region r && nat_eq t.object (m.objects r)

-- what wasn't made yet has no cells
abbrev pub IsUnmade : source.Memory → Type 0
IsUnmade m = (s : Spot) → m.objects s.region ≤ s.object → m.cells s ≡ None

-- what is made is at a new spot
fresh : (m : source.Memory) (r : source.Region) (t : Spot) → IsUnmade m → is_here m r t ≡ true → m.cells t ≡ None
fresh m r t unmade e =
    let two = and_parts (same_region t.region r) (nat_eq t.object (m.objects r)) e in
    let q = region_is t.region r two.0 in
    let n = eqb-true t.object (m.objects r) two.1 in
    unmade t (subst (λ q. m.objects q ≤ t.object) (sym q) (subst (λ z. m.objects r ≤ z) (sym n) (omega arith)))

pub made_cell : (m : source.Memory) (r : source.Region) (o : Object) (t : Spot) (x : Cell) → IsUnmade m → m.cells t ≡ Some x
    → (with_object m r o).cells t ≡ Some x
made_cell m r o t x unmade is = by (is_here m r t) refl
  where
    by : (b : Bool) → is_here m r t ≡ b → (with_object m r o).cells t ≡ Some x
    by true e = let none : None ≡ Some x = sym (fresh m r t unmade e) ∙ is in absurd (cc none)
    by false e = ap (λ b. if b then o t.cell else m.cells t) e ∙ is

-- no region has fewer objects
grown : (m : source.Memory) (q r : source.Region) (o : Object) → m.objects q ≤ (with_object m r o).objects q
grown m q r o = by (same_region q r) refl
  where
    by : (b : Bool) → same_region q r ≡ b → m.objects q ≤ (with_object m r o).objects q
    by true e =
        let same : (with_object m r o).objects q ≡ m.objects r + 1 = ap (λ b. if b then m.objects r + 1 else m.objects q) e in
        subst (λ z. m.objects q ≤ z) (sym same) (subst (λ z. m.objects z ≤ m.objects r + 1) (sym (region_is q r e)) (omega arith))
    by false e = subst (λ z. m.objects q ≤ z) (sym (ap (λ b. if b then m.objects r + 1 else m.objects q) e)) (omega arith)

pub still_unmade : (m : source.Memory) (r : source.Region) (o : Object) → IsUnmade m → IsUnmade (with_object m r o)
still_unmade m r o unmade t h = by (is_here m r t) refl
  where
    here : (with_object m r o).objects r ≡ m.objects r + 1
    here = ap (λ b. if b then m.objects r + 1 else m.objects r) (region_itself r)

    by : (b : Bool) → is_here m r t ≡ b → (with_object m r o).cells t ≡ None
    by true e =
        let two = and_parts (same_region t.region r) (nat_eq t.object (m.objects r)) e in
        let z = eqb-true t.object (m.objects r) two.1 in
        let more : m.objects r + 1 ≤ t.object = subst (λ z. z ≤ t.object) here
        (subst (λ q. (with_object m r o).objects q ≤ t.object) (region_is t.region r two.0) h) in
        absurd (omega (arith, z, more))
    by false e =
        let less : m.objects t.region ≤ t.object = let g = grown m t.region r o in omega (arith, g, h) in
        ap (λ b. if b then o t.cell else m.cells t) e ∙ unmade t less

-- the new object's own cells
pub here_is : (m : source.Memory) (r : source.Region) (index cell : ℕ) (o : Object) → m.objects r ≡ index
    → (with_object m r o).cells (spot_of r index cell) ≡ o cell
here_is m r index cell o e =
    ap (λ b. if b && nat_eq index (m.objects r) then o cell else m.cells (spot_of r index cell)) (region_itself r) ∙
    ap (λ b. if b then o cell else m.cells (spot_of r index cell)) (eq-eqb index (m.objects r) (sym e))

-- ---- one more local

objects_other : (m : source.Memory) (j k : ℕ) (o : Object) → j < k
    → (m_made m k o).objects (source.Frame j) ≡ m.objects (source.Frame j)
objects_other m j k o h = let no : nat_eq j k ≡ false = grind (arith, nat_tests, h) in ap (λ b. if b then m.objects (source.Frame k) + 1 else
    m.objects (source.Frame j)) no

pub objects_here : (m : source.Memory) (k : ℕ) (o : Object) → (m_made m k o).objects (source.Frame k) ≡ m.objects
    (source.Frame k) + 1
objects_here m k o = ap (λ b. if b then m.objects (source.Frame k) + 1 else m.objects (source.Frame k)) (region_itself (source.Frame k))

-- the blocks before this one have no more locals
pub grown_later : (b : Bound) (m : source.Memory) (c : core.Memory) (k : ℕ) (o : Object) → b.frames ≤ k
    → IsUnmade m → Grown b m c (m_made m k o) c
grown_later b m c k o before unmade = record {
  shapes = λ s other h. record { content = h.content; is = made_cell m (source.Frame k) o s _ unmade h.is };
  lent = λ s shape v h. made_cell m (source.Frame k) o s _ unmade h;
  parts = λ t j o w h. h;
  objects = λ j h. objects_other m j k o (omega (arith, before, h));
  begun = omega arith;
  called = omega arith;
  births = omega arith;
  stays = λ d less. stays_self _;
  stands = λ j h. refl;
  owned = λ j t i r h. refl;
}

-- a cell of a shape, with the content that its shape gives it
abbrev pub cell_with : (Shape → source.Content) → Shape → Cell
cell_with g s = record { shape = s; content = g s }

pub cells_from : (m : source.Memory) (r : source.Region) (index cell : ℕ) (g : Shape → source.Content) (xs : List Shape)
    → ((i : ℕ) → m.cells (spot_of r index (cell + i)) ≡ slice_get (map (cell_with g) xs) i) → AreCells m (spot_of r index cell) xs
cells_from m r index cell g [] h = tt
cells_from m r index cell g (x ∷ xs) h = (
  record { content = g x; is = ap (λ z. m.cells (spot_of r index z)) here ∙ h 0 },
  subst (λ z. AreCells m (spot_of r index z) xs) next (cells_from m r index (suc cell) g xs (λ i. ap (λ z. m.cells (spot_of r index z)) (one_on cell i) ∙
      h (suc i))),
)
  where
    here : cell ≡ cell + 0
    here = omega arith

    next : suc cell ≡ cell + 1
    next = omega arith

    one_on : (k i : ℕ) → suc k + i ≡ k + suc i
    one_on k i = omega arith

-- an object of these cells
pub cells_in : (m : source.Memory) (r : source.Region) (index : ℕ) (g : Shape → source.Content) (xs : List Shape) → m.objects r ≡ index
    → AreCells (with_object m r (object_of (map (cell_with g) xs))) (spot_of r index 0) xs
cells_in m r index g xs e =
    cells_from (with_object m r (object_of (map (cell_with g) xs))) r index 0 g xs
    (λ i. here_is m r index (0 + i) (object_of (map (cell_with g) xs)) e ∙ ap (slice_get (map (cell_with g) xs)) (zero_on i))
  where
    zero_on : (i : ℕ) → 0 + i ≡ i
    zero_on i = omega arith

pub cells_here : (m : source.Memory) (k index : ℕ) (g : Shape → source.Content) (xs : List Shape) → m.objects (source.Frame k) ≡ index
    → AreCells (m_made m k (object_of (map (cell_with g) xs))) (cell_spot k index 0) xs
cells_here m k index g xs e = cells_in m (source.Frame k) index g xs e

-- ---- the relation holds where the new cell's value, if there is one, is in its part

-- an object has no cell that is lent
pub record IsUnlentObject (o : Object) : Type 0 where
  pub none : (cell : ℕ) (shape : Shape) (v : Scalar) → o cell ≡ Some (record { shape = shape; content = source.Lent v }) → ⊥

pub cells_unlent : (g : Shape → source.Content) → ((s : Shape) → is_lent (g s) ≡ false) → (xs : List Shape) → IsUnlentObject (object_of (map (cell_with g) xs))
cells_unlent g free xs = record { none = λ cell shape v e. each xs cell shape v e }
  where
    lent_in : Option Cell → Bool
    lent_in None = false
    lent_in (Some c) = is_lent c.content

    each : (ys : List Shape) (cell : ℕ) (shape : Shape) (v : Scalar)
        → slice_get (map (cell_with g) ys) cell ≡ Some (record { shape = shape; content = source.Lent v }) → ⊥
    each [] cell shape v e = none-some _ e
    each (y ∷ ys) zero shape v e = true≢false (sym (ap lent_in e) ∙ free y)
    each (y ∷ ys) (suc cell) shape v e = each ys cell shape v e

pub agree_made : (w : World) (m : source.Memory) (c : core.Memory) (k index : ℕ) (o : Object) → SameMemory w m c
    → m.objects (source.Frame k) ≡ index → k < m.activations
    → IsUnlentObject o
    → ((cell : ℕ) (shape : Shape) (v : Scalar) → o cell ≡ Some (record { shape = shape; content = Holds v })
    → IsShown w m c (cell_spot k index cell) shape v)
    → SameMemory w (m_made m k o) c
agree_made w m c k index o a e begun free shown = record {
  cells = λ t other x v keeps h. by (is_here m (source.Frame k) t) t other x v keeps refl h;
  live = a.live;
  activations = a.activations;
  unmade = still_unmade m (source.Frame k) o a.unmade;
  unentered = a.unentered;
  unbegun = λ j h.
      let two = a.unbegun j h in
      let no : nat_eq j k ≡ false = grind (arith, nat_tests, h, begun) in
      (ap (λ b. if b then m.objects (source.Frame k) + 1 else m.objects (source.Frame j)) no ∙ two.0, two.1);
  uncalled = a.uncalled;
  unowned = a.unowned;
  births = a.births;
  heap = a.heap;
  closed = a.closed;
  unborn = a.unborn;
  blocks = a.blocks;
  ungranted = a.ungranted;
}
  where
    m' : source.Memory
    m' = m_made m k o

    later : Grown nothing m c m' c
    later = grown_later nothing m c k o (omega arith) a.unmade

    kept : (s : Spot) (other : Shape) (v : Scalar) → IsShown w m c s other v → IsShown w m' c s other v
    kept s other v one = record { contents = one.contents; shown = shown_later nothing w m m' c c other v one.contents later one.shown; held = one.held }

    shown_by : (cell : ℕ) (other : Shape) (x : source.Content) (v : Scalar) → kept_in x ≡ Some v → o cell ≡ Some (record { shape = other; content = x })
        → IsShown w m c (cell_spot k index cell) other v
    shown_by cell other x v keeps =
        kept_cases (λ y u. o cell ≡ Some (record { shape = other; content = y }) → IsShown w m c (cell_spot k index cell) other u)
        (λ u is. shown cell other u is) (λ u is. absurd (free.none cell other u is)) x v keeps

    here : (t : Spot) (other : Shape) (x : source.Content) (v : Scalar) → kept_in x ≡ Some v → is_here m (source.Frame k) t ≡ true
        → o t.cell ≡ Some (record { shape = other; content = x }) → IsShown w m' c t other v
    here t other x v keeps e1 is =
        let two = and_parts (same_region t.region (source.Frame k)) (nat_eq t.object (m.objects (source.Frame k))) e1 in
        let r = region_is t.region (source.Frame k) two.0 in
        let n : t.object ≡ index = eqb-true t.object (m.objects (source.Frame k)) two.1 ∙ e in
        let same : cell_spot k index t.cell ≡ t = λ i. record { region = sym r i; object = sym n i; cell = t.cell } in
        subst (λ u. IsShown w m' c u other v) same (kept (cell_spot k index t.cell) other v (shown_by t.cell other x v keeps is))

    by : (b : Bool) (t : Spot) (other : Shape) (x : source.Content) (v : Scalar) → kept_in x ≡ Some v → is_here m (source.Frame k) t ≡ b
        → m'.cells t ≡ Some (record { shape = other; content = x }) → IsShown w m' c t other v
    by true t other x v keeps e1 h = here t other x v keeps e1 (sym (ap (λ b. if b then o t.cell else m.cells t) e1) ∙ h)
    by false t other x v keeps e1 h = kept t other v (a.cells t other x v keeps (sym (ap (λ b. if b then o t.cell else m.cells t) e1) ∙ h))

-- ---- Core writes a part of a local that the source makes next

ahead_kept : (c : core.Memory) (s : core.Spot) (old : Part) (x : Content) → c.parts s 0 ≡ Some old → (t : core.Spot) (i offset width : ℕ)
    → PartIs c t i offset width → PartIs (with_part c s 0 (record old { content = x })) t i offset width
ahead_kept c s old x is t i offset width p = by (core.same_spot t s && nat_eq i 0) refl
  where
    with_x : Content → Option Part → Option Part
    with_x y None = None
    with_x y (Some q) = Some (record q { content = y })

    by : (b : Bool) → (core.same_spot t s && nat_eq i 0) ≡ b → PartIs (with_part c s 0 (record old { content = x })) t i offset width
    by true e =
        let two = and_parts (core.same_spot t s) (nat_eq i 0) e in
        let here : Some old ≡ Some (record { offset = offset; width = width; content = p.content }) =
        sym is ∙ ap (λ z. c.parts z 0) (sym (spot_same t s two.0)) ∙ ap (λ z. c.parts t z) (sym (eqb-true i 0 two.1)) ∙ p.is in
        record { content = x; is = ap (λ b. if b then Some (record old { content = x }) else c.parts t i) e ∙ ap (with_x x) here }
    by false e = record { content = p.content; is = ap (λ b. if b then Some (record old { content = x }) else c.parts t i) e ∙ p.is }

pub ahead_later : (b : Bound) (m : source.Memory) (c : core.Memory) (s : core.Spot) (old : Part) (x : Content) → IsFree b s → c.parts s 0 ≡ Some old
    → Grown b m c m (with_part c s 0 (record old { content = x }))
ahead_later b m c s old x free is = record {
  shapes = λ t shape h. h;
  lent = λ s shape v h. h;
  parts = ahead_kept c s old x is;
  objects = λ k h. refl;
  begun = omega arith;
  called = omega arith;
  births = omega arith;
  stays = λ d less. stays_self _;
  stands = λ k h. refl;
  owned = λ k t j r h. ap (λ z. if z && nat_eq j 0 then Some (record old { content = x }) else c.parts t j) (free_spot b s t k free r h);
}

pub agree_ahead : (w : World) (m : source.Memory) (c : core.Memory) (s : Spot) (old : Part) (x : Content) → SameMemory w m c → m.cells s ≡ None
    → c.parts (at s) 0 ≡ Some old → SameMemory w m (with_part c (at s) 0 (record old { content = x }))
agree_ahead w m c s old x a none is = record {
  cells = λ t shape y v keeps h. by (core.same_spot (at t) (at s)) t shape y v keeps refl h;
  live = a.live;
  activations = a.activations;
  unmade = a.unmade;
  unentered = λ k t j h r. none_kept c (at s) old x is t j (a.unentered k t j h r);
  unbegun = a.unbegun;
  uncalled = λ k t j h r. none_kept c (at s) old x is t j (a.uncalled k t j h r);
  unowned = a.unowned;
  births = a.births;
  heap = a.heap;
  closed = a.closed;
  unborn = a.unborn;
  blocks = a.blocks;
  ungranted = λ d t j r h. none_kept c (at s) old x is t j (a.ungranted d t j r h);
}
  where
    c' : core.Memory
    c' = with_part c (at s) 0 (record old { content = x })

    spot_of : (q r : source.Region) → core.same_region (region_at q) (region_at r) ≡ true → q ≡ r
    spot_of q r e = region_is q r (sym (region_as q r) ∙ e)

    same_as : (t u : Spot) → core.same_spot (at t) (at u) ≡ true → t ≡ u
    same_as t u e =
        let p = and_parts (core.same_region (region_at t.region) (region_at u.region)) _ e in
        let q = and_parts (nat_eq t.object u.object) (nat_eq t.cell u.cell) p.1 in
        let f = spot_of t.region u.region p.0 in
        let g = eqb-true t.object u.object q.0 in
        let h = eqb-true t.cell u.cell q.1 in
        λ i. record { region = f i; object = g i; cell = h i }

    by : (b : Bool) (t : Spot) (shape : Shape) (y : source.Content) (v : Scalar) → kept_in y ≡ Some v → core.same_spot (at t) (at s) ≡ b
        → m.cells t ≡ Some (record { shape = shape; content = y }) → IsShown w m c' t shape v
    by true t shape y v keeps e h = absurd (none-some _ (sym none ∙ ap m.cells (sym (same_as t s e)) ∙ h))
    by false t shape y v keeps e h =
        let one = a.cells t shape y v keeps h in
        record {
          contents = one.contents;
          shown = shown_later nothing w m m c c' shape v one.contents (ahead_later nothing m c (at s) old x (named_free nothing s) is) one.shown;
          held =
              held_other c (at s) (at t) (record old { content = x }) 0 one.contents e one.held;
        }
