-- A struct is assigned whole: Core copies an object's parts at once, and the source writes the cells one by one.
use Rattle.std.proofs.Common.{
  ◌≡◌,
  ℕ,
  ◌+◌,
  ◌<◌,
  ◌≤◌,
  List,
  [],
  ◌∷◌,
  length,
  Bool,
  true,
  false,
  not,
  nat_eq,
  Option,
  Some,
  None,
  refl,
  sym,
  ap,
  ◌∙◌,
  subst,
  arith,
}
use Rattle.std.specs.Prelude.{◌&&◌, ◌-◌, if◌then◌else◌, nat_lt, nat_le}
use Rattle.std.proofs.lemmas.Bool.{eqb-true, and_parts, true≢false}
use Rattle.std.proofs.lemmas.Bool.Decides.{nat_tests}
use Rattle.source_meaning.specs.Shapes.{Shape}
use Rattle.source_meaning.specs.Memory as source
use Rattle.source_meaning.specs.Memory.{Scalar, Spot, Holds, Cell, is_live, is_of, same_spot, with_cell}
use Rattle.source_meaning.specs.Steps as steps
use Rattle.source_meaning.specs.Steps.{World, check}
use Rattle.source_meaning.specs.Values.{write_cells, put_content, is_lent}
use Rattle.source_meaning.proofs.Cases.{spot_is, spot_itself, region_is}
use Rattle.core_meaning.specs.Memory as core
use Rattle.core_meaning.specs.Memory.{Layout}
use Rattle.core_meaning.specs.Core.{Program}
use Rattle.core_meaning.specs.Steps as core_steps
use Rattle.core_meaning.specs.Operations.{same_object, cells_on, copied}
use Rattle.source_lowering.specs.Simulation.{region_at, at, HasShape, AreCells, IsShown, kept_in, SameMemory, Bound, nothing, Grown, Same}
use Rattle.source_lowering.proofs.memory.Keeping.{stays_self, named_free, region_as, shown_later, shape_kept, unmade_kept, m_written}
use Rattle.source_lowering.proofs.memory.Keeping.{IsUnlent, unlent_is, lent_kept, kept_same}
use Rattle.source_lowering.proofs.memory.Moving.{AllUnlent}
use Rattle.source_lowering.proofs.Runs.{stuck_same}
use Rattle.source_lowering.proofs.memory.Clearing.{held_still}
use Rattle.source_lowering.proofs.memory.Copying.{AllShown, all_shown_later, copied_later, copied_none, copied_nowhere}

-- ---- the source writes

abbrev pub all_written : source.Memory → Spot → List Shape → List Scalar → source.Memory
all_written m t [] vs = m
all_written m t (x ∷ xs) [] = m
all_written m t (x ∷ xs) (v ∷ vs) = all_written (m_written m t x v) (source.beyond t 1) xs vs

-- the memory changes in its cells alone
record IsSameBut (m m' : source.Memory) : Type 0 where
  activations : m'.activations ≡ m.activations
  births : m'.births ≡ m.births
  state : (r : source.Region) → m'.state r ≡ m.state r
  objects : (r : source.Region) → m'.objects r ≡ m.objects r
  shapes : (s : Spot) (shape : Shape) → HasShape m s shape → HasShape m' s shape
  lent : (s : Spot) (shape : Shape) (v : Scalar) → m.cells s ≡ Some (record { shape = shape; content = source.Lent v })
      → m'.cells s ≡ Some (record { shape = shape; content = source.Lent v })
  unmade : ((s : Spot) → m.objects s.region ≤ s.object → m.cells s ≡ None) → (s : Spot) → m.objects s.region ≤ s.object → m'.cells s ≡ None

written_same : (m : source.Memory) (t : Spot) (x : Shape) (v : Scalar) → HasShape m t x → IsUnlent m t → IsSameBut m (m_written m t x v)
written_same m t x v has free = record {
  activations = refl;
  births = refl;
  state = λ r. refl;
  objects = λ r. refl;
  shapes = shape_kept m t x has.content (Holds v) has.is;
  lent = lent_kept m t (record { shape = x; content = Holds v }) free;
  unmade = unmade_kept m t x has.content (Holds v) has.is;
}

still_cells : (m m' : source.Memory) (t : Spot) (xs : List Shape) → IsSameBut m m' → AreCells m t xs → AreCells m' t xs
still_cells m m' t [] same h = tt
still_cells m m' t (x ∷ xs) same h = (same.shapes t x h.0, still_cells m m' (source.beyond t 1) xs same h.1)

-- what isn't lent when another cell changed wasn't before
unlent_before : (m : source.Memory) (t : Spot) (new : Cell) (s : Spot) (xs : List Shape) → IsUnlent m t → AllUnlent (with_cell m t new) s xs → AllUnlent m s xs
unlent_before m t new s [] free h = tt
unlent_before m t new s (x ∷ xs) free h = (
  record { none = λ shape v e. h.0.none shape v (lent_kept m t new free s shape v e) },
  unlent_before m t new (source.beyond s 1) xs free h.1,
)

-- a value that is held isn't lent
unlent_written : (m : source.Memory) (t : Spot) (x : Shape) (v : Scalar) (s : Spot) (xs : List Shape) → AllUnlent m s xs → AllUnlent (m_written m t x v) s xs
unlent_written m t x v s [] h = tt
unlent_written m t x v s (y ∷ ys) h = (
  record { none = λ shape u e. by shape u (same_spot s t) refl e },
  unlent_written m t x v (source.beyond s 1) ys h.1,
)
  where
    here : Cell
    here = record { shape = x; content = Holds v }

    lent_in : Option Cell → Bool
    lent_in None = false
    lent_in (Some c) = is_lent c.content

    by : (shape : Shape) (u : Scalar) (b : Bool) → same_spot s t ≡ b
        → (m_written m t x v).cells s ≡ Some (record { shape = shape; content = source.Lent u }) → ⊥
    by shape u true e is = true≢false (sym (ap lent_in (sym (ap (λ b. if b then Some here else m.cells s) e) ∙ is)))
    by shape u false e is = h.0.none shape u (sym (ap (λ b. if b then Some here else m.cells s) e) ∙ is)

all_same : (m : source.Memory) (t : Spot) (xs : List Shape) (vs : List Scalar) → AreCells m t xs → AllUnlent m t xs → IsSameBut m (all_written m t xs vs)
all_same m t [] vs cells free =
    record { activations = refl; births = refl; state = λ r. refl; objects = λ r. refl; shapes = λ s z h. h; lent = λ s z v h. h; unmade = λ f. f }
all_same m t (x ∷ xs) [] cells free =
    record { activations = refl; births = refl; state = λ r. refl; objects = λ r. refl; shapes = λ s z h. h; lent = λ s z v h. h; unmade = λ f. f }
all_same m t (x ∷ xs) (v ∷ vs) cells free =
    let m1 : source.Memory = m_written m t x v in
    let one = written_same m t x v cells.0 free.0 in
    let more = all_same m1 (source.beyond t 1) xs vs (still_cells m m1 (source.beyond t 1) xs one cells.1)
    (unlent_written m t x v (source.beyond t 1) xs free.1) in
    record {
      activations = more.activations;
      births = more.births;
      state = more.state;
      objects = more.objects;
      shapes = λ s z h. more.shapes s z (one.shapes s z h);
      lent = λ s z u h. more.lent s z u (one.lent s z u h);
      unmade = λ f. more.unmade (one.unmade f);
    }

-- what isn't among so many cells from a spot on
abbrev pub IsOutside : Spot → ℕ → Spot → Type 0
IsOutside t n s = s.region ≡ t.region → s.object ≡ t.object → t.cell ≤ s.cell → s.cell < t.cell + n → ⊥

-- of each of so many cells with its value
abbrev AllAre : (Spot → Shape → Scalar → Type 0) → Spot → List Shape → List Scalar → Type 0
AllAre Q t [] [] = Unit {0}
AllAre Q t (x ∷ xs) (v ∷ vs) = Q t x v × AllAre Q (source.beyond t 1) xs vs
AllAre Q t [] (v ∷ vs) = ⊥
AllAre Q t (x ∷ xs) [] = ⊥

-- what holds of the cells that are written, and of the others that keep a value, holds of all then
all_hold : (Q : Spot → Shape → Scalar → Type 0) (m : source.Memory) (t : Spot) (xs : List Shape) (vs : List Scalar)
    → AllAre Q t xs vs
    → ((s : Spot) (shape : Shape) (x : source.Content) (v : Scalar) → IsOutside t (length xs) s → kept_in x ≡ Some v
    → m.cells s ≡ Some (record { shape = shape; content = x }) → Q s shape v)
    → (s : Spot) (shape : Shape) (x : source.Content) (v : Scalar) → kept_in x ≡ Some v
    → (all_written m t xs vs).cells s ≡ Some (record { shape = shape; content = x }) → Q s shape v
all_hold Q m t [] [] all others s shape o v keeps e = others s shape o v (λ r o l g. omega (arith, l, g)) keeps e
all_hold Q m t [] (u ∷ vs) all others s shape o v keeps e = absurd all
all_hold Q m t (x ∷ xs) [] all others s shape o v keeps e = absurd all
all_hold Q m t (x ∷ xs) (u ∷ vs) all others s shape o v keeps e =
    all_hold Q (m_written m t x u) (source.beyond t 1) xs vs all.1 (λ s z o y outside k f. by (same_spot s t) s z o y refl outside k f) s shape o v keeps e
  where
    shape_in : Option Cell → Shape
    shape_in None = x
    shape_in (Some c) = c.shape

    content_in : Option Cell → source.Content
    content_in None = Holds u
    content_in (Some c) = c.content

    here : Cell
    here = record { shape = x; content = Holds u }

    by : (b : Bool) (s : Spot) (z : Shape) (o : source.Content) (y : Scalar) → same_spot s t ≡ b → IsOutside (source.beyond t 1) (length xs) s
        → kept_in o ≡ Some y → (m_written m t x u).cells s ≡ Some (record { shape = z; content = o }) → Q s z y
    by true s z o y g outside keeps f =
        let same : Some here ≡ Some (record { shape = z; content = o }) = sym (ap (λ b. if b then Some here else m.cells s) g) ∙ f in
        subst (λ q. Q q z y) (sym (spot_is s t g))
        (subst (λ q. Q t q y) (ap shape_in same) (subst (λ q. Q t x q) (kept_same (Holds u) o u y refl (ap content_in same) keeps) all.0))
    by false s z o y g outside keeps f =
        others s z o y (λ r i l k. outside r i (further s r i l g) (omega (arith, k))) keeps (sym (ap (λ b. if b then Some here else m.cells s) g) ∙ f)
      where
        further : (s : Spot) → s.region ≡ t.region → s.object ≡ t.object → t.cell ≤ s.cell → same_spot s t ≡ false → t.cell + 1 ≤ s.cell
        further s r o l g = cell_by (nat_eq s.cell t.cell) refl
          where
            cell_by : (b : Bool) → nat_eq s.cell t.cell ≡ b → t.cell + 1 ≤ s.cell
            cell_by false e = grind (arith, nat_tests, e, l)
            cell_by true e =
                let same : s ≡ t = λ i. record { region = r i; object = o i; cell = eqb-true s.cell t.cell e i } in
                absurd (true≢false (sym (ap (λ z. same_spot z t) same ∙ spot_itself t) ∙ g))

-- cells of their shapes in a live region are written, or the source is stuck
pub writes_all : (w : World) (fs : Program) (n : ℕ) (xs : List Shape) (vs : List Scalar) (m : source.Memory) (t : Spot)
    (s : Unit {0} → source.Memory → steps.Step) (k : core_steps.Step) → length vs ≡ length xs → is_live m t.region ≡ true → AreCells m t xs
    → (AllUnlent m t xs → Same w fs n (s tt (all_written m t xs vs)) k) → Same w fs n (write_cells t vs s m) k
writes_all w fs n [] [] m t s k count live cells go = go tt
writes_all w fs n [] (v ∷ vs) m t s k count live cells go = absurd (cc count)
writes_all w fs n (x ∷ xs) [] m t s k count live cells go = absurd (cc count)
writes_all w fs n (x ∷ xs) (v ∷ vs) m t s k count live cells go =
    first (λ free. writes_all w fs n xs vs (m_written m t x v) (source.beyond t 1) s k (cc count) live
    (still_cells m (m_written m t x v) (source.beyond t 1) xs (written_same m t x v cells.0 free) cells.1)
    (λ others. go (free, unlent_before m t (record { shape = x; content = Holds v }) (source.beyond t 1) xs free others)))
  where
    rest : Unit {0} → source.Memory → steps.Step
    rest u = write_cells (source.beyond t 1) vs s

    put_done : Same w fs n (rest tt (m_written m t x v)) k → Same w fs n (put_content t (Holds v) rest m) k
    put_done more = rw (live, cells.0.is) more

    of_type : (b : Bool) → is_of x v ≡ b → Same w fs n (rest tt (m_written m t x v)) k
        → Same w fs n (check (is_of x v) (λ u. put_content t (Holds v) rest) m) k
    of_type false e more = rw e (stuck_same w fs n k)
    of_type true e more = rw e (put_done more)

    lent : (b : Bool) → is_lent cells.0.content ≡ b → (IsUnlent m t → Same w fs n (rest tt (m_written m t x v)) k)
        → Same w fs n (check (not (is_lent cells.0.content)) (λ u. check (is_of x v) (λ u. put_content t (Holds v) rest)) m) k
    lent true e more = rw e (stuck_same w fs n k)
    lent false e more = rw e (of_type (is_of x v) refl (more (unlent_is m t x cells.0.content cells.0.is e)))

    first : (IsUnlent m t → Same w fs n (rest tt (m_written m t x v)) k) → Same w fs n (write_cells t (v ∷ vs) s m) k
    first more = rw (live, cells.0.is) (lent (is_lent cells.0.content) refl more)

-- ---- memories agree then

-- the parts of what is outside stay as they were
outside_kept : (l : Layout) (t : Spot) (from : core.Spot) (c : core.Memory) (s : Spot) (j : ℕ) → IsOutside t (length l.cells) s
    → (copied l (at t) from c).parts (at s) j ≡ c.parts (at s) j
outside_kept l t from c s j outside = kept
  where
    none_on : (b : Bool) → (same_object (at s) (at t) && (nat_le t.cell s.cell && nat_lt s.cell (t.cell + length l.cells))) ≡ b
        → cells_on (length l.cells) (at t) (at s) ≡ None
    none_on false e = ap (λ z. if z then Some (s.cell - t.cell) else None) e
    none_on true e =
        let two = and_parts (same_object (at s) (at t)) (nat_le t.cell s.cell && nat_lt s.cell (t.cell + length l.cells)) e in
        let here = and_parts (core.same_region (region_at s.region) (region_at t.region)) (nat_eq s.object t.object) two.0 in
        let near = and_parts (nat_le t.cell s.cell) (nat_lt s.cell (t.cell + length l.cells)) two.1 in
        let low = near.0 in
        let high = near.1 in
        absurd (outside (region_is s.region t.region (sym (region_as s.region t.region) ∙ here.0)) (eqb-true s.object t.object here.1)
        (grind (arith, nat_tests, low)) (grind (arith, nat_tests, high)))

    kept : (copied l (at t) from c).parts (at s) j ≡ c.parts (at s) j
    kept = copied_nowhere l (at t) from c (at s) j
        (none_on (same_object (at s) (at t) && (nat_le t.cell s.cell && nat_lt s.cell (t.cell + length l.cells))) refl)

all_are : (w : World) (m : source.Memory) (c : core.Memory) (t : Spot) (xs : List Shape) (vs : List Scalar) → AllShown w m c (at t) xs vs
    → AllAre (λ s z v. IsShown w m c s z v) t xs vs
all_are w m c t [] [] h = tt
all_are w m c t [] (v ∷ vs) h = absurd h
all_are w m c t (x ∷ xs) [] h = absurd h
all_are w m c t (x ∷ xs) (v ∷ vs) h = (
  record { contents = h.0.contents; shown = h.0.shown; held = h.0.held },
  all_are w m c (source.beyond t 1) xs vs h.1,
)

-- an object is copied to another one
pub record IsOverwritten (w : World) (m : source.Memory) (c : core.Memory) (t : Spot) (from : core.Spot) (l : Layout) (xs : List Shape)
    (vs : List Scalar) : Type 0 where
  pub agree : SameMemory w (all_written m t xs vs) (copied l (at t) from c)
  pub later : (b : Bound) → Grown b m c (all_written m t xs vs) (copied l (at t) from c)

pub overwritten : (w : World) (m : source.Memory) (c : core.Memory) (t : Spot) (from : core.Spot) (l : Layout) (xs : List Shape) (vs : List Scalar)
    → length l.cells ≡ length xs → SameMemory w m c → AreCells m t xs → AllUnlent m t xs → AllShown w m (copied l (at t) from c) (at t) xs vs
    → IsOverwritten w m c t from l xs vs
overwritten w m c t from l xs vs count a cells free shown = record {
  agree = record {
    cells = all_hold (λ s z v. IsShown w m' c' s z v) m t xs vs (all_are w m' c' t xs vs (all_shown_later nothing w m m' c' (at t) xs vs still shown))
        (λ s z x v outside keeps e.
        let one = a.cells s z x v keeps e in record {
          contents = one.contents;
          shown = shown_later nothing w m m' c c' z v one.contents (later nothing) one.shown;
          held = held_still c c' (at s) 0 one.contents
              (λ i. outside_kept l t from c s i (subst (λ q. IsOutside t q s) (sym count) outside)) one.held;
        });
    live = λ r. ap source.state_is_live (same.state r) ∙ a.live r;
    activations = same.activations ∙ a.activations;
    unmade = λ s h. same.unmade a.unmade s (subst (λ z. z ≤ s.object) (same.objects s.region) h);
    unentered = λ k u j h r. copied_none l (at t) from c u j (a.unentered k u j h r);
    unbegun = λ k h.
        let two = a.unbegun k (subst (λ z. z ≤ k) same.activations h) in (same.objects (source.Frame k) ∙ two.0, two.1);
    uncalled = λ k u j h r. copied_none l (at t) from c u j (a.uncalled k u j h r);
    unowned = a.unowned;
    births = same.births ∙ a.births;
    heap = subst (λ z. 0 < z) (sym same.births) a.heap;
    closed = λ r. ap source.state_is_closed (same.state r) ∙ a.closed r;
    unborn = λ d h.
        let two = a.unborn d (subst (λ z. z ≤ d) same.births h) in
        (same.objects (source.Born d) ∙ two.0, same.state (source.Born d) ∙ two.1);
    blocks = λ d. same.objects (source.Born d) ∙ a.blocks d;
    ungranted = λ d u j r h. copied_none l (at t) from c u j (a.ungranted d u j r h);
  };
  later = later;
}
  where
    m' : source.Memory
    m' = all_written m t xs vs

    c' : core.Memory
    c' = copied l (at t) from c

    same : IsSameBut m m'
    same = all_same m t xs vs cells free

    later : (b : Bound) → Grown b m c m' c'
    later b =
        let one = copied_later b m c l (at t) from (named_free b t) in
        record {
          shapes = same.shapes;
          lent = same.lent;
          parts = one.parts;
          objects = λ k h. same.objects (source.Frame k);
          begun = subst (λ z. m.activations ≤ z) (sym same.activations) (omega arith);
          called = one.called;
          births = one.births;
          stays = one.stays;
          stands = one.stands;
          owned = one.owned;
        }

    still : Grown nothing m c' m' c'
    still = record {
      shapes = same.shapes;
      lent = same.lent;
      parts = λ u j o x h. h;
      objects = λ k h. same.objects (source.Frame k);
      begun = subst (λ z. m.activations ≤ z) (sym same.activations) (omega arith);
      called = omega arith;
      births = omega arith;
      stays = λ d less. stays_self _;
      stands = λ k h. refl;
      owned = λ k u j r h. refl;
    }
