-- An object is copied: the source reads all cells and writes them one by one, and Core copies the object's parts at once.
use Rattle.std.proofs.Common.{◌≡◌, ℕ, suc, ◌+◌, ◌<◌, List, [], ◌∷◌, length, Bool, true, false, not, nat_eq, Option, Some, None, refl, sym, ap, ◌∙◌, subst}
use Rattle.std.proofs.Common.{arith, ◌++◌}
use Rattle.std.specs.Prelude.{◌&&◌, ◌-◌, if◌then◌else◌, nat_lt, nat_le, slice_get, map}
use Rattle.std.proofs.lemmas.Bool.{eq-eqb}
use Rattle.std.proofs.lemmas.Bool.Decides.{nat_tests}
use Rattle.source_meaning.specs.Shapes.{Shape}
use Rattle.source_meaning.specs.Memory as source
use Rattle.source_meaning.specs.Memory.{Scalar, Spot, Holds, is_live, is_of}
use Rattle.source_meaning.specs.Steps as steps
use Rattle.source_meaning.specs.Steps.{World, check}
use Rattle.source_meaning.specs.Values.{write_cells, put_content, is_lent}
use Rattle.core_meaning.specs.Memory as core
use Rattle.core_meaning.specs.Memory.{Part, PartShape, Layout, Content}
use Rattle.core_meaning.specs.Core.{Program}
use Rattle.core_meaning.specs.Steps as core_steps
use Rattle.core_meaning.specs.Operations.{same_object, cells_on, part_of, on_from, copied}
use Rattle.core_meaning.proofs.Spots.{region_self}
use Rattle.core_meaning.proofs.Wholes.{beyond_none, beyond_both}
use Rattle.source_meaning.specs.Conversions.{cells_of}
use Rattle.source_lowering.specs.Layouts.{layout_of, Piece, cell_pieces, part_shape_of}
use Rattle.source_lowering.specs.Lowerable.{IsObject, AreStructs}
use Rattle.source_lowering.specs.ObjectCells.{AreCellShapes}
use Rattle.source_lowering.specs.Simulation.{at, HasShape, PartIs, AreCells, AreMade, PartsHold, Shown, SameMemory, Bound, nothing, IsFree, Grown, Same}
use Rattle.source_lowering.specs.Simulation.{AreShaped}
use Rattle.source_lowering.proofs.memory.Keeping.{stays_self, named_free, free_nothing, free_object, later_self, later_on, shown_later, m_written, IsUnlent}
use Rattle.source_lowering.proofs.memory.Keeping.{unlent_is}
use Rattle.source_lowering.proofs.Runs.{stuck_same}
pub use Rattle.source_lowering.proofs.memory.ObjectReads.{AllHeld, IsLiveFor, read_all}
use Rattle.source_lowering.proofs.expressions.Making.{cell_spot}
use Rattle.source_lowering.proofs.memory.CellParts.{FitFirst, agree_shown, later_shown}
use Rattle.source_lowering.proofs.memory.UnionCells.{shown_fits}
use Rattle.source_meaning.specs.Placing.{Placed}
use Rattle.source_lowering.proofs.expressions.ElementsMade.{here_on, further_on}
use Rattle.source_lowering.proofs.memory.Clearing.{held_still, new_object, layout_first, made_at, placed_at}

-- ---- the source writes what Core's parts show already

-- a cell's parts show a value
pub record IsCellShown (w : World) (m : source.Memory) (c : core.Memory) (t : core.Spot) (shape : Shape) (v : Scalar) : Type 0 where
  pub contents : List Content
  pub fit : FitFirst (cell_pieces w.unions shape) contents
  pub held : PartsHold c t 0 contents
  pub shown : Shown w m c shape v contents

abbrev pub AllShown : World → source.Memory → core.Memory → core.Spot → List Shape → List Scalar → Type 0
AllShown w m c t [] [] = Unit {0}
AllShown w m c t (x ∷ xs) (v ∷ vs) = IsCellShown w m c t x v × AllShown w m c (core.beyond t 1) xs vs
AllShown w m c t [] (v ∷ vs) = ⊥
AllShown w m c t (x ∷ xs) [] = ⊥

-- later, where these parts are as they were
pub all_shown_kept : (b : Bound) (w : World) (m m' : source.Memory) (c c' : core.Memory) (t : core.Spot) (xs : List Shape) (vs : List Scalar)
    → Grown b m c m' c' → ((i j : ℕ) → i < length xs → c'.parts (core.beyond t i) j ≡ c.parts (core.beyond t i) j)
    → AllShown w m c t xs vs → AllShown w m' c' t xs vs
all_shown_kept b w m m' c c' t [] [] l same h = tt
all_shown_kept b w m m' c c' t [] (v ∷ vs) l same h = absurd h
all_shown_kept b w m m' c c' t (x ∷ xs) [] l same h = absurd h
all_shown_kept b w m m' c c' t (x ∷ xs) (v ∷ vs) l same h = (
  record {
    contents = h.0.contents;
    fit = h.0.fit;
    held = held_still c c' t 0 h.0.contents (λ j. subst (λ z. c'.parts z j ≡ c.parts z j) (sym (beyond_none t)) (same 0 j (omega arith))) h.0.held;
    shown = shown_later b w m m' c c' x v h.0.contents l h.0.shown;
  },
  all_shown_kept b w m m' c c' (core.beyond t 1) xs vs l
      (λ i j less.
      subst (λ z. c'.parts z j ≡ c.parts z j) (sym (beyond_both t 1 i (suc i) (omega arith))) (same (suc i) j (omega (arith, less)))) h.1,
)

pub all_shown_later : (b : Bound) (w : World) (m m' : source.Memory) (c : core.Memory) (t : core.Spot) (xs : List Shape) (vs : List Scalar) → Grown b m c m' c
    → AllShown w m c t xs vs → AllShown w m' c t xs vs
all_shown_later b w m m' c t xs vs l h = all_shown_kept b w m m' c c t xs vs l (λ i j less. refl) h

-- what the source's cells hold is shown
pub held_shown : (w : World) (m : source.Memory) (c : core.Memory) (s : Spot) (xs : List Shape) (vs : List Scalar) → SameMemory w m c
    → AreCellShapes w.unions xs
    → AllHeld m s xs vs → AllShown w m c (at s) xs vs
held_shown w m c s [] [] a values h = tt
held_shown w m c s [] (v ∷ vs) a values h = absurd h
held_shown w m c s (x ∷ xs) [] a values h = absurd h
held_shown w m c s (x ∷ xs) (v ∷ vs) a values h =
    let here = a.cells s x (Holds v) v refl h.0 in (
      record {
        contents = here.contents;
        fit = shown_fits w m c x v here.contents values.0 here.shown;
        held = here.held;
        shown = here.shown;
      },
      held_shown w m c (source.beyond s 1) xs vs a values.1 h.1,
    )

cells_kept : (b : Bound) (m m' : source.Memory) (c : core.Memory) (s : Spot) (xs : List Shape) → Grown b m c m' c → AreCells m s xs → AreCells m' s xs
cells_kept b m m' c s [] l h = tt
cells_kept b m m' c s (x ∷ xs) l h = (l.shapes s x h.0, cells_kept b m m' c (source.beyond s 1) xs l h.1)

-- one cell is written
record IsHeld (w : World) (m : source.Memory) (c : core.Memory) (s : Spot) (shape : Shape) (v : Scalar) : Type 0 where
  agree : SameMemory w (m_written m s shape v) c
  later : (b : Bound) → Grown b m c (m_written m s shape v) c

held_is : (w : World) (m : source.Memory) (c : core.Memory) (s : Spot) (shape : Shape) (v : Scalar) → SameMemory w m c → HasShape m s shape → IsUnlent m s
    → IsCellShown w m c (at s) shape v → IsHeld w m c s shape v
held_is w m c s shape v a has free one = record {
  agree = agree_shown w m c s shape has.content v one.contents a has.is one.held one.shown;
  later = λ b. later_shown b m c s shape has.content (Holds v) has.is free;
}

pub write_all : (w : World) (fs : Program) (n : ℕ) (b : Bound) (xs : List Shape) (vs : List Scalar) (m : source.Memory) (c : core.Memory) (t : Spot)
    (s : Unit {0} → source.Memory → steps.Step) (k : core_steps.Step) → is_live m t.region ≡ true → SameMemory w m c → AreCells m t xs
    → AllShown w m c (at t) xs vs
    → ((m' : source.Memory) → SameMemory w m' c → Grown b m c m' c → Same w fs n (s tt m') k) → Same w fs n (write_cells t vs s m) k
write_all w fs n b [] [] m c t s k live a cells shown go = go m a (later_self b m c)
write_all w fs n b [] (v ∷ vs) m c t s k live a cells shown go = absurd shown
write_all w fs n b (x ∷ xs) [] m c t s k live a cells shown go = absurd shown
write_all w fs n b (x ∷ xs) (v ∷ vs) m c t s k live a cells shown go =
    first (λ held. write_all w fs n b xs vs (m_written m t x v) c (source.beyond t 1) s k live held.agree
    (cells_kept b m (m_written m t x v) c (source.beyond t 1) xs (held.later b) cells.1)
    (all_shown_later b w m (m_written m t x v) c (at (source.beyond t 1)) xs vs (held.later b) shown.1)
    (λ m' a' l. go m' a' (later_on b m (m_written m t x v) m' c c c (held.later b) l)))
  where
    rest : Unit {0} → source.Memory → steps.Step
    rest u = write_cells (source.beyond t 1) vs s

    put_done : Same w fs n (rest tt (m_written m t x v)) k → Same w fs n (put_content t (Holds v) rest m) k
    put_done more = rw (live, cells.0.is) more

    of_type : (b : Bool) → is_of x v ≡ b → Same w fs n (rest tt (m_written m t x v)) k
        → Same w fs n (check (is_of x v) (λ u. put_content t (Holds v) rest) m) k
    of_type false e more = rw e (stuck_same w fs n k)
    of_type true e more = rw e (put_done more)

    lent : (b : Bool) → is_lent cells.0.content ≡ b → (IsHeld w m c t x v → Same w fs n (rest tt (m_written m t x v)) k)
        → Same w fs n (check (not (is_lent cells.0.content)) (λ u. check (is_of x v) (λ u. put_content t (Holds v) rest)) m) k
    lent true e more = rw e (stuck_same w fs n k)
    lent false e more =
        rw e (of_type (is_of x v) refl (more (held_is w m c t x v a cells.0 (unlent_is m t x cells.0.content cells.0.is e) shown.0)))

    first : (IsHeld w m c t x v → Same w fs n (rest tt (m_written m t x v)) k) → Same w fs n (write_cells t (v ∷ vs) s m) k
    first more = rw (live, cells.0.is) (lent (is_lent cells.0.content) refl more)

-- ---- Core copies

-- what a copy makes of a part: it lies where it did
record IsCopied (p : Part) (x : Option Part) : Type 0 where
  content : Content
  is : x ≡ Some (record { offset = p.offset; width = p.width; content = content })

copied_is : (l : Layout) (to from : core.Spot) (c : core.Memory) (u : core.Spot) (j : ℕ) (p : Part) → c.parts u j ≡ Some p
    → IsCopied p ((copied l to from c).parts u j)
copied_is l to from c u j p e = by (cells_on (length l.cells) to u) refl (part_of l (cells_on (length l.cells) to u) j) refl
  where
    source_part : (k : Option ℕ) → cells_on (length l.cells) to u ≡ k → (x : PartShape) → part_of l (cells_on (length l.cells) to u) j ≡ Some x
        → (q : Option Part) → c.parts (on_from from (cells_on (length l.cells) to u)) j ≡ q → IsCopied p ((copied l to from c).parts u j)
    source_part k f x g None h = record { content = p.content; is = rw (e, g, h) refl }
    source_part k f x g (Some q) h = record { content = q.content; is = rw (e, g, h) refl }

    by : (k : Option ℕ) → cells_on (length l.cells) to u ≡ k → (x : Option PartShape) → part_of l (cells_on (length l.cells) to u) j ≡ x
        → IsCopied p ((copied l to from c).parts u j)
    by k f None g = record { content = p.content; is = rw (e, g) refl }
    by k f (Some x) g = source_part k f x g (c.parts (on_from from (cells_on (length l.cells) to u)) j) refl

copied_keeps : (l : Layout) (to from : core.Spot) (c : core.Memory) (u : core.Spot) (j offset width : ℕ) → PartIs c u j offset width
    → PartIs (copied l to from c) u j offset width
copied_keeps l to from c u j offset width h =
    let one = copied_is l to from c u j (record { offset = offset; width = width; content = h.content }) h.is in
    record { content = one.content; is = one.is }

pub copied_none : (l : Layout) (to from : core.Spot) (c : core.Memory) (u : core.Spot) (j : ℕ) → c.parts u j ≡ None → (copied l to from c).parts u j ≡ None
copied_none l to from c u j e = rw e refl

pub copied_nowhere : (l : Layout) (to from : core.Spot) (c : core.Memory) (u : core.Spot) (j : ℕ) → cells_on (length l.cells) to u ≡ None
    → (copied l to from c).parts u j ≡ c.parts u j
copied_nowhere l to from c u j nowhere = by (c.parts u j) refl
  where
    by : (x : Option Part) → c.parts u j ≡ x → (copied l to from c).parts u j ≡ c.parts u j
    by None e = rw e refl
    by (Some p) e = rw (e, nowhere) refl

pub copied_other : (l : Layout) (to from : core.Spot) (c : core.Memory) (u : core.Spot) (j : ℕ) → same_object u to ≡ false
    → (copied l to from c).parts u j ≡ c.parts u j
copied_other l to from c u j other = copied_nowhere l to from c u j
    (ap (λ z. if z && (nat_le to.cell u.cell && nat_lt u.cell (to.cell + length l.cells)) then Some (u.cell - to.cell) else None) other)

pub copied_here : (l : Layout) (to from : core.Spot) (c : core.Memory) (k j : ℕ) (xs : List PartShape) (x : PartShape) (p q : Part)
    → k < length l.cells → slice_get l.cells k ≡ Some xs → slice_get xs j ≡ Some x
    → c.parts (core.beyond to k) j ≡ Some p → c.parts (core.beyond from k) j ≡ Some q
    → (copied l to from c).parts (core.beyond to k) j ≡ Some (record p { content = q.content })
copied_here l to from c k j xs x p q less is shape part there = rw (part, here, is, shape, there) refl
  where
    within_it : nat_lt (to.cell + k) (to.cell + length l.cells) ≡ true
    within_it = grind (arith, nat_tests, less)

    after : nat_le to.cell (to.cell + k) ≡ true
    after = grind (arith, nat_tests)

    none : to.cell + k - to.cell ≡ k
    none = omega arith

    here : cells_on (length l.cells) to (core.beyond to k) ≡ Some k
    here =
        ap (λ z. if (z && nat_eq to.object to.object) && (nat_le to.cell (to.cell + k) && nat_lt (to.cell + k) (to.cell + length l.cells)) then Some
        (to.cell + k - to.cell) else None) (region_self to.region) ∙
        ap (λ z. if z && (nat_le to.cell (to.cell + k) && nat_lt (to.cell + k) (to.cell + length l.cells)) then Some (to.cell + k - to.cell) else None)
        (eq-eqb to.object to.object refl) ∙
        ap (λ z. if z && nat_lt (to.cell + k) (to.cell + length l.cells) then Some (to.cell + k - to.cell) else None) after ∙
        ap (λ z. if z then Some (to.cell + k - to.cell) else None) within_it ∙ ap (λ z. Some z) none

-- the parts of a cell's value hold what those that they come from do
copied_holds : (l : Layout) (to from : core.Spot) (c : core.Memory) (byte k j : ℕ) (xs : List PartShape) (p : Placed) (qs : List Piece)
    (others : List PartShape) (cs : List Content) → k < length l.cells → slice_get l.cells k ≡ Some xs
    → ((i : ℕ) → slice_get xs (j + i) ≡ slice_get (map (part_shape_of p) qs ++ others) i)
    → AreShaped c (core.beyond to k) byte j (map (part_shape_of p) qs ++ others) → FitFirst qs cs → PartsHold c (core.beyond from k) j cs
    → PartsHold (copied l to from c) (core.beyond to k) j cs
copied_holds l to from c byte k j xs p qs others [] less is same shaped fit held = tt
copied_holds l to from c byte k j xs p [] others (x ∷ cs) less is same shaped fit held = absurd fit
copied_holds l to from c byte k j xs p (q ∷ qs) others (x ∷ cs) less is same shaped fit held =
    let y : PartShape = part_shape_of p q in
    let more : List PartShape = map (part_shape_of p) qs ++ others in
    let target : Part = record { offset = byte + y.offset; width = y.width; content = shaped.0.content } in (
      (
        record target { content = held.0.0.content },
        (copied_here l to from c k j xs y target held.0.0 less is (here_on xs more j y same) shaped.0.is held.0.1.0, held.0.1.1),
      ),
      copied_holds l to from c byte k (suc j) xs p qs others cs less is (further_on xs more j y same) shaped.1 fit.1 held.1,
    )

pub copied_later : (b : Bound) (m : source.Memory) (c : core.Memory) (l : Layout) (to from : core.Spot) → IsFree b to
    → Grown b m c m (copied l to from c)
copied_later b m c l to from free = record {
  shapes = λ s shape h. h;
  lent = λ s shape v h. h;
  parts = copied_keeps l to from c;
  objects = λ k h. refl;
  begun = omega arith;
  called = omega arith;
  births = omega arith;
  stays = λ d less. stays_self _;
  stands = λ k h. refl;
  owned = λ k u j r h. copied_other l to from c u j (free_object b to u k free r h);
}

-- memories still agree where the source has no such object yet
pub agree_copied : (w : World) (m : source.Memory) (c : core.Memory) (k index : ℕ) (from : core.Spot) (l : Layout) → SameMemory w m c
    → m.objects (source.Frame k) ≡ index → SameMemory w m (copied l (at (cell_spot k index 0)) from c)
agree_copied w m c k index from l a made = record {
  cells = λ s shape x v keeps h. let one = a.cells s shape x v keeps h in record {
    contents = one.contents;
    shown = shown_later nothing w m m c c' shape v one.contents (copied_later nothing m c l t from (named_free nothing (cell_spot k index 0))) one.shown;
    held = held_still c c' (at s) 0 one.contents (λ i. copied_other l t from c (at s) i (new_object w m c k index s _ a made h)) one.held;
  };
  live = a.live;
  activations = a.activations;
  unmade = a.unmade;
  unentered = λ i u j h r. copied_none l t from c u j (a.unentered i u j h r);
  unbegun = a.unbegun;
  uncalled = λ i u j h r. copied_none l t from c u j (a.uncalled i u j h r);
  unowned = a.unowned;
  births = a.births;
  heap = a.heap;
  closed = a.closed;
  unborn = a.unborn;
  blocks = a.blocks;
  ungranted = λ d u j r h. copied_none l t from c u j (a.ungranted d u j r h);
}
  where
    t : core.Spot
    t = at (cell_spot k index 0)

    c' : core.Memory
    c' = copied l t from c

-- the copied parts show what those that they come from do
pub all_copied : (w : World) (m : source.Memory) (c : core.Memory) (to from : core.Spot) (byte : ℕ) (shape : Shape) (k : ℕ) (xs : List Shape)
    (vs : List Scalar) → AreStructs w.unions w.structs → IsObject w.unions w.structs shape → AreMade c to byte (layout_of w shape).cells
    → ((i : ℕ) → slice_get (cells_of w shape) (k + i) ≡ slice_get xs i) → AllShown w m c (core.beyond from k) xs vs
    → AllShown w m (copied (layout_of w shape) to from c) (core.beyond to k) xs vs
all_copied w m c to from byte shape k [] [] structs object made same held = tt
all_copied w m c to from byte shape k [] (v ∷ vs) structs object made same held = absurd held
all_copied w m c to from byte shape k (x ∷ xs) [] structs object made same held = absurd held
all_copied w m c to from byte shape k (x ∷ xs) (v ∷ vs) structs object made same held = (
  one,
  subst (λ z. AllShown w m c' z xs vs) (sym (beyond_both to k 1 (suc k) next))
      (all_copied w m c to from byte shape (suc k) xs vs structs object made (λ i. ap (slice_get (cells_of w shape)) (one_on k i) ∙ same (suc i))
      (subst (λ z. AllShown w m c z xs vs) (beyond_both from k 1 (suc k) next) held.1)),
)
  where
    layout : Layout
    layout = layout_of w shape

    c' : core.Memory
    c' = copied layout to from c

    next : k + 1 ≡ suc k
    next = omega arith

    one_on : (k i : ℕ) → suc k + i ≡ k + suc i
    one_on k i = omega arith

    no_more : (k : ℕ) → k ≡ k + 0
    no_more k = omega arith

    one : IsCellShown w m c' (core.beyond to k) x v
    one =
        let first = layout_first w shape k x structs object (ap (slice_get (cells_of w shape)) (no_more k) ∙ same 0) in
        let parts : List PartShape = map (part_shape_of (placed_at first.offset x)) (cell_pieces w.unions x) ++ first.others in
        record {
          contents = held.0.contents;
          fit = held.0.fit;
          held = copied_holds layout to from c byte k 0 parts (placed_at first.offset x)
              (cell_pieces w.unions x) first.others held.0.contents first.less first.is
              (λ i. ap (slice_get parts) (zero_on i)) (made_at c to.region to.object to.cell byte k layout.cells parts made first.is) held.0.fit held.0.held;
          shown = shown_later nothing w m m c c' x v held.0.contents (copied_later nothing m c layout to from (free_nothing to)) held.0.shown;
        }
      where
        zero_on : (i : ℕ) → 0 + i ≡ i
        zero_on i = omega arith

-- an object as a whole
pub whole_copied : (w : World) (m : source.Memory) (c : core.Memory) (to from : core.Spot) (byte : ℕ) (shape : Shape) (vs : List Scalar)
    → AreStructs w.unions w.structs → IsObject w.unions w.structs shape → AreMade c to byte (layout_of w shape).cells
    → AllShown w m c from (cells_of w shape) vs
    → AllShown w m (copied (layout_of w shape) to from c) to (cells_of w shape) vs
whole_copied w m c to from byte shape vs structs object made held =
    subst (λ z. AllShown w m (copied (layout_of w shape) to from c) z (cells_of w shape) vs) (sym (beyond_none to))
    (all_copied w m c to from byte shape 0 (cells_of w shape) vs structs object made (λ i. ap (slice_get (cells_of w shape)) (zero_on i))
    (subst (λ z. AllShown w m c z (cells_of w shape) vs) (beyond_none from) held))
  where
    zero_on : (i : ℕ) → 0 + i ≡ i
    zero_on i = omega arith
