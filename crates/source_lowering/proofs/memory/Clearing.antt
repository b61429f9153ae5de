-- Core's part of a struct's beginning: the parts of a local that the source makes next get what they begin with.
use Rattle.std.proofs.Common.{
  ◌≡◌,
  ℕ,
  suc,
  ◌+◌,
  ◌<◌,
  ◌≤◌,
  List,
  [],
  ◌∷◌,
  ◌++◌,
  map,
  length,
  Bool,
  true,
  false,
  nat_eq,
  Option,
  Some,
  None,
  refl,
  sym,
  ap,
  ◌∙◌,
  subst,
  arith,
}
use Rattle.std.specs.Prelude.{◌&&◌, ◌*◌, ◌-◌, ◌%◌, if◌then◌else◌, nat_lt, nat_le, slice_get}
use Rattle.std.proofs.Math.Nat.{mod-eq_of_lt}
use Rattle.std.proofs.lemmas.Bool.{eqb-true, eq-eqb, and_parts}
use Rattle.std.proofs.lemmas.Bool.Decides.{nat_tests}
use Rattle.std.proofs.lemmas.Option.{none-some}
use Rattle.source_meaning.specs.Shapes.{Shape, Layout as ShapeLayout}
use Rattle.source_meaning.specs.Sizes.{Extent}
use Rattle.source_meaning.specs.Placing.{Placed}
use Rattle.source_meaning.specs.Memory as source
use Rattle.source_meaning.specs.Memory.{Spot, Cell}
use Rattle.source_meaning.specs.Steps.{World}
use Rattle.source_meaning.specs.Conversions.{cells_of}
use Rattle.source_meaning.proofs.Cases.{region_is}
use Rattle.core_meaning.specs.Memory as core
use Rattle.core_meaning.specs.Memory.{Content, Part, PartShape, Layout}
use Rattle.core_meaning.specs.Operations.{
  is_part,
  are_parts,
  are_laid,
  are_elements,
  same_object,
  cells_on,
  part_of,
  in_element,
  begun,
  cleared,
}
use Rattle.core_meaning.proofs.Spots.{region_self}
use Rattle.source_lowering.specs.Layouts.{Piece, cell_pieces, part_shape_of, padding, next_at, padded, layout_of, placed_of, extent_of}
use Rattle.source_lowering.specs.Lowerable.{IsObject, AreStructs}
use Rattle.source_lowering.proofs.memory.StructCells.{shapes_in, object_cells}
use Rattle.source_lowering.specs.Simulation.{region_at, at, PartIs, AreShaped, AreMade, PartsHold, SameMemory, Bound, nothing, IsFree, Grown}
use Rattle.source_lowering.proofs.memory.Keeping.{stays_self, named_free, free_object, region_as, shown_later}
use Rattle.source_lowering.proofs.memory.CellParts.{firsts_of}
use Rattle.source_lowering.proofs.expressions.ElementsMade.{here_on, further_on}
use Rattle.source_lowering.proofs.expressions.Making.{cell_spot}

-- ---- the object is there

parts_there : (c : core.Memory) (t : core.Spot) (b j : ℕ) (xs : List PartShape) → AreShaped c t b j xs → are_parts c t b j xs ≡ true
parts_there c t b j [] h = refl
parts_there c t b j (x ∷ xs) h =
    let one : is_part (c.parts t j) b x ≡ true =
    ap (λ z. is_part z b x) h.0.is ∙ ap (λ z. z && nat_eq x.width x.width) (eq-eqb (b + x.offset) (b + x.offset) refl) ∙ eq-eqb x.width x.width refl in
    ap (λ z. z && are_parts c t b (suc j) xs) one ∙ parts_there c t b (suc j) xs h.1

pub laid_there : (c : core.Memory) (t : core.Spot) (b : ℕ) (xss : List (List PartShape)) → AreMade c t b xss → are_laid c t b xss ≡ true
laid_there c t b [] h = refl
laid_there c t b (xs ∷ xss) h =
    ap (λ z. z && are_laid c (core.beyond t 1) b xss) (parts_there c t b 0 xs h.0) ∙ laid_there c (core.beyond t 1) b xss h.1

pub element_there : (c : core.Memory) (t : core.Spot) (b : ℕ) (l : Layout) → AreMade c t b l.cells → are_elements c t b l 1 ≡ true
element_there c t b l h = ap (λ z. z && true) (laid_there c t b l.cells h)

-- ---- what is cleared

record IsBegun (p : Part) (x : Option Part) : Type 0 where
  content : Content
  is : x ≡ Some (record { offset = p.offset; width = p.width; content = content })

begun_is : (p : Part) (q : Option PartShape) → IsBegun p (Some (begun p q))
begun_is p None = record { content = p.content; is = refl }
begun_is p (Some s) = record { content = s.first; is = refl }

-- parts stay where they are
cleared_keeps : (l : Layout) (count : ℕ) (t : core.Spot) (c : core.Memory) (u : core.Spot) (j offset width : ℕ) → PartIs c u j offset width
    → PartIs (cleared l count t c) u j offset width
cleared_keeps l count t c u j offset width h =
    let one = begun_is (record { offset = offset; width = width; content = h.content }) (part_of l (in_element l (cells_on (count * length l.cells) t u)) j) in
    record { content = one.content; is = rw h.is one.is }

cleared_none : (l : Layout) (count : ℕ) (t : core.Spot) (c : core.Memory) (u : core.Spot) (j : ℕ) → c.parts u j ≡ None
    → (cleared l count t c).parts u j ≡ None
cleared_none l count t c u j e = rw e refl

-- other objects stay as they are
cleared_other : (l : Layout) (count : ℕ) (t : core.Spot) (c : core.Memory) (u : core.Spot) (j : ℕ) → same_object u t ≡ false
    → (cleared l count t c).parts u j ≡ c.parts u j
cleared_other l count t c u j other = by (c.parts u j) refl
  where
    nowhere : cells_on (count * length l.cells) t u ≡ None
    nowhere = ap (λ z. if z && (nat_le t.cell u.cell && nat_lt u.cell (t.cell + count * length l.cells)) then Some (u.cell - t.cell) else None) other

    by : (x : Option Part) → c.parts u j ≡ x → (cleared l count t c).parts u j ≡ c.parts u j
    by None e = rw e refl
    by (Some p) e = rw (e, nowhere) refl

-- a part of the object has what it begins with
pub cleared_here : (l : Layout) (r : core.Region) (index : ℕ) (c : core.Memory) (k j : ℕ) (xs : List PartShape) (x : PartShape) (p : Part)
    → k < length l.cells → slice_get l.cells k ≡ Some xs → slice_get xs j ≡ Some x
    → c.parts (record { region = r; object = index; cell = k }) j ≡ Some p
    → (cleared l 1 (record { region = r; object = index; cell = 0 }) c).parts (record { region = r; object = index; cell = k }) j
    ≡ Some (record p { content = x.first })
cleared_here l r index c k j xs x p less is shape part = rw (part, here, inside, is, shape) refl
  where
    t : core.Spot
    t = record { region = r; object = index; cell = 0 }

    u : core.Spot
    u = record { region = r; object = index; cell = k }

    within : nat_lt k (0 + 1 * length l.cells) ≡ true
    within = grind (arith, nat_tests, less)

    after : nat_le 0 k ≡ true
    after = grind (arith, nat_tests)

    none : k - 0 ≡ k
    none = omega arith

    here : cells_on (1 * length l.cells) t u ≡ Some k
    here =
        ap (λ z. if (z && nat_eq index index) && (nat_le 0 k && nat_lt k (0 + 1 * length l.cells)) then Some (k - 0) else None) (region_self r) ∙
        ap (λ z. if z && (nat_le 0 k && nat_lt k (0 + 1 * length l.cells)) then Some (k - 0) else None) (eq-eqb index index refl) ∙
        ap (λ z. if z && nat_lt k (0 + 1 * length l.cells) then Some (k - 0) else None) after ∙
        ap (λ z. if z then Some (k - 0) else None) within ∙ ap (λ z. Some z) none

    inside : k % length l.cells ≡ k
    inside = mod-eq_of_lt less

pub cleared_later : (b : Bound) (m : source.Memory) (c : core.Memory) (l : Layout) (count : ℕ) (t : core.Spot) → IsFree b t
    → Grown b m c m (cleared l count t c)
cleared_later b m c l count t free = record {
  shapes = λ s shape h. h;
  lent = λ s shape v h. h;
  parts = cleared_keeps l count t c;
  objects = λ k h. refl;
  begun = omega arith;
  called = omega arith;
  births = omega arith;
  stays = λ d less. stays_self _;
  stands = λ k h. refl;
  owned = λ k u j r h. cleared_other l count t c u j (free_object b t u k free r h);
}

pub held_still : (c c' : core.Memory) (t : core.Spot) (j : ℕ) (cs : List Content) → ((i : ℕ) → c'.parts t i ≡ c.parts t i) → PartsHold c t j cs
    → PartsHold c' t j cs
held_still c c' t j [] e h = tt
held_still c c' t j (x ∷ xs) e ((q, (is, holds)), others) = ((q, (e j ∙ is, holds)), held_still c c' t (suc j) xs e others)

-- an object that isn't made yet has no cell
no_object : (w : World) (m : source.Memory) (c : core.Memory) (k index : ℕ) (s : Spot) (y : Cell) → SameMemory w m c → m.objects (source.Frame k) ≡ index
    → m.cells s ≡ Some y → s.region ≡ source.Frame k → s.object ≡ index → ⊥
no_object w m c k index s y a made h r o =
    let none : m.cells s ≡ None = a.unmade s (subst (λ q. m.objects q ≤ s.object) (sym r) (subst (λ z. z ≤ s.object) (sym made) (omega (arith, o)))) in
    none-some y (sym none ∙ h)

pub new_object : (w : World) (m : source.Memory) (c : core.Memory) (k index : ℕ) (s : Spot) (y : Cell) → SameMemory w m c → m.objects (source.Frame k) ≡ index
    → m.cells s ≡ Some y → same_object (at s) (at (cell_spot k index 0)) ≡ false
new_object w m c k index s y a made h = by (same_object (at s) (at (cell_spot k index 0))) refl
  where
    by : (b : Bool) → same_object (at s) (at (cell_spot k index 0)) ≡ b → same_object (at s) (at (cell_spot k index 0)) ≡ false
    by false e = e
    by true e =
        let two = and_parts (core.same_region (region_at s.region) (core.Frame k)) (nat_eq s.object index) e in
        absurd (no_object w m c k index s y a made h (region_is s.region (source.Frame k) (sym (region_as s.region (source.Frame k)) ∙ two.0))
        (eqb-true s.object index two.1))

pub object_apart : (w : World) (m : source.Memory) (c : core.Memory) (k index : ℕ) (s : Spot) (y : Cell) → SameMemory w m c → m.objects (source.Frame k) ≡ index
    → m.cells s ≡ Some y → same_object (at (cell_spot k index 0)) (at s) ≡ false
object_apart w m c k index s y a made h = by (same_object (at (cell_spot k index 0)) (at s)) refl
  where
    by : (b : Bool) → same_object (at (cell_spot k index 0)) (at s) ≡ b → same_object (at (cell_spot k index 0)) (at s) ≡ false
    by false e = e
    by true e =
        let two = and_parts (core.same_region (core.Frame k) (region_at s.region)) (nat_eq index s.object) e in
        absurd (no_object w m c k index s y a made h
        (sym (region_is (source.Frame k) s.region (sym (region_as (source.Frame k) s.region) ∙ two.0))) (sym (eqb-true index s.object two.1)))

-- memories still agree where the source has no such object yet
pub agree_cleared : (w : World) (m : source.Memory) (c : core.Memory) (k index : ℕ) (l : Layout) (count : ℕ) → SameMemory w m c
    → m.objects (source.Frame k) ≡ index → SameMemory w m (cleared l count (at (cell_spot k index 0)) c)
agree_cleared w m c k index l count a made = record {
  cells = λ s shape x v keeps h. let one = a.cells s shape x v keeps h in record {
    contents = one.contents;
    shown = shown_later nothing w m m c c' shape v one.contents (cleared_later nothing m c l count t (named_free nothing (cell_spot k index 0))) one.shown;
    held = held_still c c' (at s) 0 one.contents (λ i. cleared_other l count t c (at s) i (new_object w m c k index s _ a made h)) one.held;
  };
  live = a.live;
  activations = a.activations;
  unmade = a.unmade;
  unentered = λ i u j h r. cleared_none l count t c u j (a.unentered i u j h r);
  unbegun = a.unbegun;
  uncalled = λ i u j h r. cleared_none l count t c u j (a.uncalled i u j h r);
  unowned = a.unowned;
  births = a.births;
  heap = a.heap;
  closed = a.closed;
  unborn = a.unborn;
  blocks = a.blocks;
  ungranted = λ d u j r h. cleared_none l count t c u j (a.ungranted d u j r h);
}
  where
    t : core.Spot
    t = at (cell_spot k index 0)

    c' : core.Memory
    c' = cleared l count t c

-- ---- the parts of each cell of an object

abbrev pub placed_at : ℕ → Shape → Placed
placed_at offset shape = record { offset = offset; shape = shape }

-- a cell begins with its own parts
pub record BeginsWith (unions : List ShapeLayout) (xss : List (List PartShape)) (k : ℕ) (shape : Shape) : Type 0 where
  pub others : List PartShape
  pub offset : ℕ
  pub is : slice_get xss k ≡ Some (map (part_shape_of (placed_at offset shape)) (cell_pieces unions shape) ++ others)
  pub less : k < length xss

padded_first : (unions : List ShapeLayout) (extent : Shape → Extent) (bytes : ℕ) (ps : List Placed) (k : ℕ) (shape : Shape)
    → slice_get (shapes_in ps) k ≡ Some shape
    → BeginsWith unions (padded unions extent bytes ps) k shape
padded_first unions extent bytes [] k shape e = absurd (cc e)
padded_first unions extent bytes (p ∷ ps) Rattle.std.proofs.Common.zero shape e =
    let end : ℕ = p.offset + (extent p.shape).size in
    let pad : List PartShape = padding end (next_at bytes ps - end) in
    let same : p.shape ≡ shape = some_is p.shape shape e in
    record {
      others = pad;
      offset = p.offset;
      is = ap (λ z. Some (map (part_shape_of (placed_at p.offset z)) (cell_pieces unions z) ++ pad)) same;
      less = omega arith;
    }
  where
    some_is : (s z : Shape) → Some s ≡ Some z → s ≡ z
    some_is s z f = cc f
padded_first unions extent bytes (p ∷ ps) (suc k) shape e =
    let more = padded_first unions extent bytes ps k shape e in
    record { others = more.others; offset = more.offset; is = more.is; less = let f = more.less in omega (arith, f) }

pub layout_first : (w : World) (s : Shape) (k : ℕ) (shape : Shape) → AreStructs w.unions w.structs → IsObject w.unions w.structs s
    → slice_get (cells_of w s) k ≡ Some shape → BeginsWith w.unions (layout_of w s).cells k shape
layout_first w s k shape structs object e =
    let has = object_cells w.unions w.structs s structs object in
    padded_first w.unions (extent_of w) (extent_of w s).size (placed_of w s) k shape (ap (λ z. slice_get z k) has.shapes ∙ e)

-- the parts of a made object's cell
pub made_at : (c : core.Memory) (r : core.Region) (index cell b k : ℕ) (xss : List (List PartShape)) (xs : List PartShape)
    → AreMade c (record { region = r; object = index; cell = cell }) b xss → slice_get xss k ≡ Some xs
    → AreShaped c (record { region = r; object = index; cell = cell + k }) b 0 xs
made_at c r index cell b k [] xs h e = absurd (cc e)
made_at c r index cell b Rattle.std.proofs.Common.zero (ys ∷ yss) xs h e =
    let same : ys ≡ xs = some_is ys xs e in
    let here : cell ≡ cell + 0 = omega arith in
    subst (λ z. AreShaped c (record { region = r; object = index; cell = z }) b 0 xs) here
    (subst (λ z. AreShaped c (record { region = r; object = index; cell = cell }) b 0 z) same h.0)
  where
    some_is : (s z : List PartShape) → Some s ≡ Some z → s ≡ z
    some_is s z f = cc f
made_at c r index cell b (suc k) (ys ∷ yss) xs h e =
    let next : cell + 1 + k ≡ cell + suc k = omega arith in
    subst (λ z. AreShaped c (record { region = r; object = index; cell = z }) b 0 xs) next
    (made_at c r index (cell + 1) b k yss xs h.1 e)

-- cleared, a cell's value's parts have what they begin with
pub cleared_holds : (l : Layout) (r : core.Region) (index b : ℕ) (c : core.Memory) (k j : ℕ) (xs : List PartShape) (p : Placed) (qs : List Piece)
    (others : List PartShape) → k < length l.cells → slice_get l.cells k ≡ Some xs
    → ((i : ℕ) → slice_get xs (j + i) ≡ slice_get (map (part_shape_of p) qs ++ others) i)
    → AreShaped c (record { region = r; object = index; cell = k }) b j (map (part_shape_of p) qs ++ others)
    → PartsHold (cleared l 1 (record { region = r; object = index; cell = 0 }) c) (record { region = r; object = index; cell = k }) j (firsts_of qs)
cleared_holds l r index b c k j xs p [] others less is same shaped = tt
cleared_holds l r index b c k j xs p (q ∷ qs) others less is same shaped =
    let x : PartShape = part_shape_of p q in
    let more : List PartShape = map (part_shape_of p) qs ++ others in
    let old : Part = record { offset = b + x.offset; width = x.width; content = shaped.0.content } in (
      (record old { content = x.first }, (cleared_here l r index c k j xs x old less is (here_on xs more j x same) shaped.0.is, refl)),
      cleared_holds l r index b c k (suc j) xs p qs others less is (further_on xs more j x same) shaped.1,
    )
