-- A value's one cell, of one part or three, is read and written, in the source and in Core.
use Rattle.std.proofs.Common.{
  ◌≡◌,
  ⊎_elim,
  ℕ,
  suc,
  ◌+◌,
  List,
  [],
  ◌∷◌,
  length,
  Bool,
  true,
  false,
  not,
  Option,
  Some,
  None,
  refl,
  sym,
  ap,
  ◌∙◌,
  subst,
  arith,
}
use Rattle.std.specs.Prelude.{map}
use Rattle.source_meaning.specs.Shapes.{
  Shape,
  IntShape,
  UnsignedShape,
  CharShape,
  VoidShape,
  ThinShape,
  FatShape,
  HandleShape,
  KeyShape,
  StructShape,
  UnionShape,
  ArrayShape,
}
use Rattle.source_meaning.specs.Memory as source
use Rattle.source_meaning.specs.Memory.{Scalar, Spot, Holds, is_live, is_of}
use Rattle.source_meaning.specs.Steps as steps
use Rattle.source_meaning.specs.Steps.{World, check}
use Rattle.source_meaning.specs.Placing.{Placed}
use Rattle.source_meaning.specs.Conversions.{cells_of, size_of}
use Rattle.source_meaning.specs.Values.{read_cells, value_held, write_cells, put_content, is_lent}
use Rattle.core_meaning.specs.Memory as core
use Rattle.core_meaning.specs.Memory.{Content, Part}
use Rattle.core_meaning.specs.Core.{Program}
use Rattle.core_meaning.specs.Steps as core_steps
use Rattle.source_lowering.specs.Layouts.{Piece, piece, pieces_of, first_part, part_shape_of, layout_of}
use Rattle.source_lowering.specs.Lowered.{width_of}
use Rattle.source_lowering.specs.Lowerable.{IsWordShape, IsValueShape}
use Rattle.source_lowering.specs.Simulation.{
  region_at,
  at,
  HasShape,
  AreShaped,
  AreCells,
  AreMade,
  Leads,
  AFatNull,
  AFat,
  Shown,
  PartsHold,
  SameMemory,
  Grown,
  Same,
  Bound,
}
use Rattle.source_lowering.proofs.memory.Keeping.{m_written, IsUnlent, unlent_is}
use Rattle.source_lowering.proofs.memory.CellParts.{PartsAre, FitPieces, all_hold, part_of, with_values, later_values, agree_values}
use Rattle.source_lowering.proofs.Runs.{stuck_same}
use Rattle.source_lowering.proofs.memory.Members.{word_pieces}
use Rattle.source_lowering.proofs.memory.Cells.{IsPlain, plain_of}

-- ---- shapes of values

abbrev pub alone : Shape → Placed
alone shape = record { offset = 0; shape = shape }

-- a value has one cell, and what stands for it fits the parts of its shape
pub record IsCell (w : World) (shape : Shape) : Type 0 where
  pub cells : cells_of w shape ≡ shape ∷ []
  pub layout : (layout_of w shape).cells ≡ map (part_shape_of (alone shape)) (pieces_of shape) ∷ []
  pub fit : (m : source.Memory) (c : core.Memory) (v : Scalar) (cs : List Content) → Shown w m c shape v cs → FitPieces (pieces_of shape) cs

word_cell : (w : World) (s : Shape) → IsWordShape s → IsCell w s
word_cell w s h = record {
  cells = plain.cells;
  layout = plain.layout ∙ ap (λ qs. map (part_shape_of (alone s)) qs ∷ []) (sym (word_pieces s h));
  fit = λ m c v cs o.
      let one = plain.one m c v cs o in
      subst (λ qs. FitPieces qs cs) (sym (word_pieces s h))
      (subst (λ xs. FitPieces (piece 0 (width_of s) (first_part s) ∷ []) xs) (sym one.is) (one.fits, tt));
}
  where
    plain : IsPlain w s (width_of s)
    plain = plain_of w s h

fat_cell : (w : World) (to : Shape) → IsCell w (FatShape to)
fat_cell w to = record {
  cells = refl;
  layout = refl;
  fit = λ m c v cs o.
      ⊎_elim (λ (z : AFatNull v cs). subst (λ xs. FitPieces (pieces_of (FatShape to)) xs) (sym z.shown) (refl, (refl, (refl, tt))))
      (λ (z : AFat w m c to (size_of w to) v cs). subst (λ xs. FitPieces (pieces_of (FatShape to)) xs) (sym z.shown) (refl, (refl, (refl, tt)))) o;
}

pub cell_of : (w : World) (s : Shape) → IsValueShape s → IsCell w s
cell_of w IntShape h = word_cell w IntShape h
cell_of w UnsignedShape h = word_cell w UnsignedShape h
cell_of w CharShape h = word_cell w CharShape h
cell_of w VoidShape h = absurd h
cell_of w (ThinShape b owner to) h = word_cell w (ThinShape b owner to) h
cell_of w (FatShape to) h = fat_cell w to
cell_of w HandleShape h = word_cell w HandleShape h
cell_of w KeyShape h = word_cell w KeyShape h
cell_of w (StructShape tag) h = absurd h
cell_of w (UnionShape tag) h = absurd h
cell_of w (ArrayShape count of) h = absurd h

-- ---- the cell of a place

pub record CellAt (m : source.Memory) (c : core.Memory) (s : Spot) (byte : ℕ) (shape : Shape) : Type 0 where
  pub has : HasShape m s shape
  pub contents : List Content
  pub parts : PartsAre c (at s) byte 0 (pieces_of shape) contents

-- parts that lie as their pieces do hold something
pub record HaveContents (c : core.Memory) (t : core.Spot) (byte j : ℕ) (qs : List Piece) : Type 0 where
  pub contents : List Content
  pub are : PartsAre c t byte j qs contents

pub shaped_have : (c : core.Memory) (t : core.Spot) (byte j : ℕ) (shape : Shape) (qs : List Piece)
    → AreShaped c t byte j (map (part_shape_of (alone shape)) qs) → HaveContents c t byte j qs
shaped_have c t byte j shape [] h = record { contents = []; are = tt }
shaped_have c t byte j shape (q ∷ qs) h =
    let others = shaped_have c t byte (suc j) shape qs h.1 in
    let same : byte + (0 + q.offset) ≡ byte + q.offset = omega arith in
    record {
      contents = h.0.content ∷ others.contents;
      are = (h.0.is ∙ ap (λ o. Some (record { offset = o; width = q.width; content = h.0.content })) same, others.are);
    }

pub cell_there : (w : World) (m : source.Memory) (c : core.Memory) (s : Spot) (byte : ℕ) (shape : Shape) → IsCell w shape → Leads w m c shape s byte
    → CellAt m c s byte shape
cell_there w m c s byte shape one leads =
    let cells : AreCells m s (shape ∷ []) = subst (λ z. AreCells m s z) one.cells leads.0 in
    let made : AreMade c (at s) byte (map (part_shape_of (alone shape)) (pieces_of shape) ∷ []) = subst (λ z. AreMade c (at s) byte z) one.layout leads.1 in
    let have = shaped_have c (at s) byte 0 shape (pieces_of shape) made.0 in
    record { has = cells.0; contents = have.contents; parts = have.are }

-- ---- it is read: where the source isn't stuck, its parts have what stands for its value

-- parts that hold contents hold nothing else
abbrev content_in : Content → Option Part → Content
content_in y None = y
content_in y (Some q) = q.content

hold_are : (c : core.Memory) (t : core.Spot) (byte j : ℕ) (qs : List Piece) (ys xs : List Content) → PartsAre c t byte j qs ys → FitPieces qs xs
    → PartsHold c t j xs → PartsAre c t byte j qs xs
hold_are c t byte j [] ys [] are fit hold = tt
hold_are c t byte j [] ys (x ∷ xs) are fit hold = absurd fit
hold_are c t byte j (q ∷ qs) ys [] are fit hold = absurd fit
hold_are c t byte j (q ∷ qs) [] (x ∷ xs) are fit hold = absurd are
hold_are c t byte j (q ∷ qs) (y ∷ ys) (x ∷ xs) are fit hold =
    let both : Some (part_of byte q y) ≡ Some hold.0.0 = sym are.0 ∙ hold.0.1.0 in
    let same : y ≡ x = ap (content_in y) both ∙ hold.0.1.1 in
    (are.0 ∙ ap (λ z. Some (part_of byte q z)) same, hold_are c t byte (suc j) qs ys xs are.1 fit.1 hold.1)

-- what is known of a cell that was read
pub record CellRead (w : World) (m : source.Memory) (c : core.Memory) (shape : Shape) (s : Spot) (byte : ℕ) (v : Scalar) : Type 0 where
  pub contents : List Content
  pub holds : m.cells s ≡ Some (record { shape = shape; content = Holds v })
  pub live : core.is_live (c.standing (region_at s.region)) ≡ true
  pub parts : PartsAre c (at s) byte 0 (pieces_of shape) contents
  pub fit : FitPieces (pieces_of shape) contents
  pub shown : Shown w m c shape v contents

-- the source reads it where it holds a value
pub cell_held : (w : World) (fs : Program) (n : ℕ) (shape : Shape) (m : source.Memory) (t : Spot) (s : List Scalar → source.Memory → steps.Step)
    (k : core_steps.Step) → HasShape m t shape
    → ((v : Scalar) → is_live m t.region ≡ true → m.cells t ≡ Some (record { shape = shape; content = Holds v }) → Same w fs n (s (v ∷ []) m) k)
    → Same w fs n (read_cells 1 t s m) k
cell_held w fs n shape m t s k has go = by (is_live m t.region) refl
  where
    held : is_live m t.region ≡ true → (x : source.Content) → m.cells t ≡ Some (record { shape = shape; content = x })
        → Same w fs n (value_held x (λ v. s (v ∷ [])) m) k
    held live source.Blank is = stuck_same w fs n k
    held live source.Gone is = stuck_same w fs n k
    held live (source.Lent x) is = stuck_same w fs n k
    held live (Holds v) is = go v live is

    by : (b : Bool) → is_live m t.region ≡ b → Same w fs n (read_cells 1 t s m) k
    by false e = rw e (stuck_same w fs n k)
    by true e = rw (e, has.is) (held e has.content has.is)

pub cell_reads : (w : World) (fs : Program) (n : ℕ) (shape : Shape) (m : source.Memory) (c : core.Memory) (t : Spot) (byte : ℕ)
    (s : List Scalar → source.Memory → steps.Step) (k : core_steps.Step)
    → IsCell w shape → SameMemory w m c → Leads w m c shape t byte → ((v : Scalar) → CellRead w m c shape t byte v → Same w fs n (s (v ∷ []) m) k)
    → Same w fs n (read_cells (length (cells_of w shape)) t s m) k
cell_reads w fs n shape m c t byte s k one agree leads go =
    let here = cell_there w m c t byte shape one leads in
    subst (λ z. Same w fs n (read_cells (length z) t s m) k) (sym one.cells)
    (cell_held w fs n shape m t s k here.has
    (λ v live is.
    let shown = agree.cells t shape (Holds v) v refl is in
    let fit = one.fit m c v shown.contents shown.shown in
    go v (record {
      contents = shown.contents;
      holds = is;
      live = sym (agree.live t.region) ∙ live;
      parts = hold_are c (at t) byte 0 (pieces_of shape) here.contents shown.contents here.parts fit shown.held;
      fit = fit;
      shown = shown.shown;
    })))

-- ---- it is written

-- what is known of a cell that was written
pub record CellWritten (w : World) (m : source.Memory) (c : core.Memory) (shape : Shape) (s : Spot) (byte : ℕ) (v : Scalar) (xs : List Content) : Type 0 where
  pub old : List Content
  pub live : core.is_live (c.standing (region_at s.region)) ≡ true
  pub parts : PartsAre c (at s) byte 0 (pieces_of shape) old
  pub fit : FitPieces (pieces_of shape) xs
  pub agree : SameMemory w (m_written m s shape v) (with_values c (at s) byte (pieces_of shape) xs)
  pub later : (b : Bound) → Grown b m c (m_written m s shape v) (with_values c (at s) byte (pieces_of shape) xs)

-- the source writes it where it isn't lent
pub cell_put : (w : World) (fs : Program) (n : ℕ) (shape : Shape) (m : source.Memory) (t : Spot) (v : Scalar) (s : Unit {0} → source.Memory → steps.Step)
    (k : core_steps.Step) → HasShape m t shape → (is_live m t.region ≡ true → IsUnlent m t → Same w fs n (s tt (m_written m t shape v)) k)
    → Same w fs n (write_cells t (v ∷ []) s m) k
cell_put w fs n shape m t v s k has go = by (is_live m t.region) refl
  where
    put_done : is_live m t.region ≡ true → IsUnlent m t → Same w fs n (put_content t (Holds v) s m) k
    put_done live free = rw (live, has.is) (go live free)

    of_type : is_live m t.region ≡ true → IsUnlent m t → (b : Bool) → is_of shape v ≡ b
        → Same w fs n (check (is_of shape v) (λ u. put_content t (Holds v) s) m) k
    of_type live free false e = rw e (stuck_same w fs n k)
    of_type live free true e = rw e (put_done live free)

    lent : is_live m t.region ≡ true → (b : Bool) → is_lent has.content ≡ b
        → Same w fs n (check (not (is_lent has.content)) (λ u. check (is_of shape v) (λ u. put_content t (Holds v) s)) m) k
    lent live true e = rw e (stuck_same w fs n k)
    lent live false e = rw e (of_type live (unlent_is m t shape has.content has.is e) (is_of shape v) refl)

    by : (b : Bool) → is_live m t.region ≡ b → Same w fs n (write_cells t (v ∷ []) s m) k
    by false live = rw live (stuck_same w fs n k)
    by true live = rw (live, has.is) (lent live (is_lent has.content) refl)

pub cell_writes : (w : World) (fs : Program) (n : ℕ) (shape : Shape) (m : source.Memory) (c : core.Memory) (t : Spot) (byte : ℕ) (v : Scalar)
    (xs : List Content) (s : Unit {0} → source.Memory → steps.Step) (k : core_steps.Step)
    → IsCell w shape → SameMemory w m c → Leads w m c shape t byte → Shown w m c shape v xs
    → (CellWritten w m c shape t byte v xs → Same w fs n (s tt (m_written m t shape v)) k)
    → Same w fs n (write_cells t (v ∷ []) s m) k
cell_writes w fs n shape m c t byte v xs s k one agree leads shown go =
    let here = cell_there w m c t byte shape one leads in
    let fit = one.fit m c v xs shown in
    cell_put w fs n shape m t v s k here.has
    (λ live free.
    go (record {
      old = here.contents;
      live = sym (agree.live t.region) ∙ live;
      parts = here.parts;
      fit = fit;
      agree = agree_values w m c t shape here.has.content v byte (pieces_of shape) here.contents xs xs agree here.has.is here.parts
          (all_hold c (at t) byte 0 (pieces_of shape) xs fit) shown;
      later = λ b. later_values b m c t shape here.has.content (Holds v) byte (pieces_of shape) here.contents xs here.has.is free here.parts;
    }))
