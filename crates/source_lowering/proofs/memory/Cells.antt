-- A variable's one cell is read and written, in the source and in Core.
use Rattle.std.proofs.Common.{
  ◌≡◌,
  ⊎_elim,
  ℕ,
  ◌+◌,
  ◌%◌,
  ◌<◌,
  List,
  [],
  ◌∷◌,
  length,
  Bool,
  true,
  false,
  not,
  Option,
  Some,
  None,
  refl,
  sym,
  ap,
  ◌∙◌,
  subst,
  arith,
}
use Rattle.source_meaning.specs.Shapes.{count_of}
use Rattle.source_meaning.specs.Shapes.{
  Shape,
  IntShape,
  UnsignedShape,
  CharShape,
  VoidShape,
  ThinShape,
  FatShape,
  HandleShape,
  KeyShape,
  StructShape,
  UnionShape,
  ArrayShape,
}
use Rattle.source_meaning.specs.Memory as source
use Rattle.source_meaning.specs.Memory.{Scalar, Spot, Holds, is_live, is_of}
use Rattle.source_meaning.specs.Steps as steps
use Rattle.source_meaning.specs.Steps.{World, check}
use Rattle.source_meaning.specs.Conversions.{cells_of}
use Rattle.source_meaning.specs.Values.{read_cells, value_held, write_cells, put_content, is_lent}
use Rattle.core_meaning.specs.Memory as core
use Rattle.core_meaning.specs.Memory.{Content, Word, Null, Pointer, Birth, Part, with_part}
use Rattle.core_meaning.specs.Core.{Program}
use Rattle.core_meaning.specs.Steps as core_steps
use Rattle.core_meaning.specs.Operations.{fitting}
use Rattle.source_lowering.specs.Layouts.{layout_of, local_of, first_part}
use Rattle.source_lowering.specs.Lowered.{width_of}
use Rattle.source_lowering.specs.Simulation.{
  region_at,
  at,
  HasShape,
  PartIs,
  AreCells,
  AreMade,
  Leads,
  ANull,
  APointer,
  Shown,
  PartsHold,
  SameMemory,
  Grown,
  Same,
  Bound,
  first_in,
}
use Rattle.source_lowering.proofs.memory.Keeping.{later_written, agree_written, m_written, IsUnlent, unlent_is}
use Rattle.source_lowering.proofs.Runs.{stuck_same}
use Rattle.source_lowering.proofs.values.Integers.{IsWordShape, IsObject}

-- ---- shapes of one word

-- a value of one word fits its part
pub record OneWord (width : ℕ) (cs : List Content) : Type 0 where
  pub word : Content
  pub is : cs ≡ word ∷ []
  pub fits : fitting width word ≡ word

pub record IsPlain (w : World) (shape : Shape) (width : ℕ) : Type 0 where
  pub cells : cells_of w shape ≡ shape ∷ []
  pub layout : (layout_of w shape).cells ≡ ((record { offset = 0; width = width; first = first_part shape }) ∷ []) ∷ []
  pub one : (m : source.Memory) (c : core.Memory) (v : Scalar) (cs : List Content) → Shown w m c shape v cs → OneWord width cs

low : (x : ℕ) → x < 256 → x % 256 ≡ x
low x h = omega (arith, h)

pub plain_of : (w : World) (s : Shape) → IsWordShape s → IsPlain w s (width_of s)
plain_of w IntShape h = record {
  cells = refl;
  layout = refl;
  one = λ m c v cs o. record { word = Word o.word; is = o.shown; fits = refl };
}
plain_of w UnsignedShape h = record {
  cells = refl;
  layout = refl;
  one = λ m c v cs o. record {
    word = Word o.word;
    is = o.shown;
    fits = refl;
  };
}
plain_of w CharShape h = record {
  cells = refl;
  layout = refl;
  one = λ m c v cs o. record {
    word = Word o.word;
    is = o.shown;
    fits = ap
        (λ n. Word n) (low o.word o.small);
  };
}
plain_of w VoidShape h = absurd h
plain_of w (ThinShape bound owner to) h =
    record {
      cells = refl;
      layout = refl;
      one = λ m c v cs o.
          ⊎_elim (λ (z : ANull bound v cs). record { word = Null; is = z.shown; fits = refl })
          (λ (z : APointer w m c (count_of bound) owner to v cs). record { word = Pointer (at z.spot) z.byte; is = z.shown; fits = refl }) o;
    }
plain_of w (FatShape to) h = absurd h
plain_of w HandleShape h = record {
  cells = refl;
  layout = refl;
  one = λ m c v cs o. record { word = Birth o.birth; is = o.shown; fits = refl };
}
plain_of w KeyShape h = record {
  cells = refl;
  layout = refl;
  one = λ m c v cs o. record { word = Birth o.birth; is = o.shown; fits = refl };
}
plain_of w (StructShape tag) h = absurd h
plain_of w (UnionShape tag) h = absurd h
plain_of w (ArrayShape count of) h = absurd h

-- an object is a local of one element
pub object_local : (w : World) (shape : Shape) → IsObject w.unions w.structs shape → local_of w shape ≡ record { layout = layout_of w shape; count = 1 }
object_local w (StructShape tag) h = refl
object_local w IntShape h = refl
object_local w UnsignedShape h = refl
object_local w CharShape h = refl
object_local w VoidShape h = absurd h
object_local w (ThinShape may_be_null owner to) h = refl
object_local w (FatShape to) h = refl
object_local w HandleShape h = refl
object_local w KeyShape h = refl
object_local w (UnionShape tag) h = refl
object_local w (ArrayShape count of) h = absurd h

-- the one cell of a plain place, and its one part
pub record OneCell (m : source.Memory) (c : core.Memory) (s : Spot) (byte : ℕ) (shape : Shape) (width : ℕ) : Type 0 where
  pub has : HasShape m s shape
  pub content : Content
  pub is : c.parts (at s) 0 ≡ Some (record { offset = byte; width = width; content = content })

part_here : (m : source.Memory) (c : core.Memory) (s : Spot) (byte : ℕ) (shape : Shape) (width : ℕ) → HasShape m s shape → PartIs c (at s) 0 (byte + 0) width
    → OneCell m c s byte shape width
part_here m c s byte shape width has one =
    let same : byte + 0 ≡ byte = omega arith in
    record { has = has; content = one.content; is = one.is ∙ ap (λ o. Some (record { offset = o; width = width; content = one.content })) same }

pub plain_cell : (w : World) (m : source.Memory) (c : core.Memory) (s : Spot) (byte : ℕ) (shape : Shape) (width : ℕ) → IsPlain w shape width
    → Leads w m c shape s byte → OneCell m c s byte shape width
plain_cell w m c s byte shape width plain leads =
    let cells : AreCells m s (shape ∷ []) = subst (λ z. AreCells m s z) plain.cells leads.0 in
    let made : AreMade c (at s) byte (((record { offset = 0; width = width; first = first_part shape }) ∷ []) ∷ []) =
    subst (λ z. AreMade c (at s) byte z) plain.layout leads.1 in
    part_here m c s byte shape width cells.0 made.0.0

-- ---- a cell is read: where the source isn't stuck, its part has what stands for its value

abbrev part_of : ℕ → ℕ → Content → Part
part_of byte width x = record { offset = byte; width = width; content = x }

-- what is known of a cell that was read
pub record IsRead (w : World) (m : source.Memory) (c : core.Memory) (shape : Shape) (s : Spot) (byte width : ℕ) (v : Scalar) : Type 0 where
  pub content : Content
  pub holds : m.cells s ≡ Some (record { shape = shape; content = Holds v })
  pub live : core.is_live (c.standing (region_at s.region)) ≡ true
  pub part : c.parts (at s) 0 ≡ Some (part_of byte width content)
  pub shown : Shown w m c shape v (content ∷ [])

pub read_same : (w : World) (fs : Program) (n : ℕ) (shape : Shape) (width : ℕ) (m : source.Memory) (c : core.Memory) (t : Spot) (byte : ℕ)
    (s : List Scalar → source.Memory → steps.Step) (k : core_steps.Step)
    → IsPlain w shape width → SameMemory w m c → Leads w m c shape t byte → ((v : Scalar) → IsRead w m c shape t byte width v → Same w fs n (s (v ∷ []) m) k)
    → Same w fs n (read_cells (length (cells_of w shape)) t s m) k
read_same w fs n shape width m c t byte s k plain agree leads go =
    let here = plain_cell w m c t byte shape width plain leads in
    subst (λ z. Same w fs n (read_cells (length z) t s m) k) (sym plain.cells) (by here (is_live m t.region) refl)
  where
    content_in : Content → Option Part → Content
    content_in y None = y
    content_in y (Some q) = q.content

    held : OneCell m c t byte shape width → is_live m t.region ≡ true → (x : source.Content) → m.cells t ≡ Some (record { shape = shape; content = x })
        → Same w fs n (value_held x (λ v. s (v ∷ [])) m) k
    held here live source.Blank is = stuck_same w fs n k
    held here live source.Gone is = stuck_same w fs n k
    held here live (source.Lent x) is = stuck_same w fs n k
    held here live (Holds v) is =
        let shown = agree.cells t shape (Holds v) v refl is in
        let word = plain.one m c v shown.contents shown.shown in
        let hold : PartsHold c (at t) 0 (word.word ∷ []) = subst (λ xs. PartsHold c (at t) 0 xs) word.is shown.held in
        let both : Some (part_of byte width here.content) ≡ Some hold.0.0 = sym here.is ∙ hold.0.1.0 in
        let x : Content = here.content in
        let same : x ≡ word.word = ap (content_in x) both ∙ hold.0.1.1 in
        go v (record {
          content = x;
          holds = is;
          live = sym (agree.live t.region) ∙ live;
          part = here.is;
          shown = subst (λ z. Shown w m c shape v (z ∷ [])) (sym same) (subst (λ z. Shown w m c shape v z) word.is shown.shown);
        })

    by : OneCell m c t byte shape width → (b : Bool) → is_live m t.region ≡ b → Same w fs n (read_cells 1 t s m) k
    by here false e = rw e (stuck_same w fs n k)
    by here true e = rw (e, here.has.is) (held here e here.has.content here.has.is)

-- ---- a cell is written

-- what is known of a cell that was written
pub record IsWritten (w : World) (m : source.Memory) (c : core.Memory) (shape : Shape) (s : Spot) (byte width : ℕ) (v : Scalar) (x : Content) : Type 0 where
  pub old : Content
  pub live : core.is_live (c.standing (region_at s.region)) ≡ true
  pub part : c.parts (at s) 0 ≡ Some (part_of byte width old)
  pub fits : fitting width x ≡ x
  pub agree : SameMemory w (m_written m s shape v) (with_part c (at s) 0 (part_of byte width x))
  pub later : (b : Bound) → Grown b m c (m_written m s shape v) (with_part c (at s) 0 (part_of byte width x))

pub write_same : (w : World) (fs : Program) (n : ℕ) (shape : Shape) (width : ℕ) (m : source.Memory) (c : core.Memory) (t : Spot) (byte : ℕ) (v : Scalar)
    (x : Content) (s : Unit {0} → source.Memory → steps.Step) (k : core_steps.Step)
    → IsPlain w shape width → SameMemory w m c → Leads w m c shape t byte → Shown w m c shape v (x ∷ [])
    → (IsWritten w m c shape t byte width v x → Same w fs n (s tt (m_written m t shape v)) k)
    → Same w fs n (write_cells t (v ∷ []) s m) k
write_same w fs n shape width m c t byte v x s k plain agree leads shown go = by (plain_cell w m c t byte shape width plain leads) (is_live m t.region) refl
  where
    stored : OneCell m c t byte shape width → is_live m t.region ≡ true → IsUnlent m t
        → Same w fs n (s tt (m_written m t shape v)) k
    stored here live free =
        let word = plain.one m c v (x ∷ []) shown in
        let same : x ≡ word.word = ap (first_in x) word.is in
        go (record {
          old = here.content;
          live = sym (agree.live t.region) ∙ live;
          part = here.is;
          fits = ap (fitting width) same ∙ word.fits ∙ sym same;
          agree = agree_written w m c t shape here.has.content v (part_of byte width here.content) x agree here.has.is free here.is shown;
          later = λ b. later_written b m c t shape here.has.content (Holds v) (part_of byte width here.content) x here.has.is free here.is;
        })

    put_done : OneCell m c t byte shape width → is_live m t.region ≡ true → IsUnlent m t
        → Same w fs n (put_content t (Holds v) s m) k
    put_done here live free = rw (live, here.has.is) (stored here live free)

    of_type : OneCell m c t byte shape width → is_live m t.region ≡ true → IsUnlent m t → (b : Bool) → is_of shape v ≡ b
        → Same w fs n (check (is_of shape v) (λ u. put_content t (Holds v) s) m) k
    of_type here live free false e = rw e (stuck_same w fs n k)
    of_type here live free true e = rw e (put_done here live free)

    lent : (here : OneCell m c t byte shape width) → is_live m t.region ≡ true → (b : Bool) → is_lent here.has.content ≡ b
        → Same w fs n (check (not (is_lent here.has.content)) (λ u. check (is_of shape v) (λ u. put_content t (Holds v) s)) m) k
    lent here live true e = rw e (stuck_same w fs n k)
    lent here live false e = rw e (of_type here live (unlent_is m t shape here.has.content here.has.is e) (is_of shape v) refl)

    by : OneCell m c t byte shape width → (b : Bool) → is_live m t.region ≡ b → Same w fs n (write_cells t (v ∷ []) s m) k
    by here false live = rw live (stuck_same w fs n k)
    by here true live = rw (live, here.has.is) (lent here live (is_lent here.has.content) refl)
