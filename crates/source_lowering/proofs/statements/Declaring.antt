-- A local is declared: the source makes it, and its value is put where Core has it.
use Rattle.std.proofs.Common.{◌≡◌, ℕ, zero, suc, ◌+◌, ◌≤◌, List, [], ◌∷◌, Bool, true, false, Option, Some, None, refl, sym, ap, ◌∙◌, subst, arith}
use Rattle.std.specs.Prelude.{map, slice_get}
use Rattle.std.proofs.lemmas.Bool.{eq-eqb}
use Rattle.std.proofs.lemmas.Option.{none-some}
use Rattle.source_meaning.specs.Shapes.{
  Shape,
  IntShape,
  UnsignedShape,
  CharShape,
  VoidShape,
  ThinShape,
  FatShape,
  HandleShape,
  KeyShape,
  StructShape,
  UnionShape,
  ArrayShape,
}
use Rattle.source_meaning.specs.Memory as source
use Rattle.source_meaning.specs.Memory.{
  Scalar,
  Spot,
  Holds,
  Cell,
  Object,
  object_of,
  is_live,
  with_object,
  blank_object,
}
use Rattle.source_meaning.specs.Steps as steps
use Rattle.source_meaning.specs.Steps.{World, Variable, Scope, Flow, Act, check}
use Rattle.source_meaning.specs.Conversions.{cells_of}
use Rattle.source_meaning.specs.Values.{write_cells, is_lent}
use Rattle.source_meaning.specs.Places.{with_binding}
use Rattle.source_meaning.specs.Regions.{local_with}
use Rattle.core_meaning.specs.Memory as core
use Rattle.core_meaning.specs.Memory.{Content, Part, with_part}
use Rattle.core_meaning.specs.Core.{Put, Statements}
use Rattle.core_meaning.specs.Steps as core_steps
use Rattle.core_meaning.specs.Steps.{Config, with_temp, with_memory}
use Rattle.core_meaning.specs.Operations.{does, fitting}
use Rattle.core_meaning.specs.Meaning as meaning
use Rattle.core_meaning.proofs.Wholes.{beyond_none}
use Rattle.source_lowering.specs.Lowered.{put, width_of, stores_code, stored_code}
use Rattle.source_lowering.specs.Members.{words_in}
use Rattle.source_lowering.specs.Programs.{named_here}
use Rattle.source_lowering.specs.Layouts.{piece, pieces_of, first_part}
use Rattle.source_lowering.specs.Simulation.{
  at,
  PartIs,
  AreMade,
  ArePending,
  Shown,
  IsShown,
  Grown,
  Point,
  SameState,
  activation,
  within,
  around,
  SameAt,
  Next,
  AreKept,
  AValue,
  contents_in,
  VariableLeads,
  kept_in,
}
use Rattle.source_lowering.proofs.memory.Keeping.{later_on, later_items, shown_later, all_led_later, statics_later, fits_later, m_written, kept_cases}
use Rattle.source_lowering.proofs.Runs.{stuck_same}
use Rattle.source_lowering.proofs.values.Integers.{IsTarget, IsValueShape, IsObject, value_object}
use Rattle.source_lowering.proofs.memory.ObjectShapes.{object_leads, leads_object, object_made}
use Rattle.source_lowering.proofs.memory.CellParts.{PartsAre, FitPieces, with_values}
use Rattle.source_lowering.proofs.memory.ValueCells.{CellWritten, cell_of, cell_writes}
use Rattle.source_lowering.proofs.values.Values.{put_temp, other_temp, kept_contents, over}
use Rattle.source_lowering.proofs.memory.Loading.{stores_does}
use Rattle.source_lowering.proofs.memory.Cells.{IsPlain}
use Rattle.source_lowering.proofs.expressions.Making.{local_spot, cell_spot, cell_with, cells_here, m_made, objects_here, grown_later, agree_made}
use Rattle.source_lowering.proofs.expressions.Making.{IsUnlentObject, cells_unlent}

-- ---- a local more

-- the place after a declaration
abbrev pub with_local : Point → List ℕ → Shape → List Shape → Point
with_local p name shape pending = record {
  world = p.world;
  program = p.program;
  locals = (record { name = name; entity = Variable shape (local_spot p.frame p.made) }) ∷ p.locals;
  names = named_here name shape p.made ∷ p.names;
  frame = p.frame;
  outer = p.outer;
  made = suc p.made;
  pending = pending;
  own = p.own;
  owned = p.owned;
  kept = p.kept;
  regions = p.regions;
}

-- the part of the local to come
pub part_to_come : (p : Point) (m : source.Memory) (c : Config) (shape : Shape) (shapes : List Shape) → IsObject p.world.unions p.world.structs shape
    → IsPlain p.world shape (width_of shape) → p.pending ≡ shape ∷ shapes → SameState p m c
    → PartIs c.memory (at (local_spot p.frame p.made)) 0 0 (width_of shape)
part_to_come p m c shape shapes object plain e fits =
    let all : ArePending p.world c.memory (core.Frame p.frame) p.made (shape ∷ shapes) =
    subst (λ z. ArePending p.world c.memory (core.Frame p.frame) p.made z) e fits.pending in
    let one : AreMade c.memory (at (local_spot p.frame p.made)) 0 (((record { offset = 0; width = width_of shape; first = first_part shape }) ∷ []) ∷ []) =
    subst (λ z. AreMade c.memory (at (local_spot p.frame p.made)) 0 z) plain.layout
    (object_made p.world.unions p.world.structs p.world c.memory (core.Frame p.frame) p.made shape object all.0) in
    one.0.0

-- the object of a local, with contents by the shapes of its cells
abbrev pub object_with : World → (Shape → source.Content) → Shape → Object
object_with w g shape = object_of (map (cell_with g) (cells_of w shape))

-- where it has an object that Core's parts show
pub object_fits : (p : Point) (m : source.Memory) (c : Config) (name : List ℕ) (shape : Shape) (shapes : List Shape) (o : Object)
    → p.pending ≡ shape ∷ shapes → SameState p m c → VariableLeads p.world (m_made m p.frame o) c.memory shape (local_spot p.frame p.made)
    → IsUnlentObject o
    → ((cell : ℕ) (of : Shape) (v : Scalar) → o cell ≡ Some (record { shape = of; content = Holds v })
    → IsShown p.world m c.memory (cell_spot p.frame p.made cell) of v)
    → SameState (with_local p name shape shapes) (m_made m p.frame o) c
object_fits p m c name shape shapes o e fits leads free shown =
    let later = grown_later (around p p.frame) m c.memory p.frame o (omega arith) fits.agree.unmade in
    let all : ArePending p.world c.memory (core.Frame p.frame) p.made (shape ∷ shapes) =
    subst (λ z. ArePending p.world c.memory (core.Frame p.frame) p.made z) e fits.pending in
    record {
      agree = agree_made p.world m c.memory p.frame p.made o fits.agree fits.made fits.begun free shown;
      blocks = fits.blocks;
      locals = (leads, all_led_later (around p p.frame) p.world m (m_made m p.frame o) c.memory c.memory p.locals later fits.locals);
      statics = statics_later (around p p.frame) p.world m (m_made m p.frame o) c.memory c.memory later fits.statics;
      begun = fits.begun;
      made = objects_here m p.frame o ∙ ap (λ z. z + 1) fits.made ∙ omega arith;
      pending = all.1;
      own = fits.own;
      called = fits.called;
      stands = fits.stands;
      owned = fits.owned;
    }

pub local_fits : (p : Point) (m : source.Memory) (c : Config) (name : List ℕ) (shape : Shape) (shapes : List Shape) (g : Shape → source.Content)
    → IsObject p.world.unions p.world.structs shape → p.pending ≡ shape ∷ shapes → SameState p m c → ((s : Shape) → is_lent (g s) ≡ false)
    → ((cell : ℕ) (of : Shape) (v : Scalar) → object_with p.world g shape cell ≡ Some (record { shape = of; content = Holds v })
    → IsShown p.world m c.memory (cell_spot p.frame p.made cell) of v)
    → SameState (with_local p name shape shapes) (m_made m p.frame (object_with p.world g shape)) c
local_fits p m c name shape shapes g object e fits free shown =
    let o : Object = object_with p.world g shape in
    let all : ArePending p.world c.memory (core.Frame p.frame) p.made (shape ∷ shapes) =
    subst (λ z. ArePending p.world c.memory (core.Frame p.frame) p.made z) e fits.pending in
    object_fits p m c name shape shapes o e fits
    (leads_object p.world.unions p.world.structs p.world (m_made m p.frame o) c.memory shape (local_spot p.frame p.made) object (
      cells_here m p.frame p.made g (cells_of p.world shape) fits.made,
      object_made p.world.unions p.world.structs p.world c.memory (core.Frame p.frame) p.made shape object all.0,
    )) (cells_unlent g free (cells_of p.world shape)) shown

-- what comes after a declaration: the temporaries below one stay
pub record GoesOnIn (p q : Point) (n d : ℕ) (m0 : source.Memory) (c0 : Config) (s : source.Memory → steps.Step) (k : Config → core_steps.Step) : Type 0 where
  pub above : p.regions.all ≤ d
  pub go : (m : source.Memory) (c : Config) → SameState q m c → Grown (around p p.frame) m0 c0.memory m c.memory → AreKept d c0 c
      → activation c ≡ activation c0
      → SameAt p n (s m) (k c)

abbrev pub part_with : ℕ → Content → Part
part_with width x = record { offset = 0; width = width; content = x }

pub put_here : (c : Config) (d index width frame : ℕ) (outer : List ℕ) (old : Content) (next : Config → core_steps.Step) → c.blocks ≡ frame ∷ outer
    → core.is_live (c.memory.standing (core.Frame frame)) ≡ true → c.memory.parts (at (local_spot frame index)) 0 ≡ Some (part_with width old)
    → does (Put 0 index width d) next c ≡ next (with_memory (with_part c.memory (at (local_spot frame index)) 0 (part_with width (fitting width (c.temps d))))
    c)
put_here c d index width frame outer old next block live part = rw (block, live, part, eq-eqb width width refl) refl

-- a blank object holds nothing
pub blank_holds : (xs : List Shape) (cell : ℕ) (of : Shape) (v : Scalar)
    → slice_get (map (cell_with (λ s. source.Blank)) xs) cell ≡ Some (record { shape = of; content = Holds v }) → ⊥
blank_holds [] cell of v e = none-some _ e
blank_holds (x ∷ xs) zero of v e = no_value x of v e
  where
    content_in : Option Cell → source.Content
    content_in None = source.Blank
    content_in (Some c) = c.content

    apart : (u : Scalar) → source.Blank ≡ Holds u → ⊥
    apart u f = cc f

    no_value : (s z : Shape) (u : Scalar) → Some (cell_with (λ s. source.Blank) s) ≡ Some (record { shape = z; content = Holds u }) → ⊥
    no_value s z u f = apart u (ap content_in f)
blank_holds (x ∷ xs) (suc cell) of v e = blank_holds xs cell of v e

-- nor does it keep anything
pub blank_keeps : (xs : List Shape) (cell : ℕ) (of : Shape) (x : source.Content) (v : Scalar) → kept_in x ≡ Some v
    → slice_get (map (cell_with (λ s. source.Blank)) xs) cell ≡ Some (record { shape = of; content = x }) → ⊥
blank_keeps xs cell of x v keeps =
    kept_cases (λ y u. slice_get (map (cell_with (λ s. source.Blank)) xs) cell ≡ Some (record { shape = of; content = y }) → ⊥)
    (λ u e. blank_holds xs cell of u e) (λ u e. (cells_unlent (λ s. source.Blank) (λ s. refl) xs).none cell of u e) x v keeps

-- what Core has before a value's parts are those of a local
record BeforeStore (address : ℕ) (c : Config) (memory : core.Memory) (step : core_steps.Step) (next : Config → core_steps.Step) : Type 0 where
  config : Config
  temps : AreKept address c config
  frames : activation config ≡ activation c
  done : step ≡ next (with_memory memory config)

word_put : (s : Shape) (first : Content) (c : Config) (address d index frame : ℕ) (outer : List ℕ) (olds : List Content) (next : Config → core_steps.Step)
    → c.blocks ≡ frame ∷ outer → core.is_live (c.memory.standing (core.Frame frame)) ≡ true
    → PartsAre c.memory (at (local_spot frame index)) 0 0 (piece 0 (width_of s) first ∷ []) olds → fitting (width_of s) (c.temps d) ≡ c.temps d
    → BeforeStore address c (with_values c.memory (at (local_spot frame index)) 0 (piece 0 (width_of s) first ∷ []) (c.temps d ∷ []))
    (does (Put 0 index (width_of s) d) next c) next
word_put s first c address d index frame outer [] next block live parts fits = absurd parts
word_put s first c address d index frame outer (old ∷ []) next block live parts fits = record {
  config = c;
  temps = λ k less. refl;
  frames = refl;
  done = put_here c d index (width_of s) frame outer old next block live parts.0 ∙
      ap (λ z. next (with_memory (with_part c.memory (at (local_spot frame index)) 0 (part_with (width_of s) z)) c)) fits;
}
word_put s first c address d index frame outer (x ∷ y ∷ ys) next block live parts fits = absurd parts.1

fat_put : (to : Shape) → IsTarget to → (c : Config) (address d index frame : ℕ) (outer : List ℕ) (olds : List Content) (rest : Statements) (next : Next)
    → d + 3 ≤ address → c.blocks ≡ frame ∷ outer → core.is_live (c.memory.standing (core.Frame frame)) ≡ true
    → PartsAre c.memory (at (local_spot frame index)) 0 0 (pieces_of (FatShape to)) olds
    → FitPieces (pieces_of (FatShape to)) (contents_in d (FatShape to) c.temps)
    → BeforeStore address c (with_values c.memory (at (local_spot frame index)) 0 (pieces_of (FatShape to)) (contents_in d (FatShape to) c.temps))
    (meaning.statements (put (stored_code (FatShape to) address d 0 index) rest) next c) (meaning.statements rest next)
fat_put to target c address d index frame outer olds rest next below block live parts fit = record {
  config = here;
  temps = λ k less. other_temp address k (core.Pointer (at spot) 0) c less;
  frames = refl;
  done = addressed ∙
      stores_does (FatShape to) target here address d 0 0 0 (at spot) olds rest next (put_temp address (core.Pointer (at spot) 0) c) live
      (subst (λ z. PartsAre c.memory z 0 0 (pieces_of (FatShape to)) olds) (sym same) parts)
      (subst (λ z. FitPieces (pieces_of (FatShape to)) z) (sym words) fit) ∙
      ap (λ z. meaning.statements rest next (with_memory (with_values c.memory z 0 (pieces_of (FatShape to)) (contents_in d (FatShape to) here.temps)) here))
      same ∙
      ap (λ z. meaning.statements rest next (with_memory (with_values c.memory (at spot) 0 (pieces_of (FatShape to)) z) here)) words;
}
  where
    spot : Spot
    spot = local_spot frame index

    here : Config
    here = with_temp address (core.Pointer (at spot) 0) c

    same : core.beyond (at spot) 0 ≡ at spot
    same = beyond_none (at spot)

    words : contents_in d (FatShape to) here.temps ≡ contents_in d (FatShape to) c.temps
    words = kept_contents (FatShape to) d c here (λ k less. other_temp address k (core.Pointer (at spot) 0) c (omega (arith, less, below)))

    addressed : meaning.statements (put (stored_code (FatShape to) address d 0 index) rest) next c
        ≡ meaning.statements (put (stores_code (FatShape to) address d 0 0) rest) next here
    addressed = rw block refl

local_put : (s : Shape) → IsValueShape s → (c : Config) (address d index frame : ℕ) (outer : List ℕ) (olds : List Content) (rest : Statements) (next : Next)
    → d + words_in s ≤ address → c.blocks ≡ frame ∷ outer → core.is_live (c.memory.standing (core.Frame frame)) ≡ true
    → PartsAre c.memory (at (local_spot frame index)) 0 0 (pieces_of s) olds → FitPieces (pieces_of s) (contents_in d s c.temps)
    → BeforeStore address c (with_values c.memory (at (local_spot frame index)) 0 (pieces_of s) (contents_in d s c.temps))
    (meaning.statements (put (stored_code s address d 0 index) rest) next c) (meaning.statements rest next)
local_put IntShape h c address d index frame outer olds rest next below block live parts fit =
    word_put IntShape (first_part IntShape) c address d index frame outer olds (meaning.statements rest next) block live parts fit.0
local_put UnsignedShape h c address d index frame outer olds rest next below block live parts fit =
    word_put UnsignedShape (first_part UnsignedShape) c address d index frame outer olds (meaning.statements rest next) block live parts fit.0
local_put CharShape h c address d index frame outer olds rest next below block live parts fit =
    word_put CharShape (first_part CharShape) c address d index frame outer olds (meaning.statements rest next) block live parts fit.0
local_put VoidShape h c address d index frame outer olds rest next below block live parts fit = absurd h
local_put (ThinShape b owner to) h c address d index frame outer olds rest next below block live parts fit =
    word_put (ThinShape b owner to) (first_part (ThinShape b owner to)) c address d index frame outer olds (meaning.statements rest next) block live parts fit.0
local_put (FatShape to) h c address d index frame outer olds rest next below block live parts fit =
    fat_put to h c address d index frame outer olds rest next below block live parts fit
local_put HandleShape h c address d index frame outer olds rest next below block live parts fit =
    word_put HandleShape (first_part HandleShape) c address d index frame outer olds (meaning.statements rest next) block live parts fit.0
local_put KeyShape h c address d index frame outer olds rest next below block live parts fit =
    word_put KeyShape (first_part KeyShape) c address d index frame outer olds (meaning.statements rest next) block live parts fit.0
local_put (StructShape tag) h c address d index frame outer olds rest next below block live parts fit = absurd h
local_put (UnionShape tag) h c address d index frame outer olds rest next below block live parts fit = absurd h
local_put (ArrayShape count of) h c address d index frame outer olds rest next below block live parts fit = absurd h

-- a local with a value that is in temporaries; where its address is needed, it comes behind them
pub local_with_same : (p : Point) (n address d : ℕ) (scope : Scope) (name : List ℕ) (shape : Shape) (shapes : List Shape) (vs : List Scalar)
    (then_act : Scope → Act Flow) (next : Flow → source.Memory → steps.Step) (m : source.Memory) (c : Config) (rest : Statements) (after : Next)
    → scope.world ≡ p.world → scope.frame ≡ p.frame → IsValueShape shape → d + words_in shape ≤ address → p.pending ≡ shape ∷ shapes → SameState p m c
    → AValue p.world m c.memory shape vs (contents_in d shape c.temps)
    → GoesOnIn p (with_local p name shape shapes) n address m c
    (λ m'. then_act (with_binding scope name (Variable shape (local_spot p.frame p.made))) next m') (meaning.statements rest after)
    → SameAt p n (local_with scope name shape vs then_act next m) (meaning.statements (put (stored_code shape address d 0 p.made) rest) after c)
local_with_same p n address d scope name shape shapes vs then_act next m c rest after world frame is_value below pending fits v goes =
    subst (λ z. SameAt p n (begun z scope.frame (next_of scope.frame)) code) (sym world)
    (subst (λ z. SameAt p n (begun p.world z (next_of z)) code) (sym frame)
    (by (is_live m (source.Frame p.frame)) refl))
  where
    code : core_steps.Step
    code = meaning.statements (put (stored_code shape address d 0 p.made) rest) after c

    xs : List Content
    xs = contents_in d shape c.temps

    next_of : ℕ → Spot
    next_of f = record { region = source.Frame f; object = m.objects (source.Frame f); cell = 0 }

    -- the object is made, and the value is written to its cells
    written : World → ℕ → Spot → steps.Step
    written w f spot = write_cells spot vs (λ u. then_act (with_binding scope name (Variable shape spot)) next)
        (with_object m (source.Frame f) (blank_object (cells_of w shape)))

    begun : World → ℕ → Spot → steps.Step
    begun w f spot = check (is_live m (source.Frame f)) (λ u m'. written w f spot) m

    object : IsObject p.world.unions p.world.structs shape
    object = value_object p.world.unions p.world.structs shape is_value

    q : Point
    q = with_local p name shape shapes

    spot : Spot
    spot = local_spot p.frame p.made

    m1 : source.Memory
    m1 = m_made m p.frame (object_with p.world (λ s. source.Blank) shape)

    fits1 : SameState q m1 c
    fits1 = local_fits p m c name shape shapes (λ s. source.Blank) object pending fits (λ s. refl)
        (λ cell of u e. absurd (blank_holds (cells_of p.world shape) cell of u e))

    later1 : Grown (around p p.frame) m c.memory m1 c.memory
    later1 = grown_later (around p p.frame) m c.memory p.frame (object_with p.world (λ s. source.Blank) shape) (omega arith) fits.agree.unmade

    shown1 : Shown p.world m1 c.memory shape v.value xs
    shown1 = shown_later (around p p.frame) p.world m m1 c.memory c.memory shape v.value xs later1 v.shown

    stored : CellWritten p.world m1 c.memory shape spot 0 v.value xs
        → SameAt p n (then_act (with_binding scope name (Variable shape spot)) next (m_written m1 spot shape v.value)) code
    stored o =
        let memory : core.Memory = with_values c.memory (at spot) 0 (pieces_of shape) xs in
        let before = local_put shape is_value c address d p.made p.frame p.outer o.old rest after below fits.blocks o.live o.parts o.fit in
        let c' : Config = with_memory memory before.config in
        let m2 : source.Memory = m_written m1 spot shape v.value in
        let more = o.later (within p) in
        subst (λ z. SameAt p n (then_act (with_binding scope name (Variable shape spot)) next m2) z) (sym before.done)
        (goes.go m2 c' (fits_later q m1 m2 c c' fits1 o.agree more before.frames
        (λ k less. before.temps k (over less goes.above)))
        (later_on (around p p.frame) m m1 m2 c.memory c.memory c'.memory later1 (later_items p m1 m2 c c' more))
        before.temps before.frames)

    writes : SameAt p n (write_cells spot vs (λ u. then_act (with_binding scope name (Variable shape spot)) next) m1) code
    writes =
        subst (λ z. SameAt p n (write_cells spot z (λ u. then_act (with_binding scope name (Variable shape spot)) next) m1) code) (sym v.alone)
        (cell_writes p.world p.program n shape m1 c.memory spot 0 v.value xs (λ u. then_act
        (with_binding scope name (Variable shape spot)) next) code (cell_of p.world shape is_value) fits1.agree
        (object_leads p.world.unions p.world.structs p.world m1 c.memory shape spot object fits1.locals.0) shown1 stored)

    by : (b : Bool) → is_live m (source.Frame p.frame) ≡ b → SameAt p n (begun p.world p.frame (next_of p.frame)) code
    by false e = rw e (stuck_same p.world p.program n code)
    by true e =
        rw e
        (subst (λ z. SameAt p n (write_cells (record { region = source.Frame p.frame; object = z; cell = 0 }) vs
        (λ u. then_act (with_binding scope name (Variable shape (record { region = source.Frame p.frame; object = z; cell = 0 }))) next)
        (with_object m (source.Frame p.frame) (blank_object (cells_of p.world shape)))) code) (sym fits.made) writes)
