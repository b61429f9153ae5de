-- What a local without an initializer begins with: the source makes it so, and Core's code stores it.
use Rattle.std.proofs.Common.{◌≡◌, ℕ, zero, suc, ◌+◌, ◌≤◌, List, [], ◌∷◌, Bool, true, false, Some, None, refl, sym, ap, ◌∙◌, subst, arith, eq-eqb}
use Rattle.std.proofs.Common.{◌++◌}
use Rattle.std.specs.Prelude.{map, slice_get}
use Rattle.source_meaning.specs.Shapes.{MayBeNull, NeverNull}
use Rattle.source_meaning.specs.Shapes.{
  Shape,
  IntShape,
  UnsignedShape,
  CharShape,
  VoidShape,
  ThinShape,
  FatShape,
  HandleShape,
  KeyShape,
  StructShape,
  UnionShape,
  ArrayShape,
}
use Rattle.source_meaning.specs.Memory as source
use Rattle.source_meaning.specs.Memory.{Spot, is_live, with_object, Object}
use Rattle.source_meaning.specs.Steps as steps
use Rattle.source_meaning.specs.Steps.{World, Variable, Scope, Flow, Act, check}
use Rattle.source_meaning.specs.Conversions.{cells_of}
use Rattle.source_meaning.specs.Places.{with_binding}
use Rattle.source_meaning.specs.Regions.{declared}
use Rattle.source_meaning.specs.Statements.{first_object}
use Rattle.core_meaning.specs.Memory as core
use Rattle.core_meaning.specs.Memory.{Content, Word, Null, Pointer, Part, PartShape, Layout, with_part}
use Rattle.core_meaning.specs.Core.{Do, Put, LocalAddress, Clear, Statements, MoreStatements}
use Rattle.core_meaning.specs.Steps as core_steps
use Rattle.core_meaning.specs.Steps.{Config, with_temp, with_memory}
use Rattle.core_meaning.specs.Operations.{does, fitting, are_elements, cleared}
use Rattle.core_meaning.specs.Meaning as meaning
use Rattle.source_lowering.specs.Lowered.{width_of, put}
use Rattle.source_lowering.specs.Layouts.{first_part, layout_of, cell_pieces, part_shape_of}
use Rattle.source_lowering.specs.Programs.{first_code, unset_code}
use Rattle.source_lowering.specs.Taken.{HasFirst}
use Rattle.source_lowering.specs.Lowerable.{IsObject, AreStructs, HasBeginning}
use Rattle.source_lowering.specs.Simulation.{at, AreMade, PartIs, PartsHold, ArePending, SameMemory, Grown, Point, SameState, SameAt, Next, AreKept, around}
use Rattle.source_lowering.specs.Simulation.{Bound}
use Rattle.source_lowering.specs.Simulation.{activation, within, AreShaped}
use Rattle.core_meaning.proofs.Spots.{spot_self}
use Rattle.source_lowering.proofs.memory.Keeping.{later_on, fits_later, named_free}
use Rattle.source_lowering.proofs.Runs.{stuck_same}
use Rattle.source_lowering.proofs.values.Integers.{IsWordShape, word_value, value_object}
use Rattle.source_lowering.proofs.memory.Cells.{IsPlain, plain_of}
use Rattle.source_lowering.proofs.expressions.Making.{local_spot, cell_spot, m_made, grown_later, ahead_later, agree_ahead}
use Rattle.source_lowering.proofs.values.Values.{kept_temp, put_temp}
use Rattle.source_lowering.proofs.memory.StructCells.{AreCellShapes, value_cell, object_cells}
use Rattle.source_lowering.proofs.memory.Clearing.{element_there, cleared_later, agree_cleared, layout_first, made_at, placed_at, cleared_holds}
use Rattle.source_lowering.proofs.memory.CellParts.{firsts_of}
use Rattle.source_lowering.proofs.memory.Members.{word_pieces, cells_pieces}
use Rattle.source_lowering.proofs.memory.ObjectShapes.{object_made}
use Rattle.source_lowering.proofs.statements.Declaring.{with_local, part_to_come, local_fits, part_with, put_here}
use Rattle.source_lowering.proofs.memory.FirstCells.{first_shown, first_cell_is, first_free}

-- ---- what a local begins with

record IsFirst (shape : Shape) : Type 0 where
  content : Content
  fits : fitting (width_of shape) content ≡ content
  does : (d : ℕ) (next : Config → core_steps.Step) (c : Config) → does (first_code shape d) next c ≡ next (with_temp d content c)
  part : first_part shape ≡ content

first_of : (shape : Shape) → IsWordShape shape → HasFirst shape → IsFirst shape
first_of IntShape word h = record { content = Word 0; fits = refl; does = λ d next c. refl; part = refl }
first_of UnsignedShape word h = record { content = Word 0; fits = refl; does = λ d next c. refl; part = refl }
first_of CharShape word h = record { content = Word 0; fits = refl; does = λ d next c. refl; part = refl }
first_of (ThinShape (MayBeNull count) owner to) word h = record { content = Null; fits = refl; does = λ d next c. refl; part = refl }
first_of (ThinShape (NeverNull count) owner to) word h = absurd h
first_of VoidShape word h = absurd h
first_of (FatShape to) word h = absurd word
first_of HandleShape word h = absurd h
first_of KeyShape word h = absurd h
first_of (StructShape tag) word h = absurd h
first_of (UnionShape tag) word h = absurd h
first_of (ArrayShape count of) word h = absurd h

-- ---- a local without an initializer

-- where Core's parts begin so, the source makes the object
begins_fits : (p : Point) (m : source.Memory) (c : Config) (name : List ℕ) (shape : Shape) (shapes : List Shape)
    → AreCellShapes p.world.unions (cells_of p.world shape)
    → IsObject p.world.unions p.world.structs shape → p.pending ≡ shape ∷ shapes → SameState p m c
    → ((cell : ℕ) (of : Shape) → slice_get (cells_of p.world shape) cell ≡ Some of
    → PartsHold c.memory (at (cell_spot p.frame p.made cell)) 0 (firsts_of (cell_pieces p.world.unions of)))
    → SameState (with_local p name shape shapes) (m_made m p.frame (first_object p.world shape)) c
begins_fits p m c name shape shapes values object pending fits held =
    local_fits p m c name shape shapes source.first_content object pending fits first_free
    (λ cell of v e.
    let o = first_cell_is p.world.unions (cells_of p.world shape) cell of v values e in
    record { contents = firsts_of (cell_pieces p.world.unions of); shown = first_shown p.world m c.memory of v o.is_value o.holds; held = held cell of o.here })

-- where Core's code goes on from there
pub declared_by : (p : Point) (n : ℕ) (scope : Scope) (name : List ℕ) (shape : Shape) (o : World → Object) (then_act : Scope → Act Flow)
    (next : Flow → source.Memory → steps.Step) (m : source.Memory) (code : core_steps.Step)
    → scope.world ≡ p.world → scope.frame ≡ p.frame → m.objects (source.Frame p.frame) ≡ p.made
    → (is_live m (source.Frame p.frame) ≡ true
    → SameAt p n (then_act (with_binding scope name (Variable shape (local_spot p.frame p.made))) next (m_made m p.frame (o p.world))) code)
    → SameAt p n (declared scope name shape (o scope.world) then_act next m) code
declared_by p n scope name shape o then_act next m code world frame count goes =
    subst (λ z. SameAt p n (begun z scope.frame (next_of scope.frame)) code) (sym world)
    (subst (λ z. SameAt p n (begun p.world z (next_of z)) code) (sym frame)
    (by (is_live m (source.Frame p.frame)) refl))
  where
    next_of : ℕ → Spot
    next_of f = record { region = source.Frame f; object = m.objects (source.Frame f); cell = 0 }

    made : World → ℕ → Spot → steps.Step
    made w f spot = then_act (with_binding scope name (Variable shape spot)) next (with_object m (source.Frame f) (o w))

    begun : World → ℕ → Spot → steps.Step
    begun w f spot = check (is_live m (source.Frame f)) (λ u m'. made w f spot) m

    by : (b : Bool) → is_live m (source.Frame p.frame) ≡ b → SameAt p n (begun p.world p.frame (next_of p.frame)) code
    by false e = rw e (stuck_same p.world p.program n code)
    by true e =
        rw e
        (subst (λ z. SameAt p n (then_act (with_binding scope name (Variable shape (record { region = source.Frame p.frame; object = z; cell = 0 }))) next
        (with_object m (source.Frame p.frame) (o p.world))) code) (sym count) (goes e))

-- what comes after a declaration without an initializer
pub record BeginsIn (p q : Point) (n : ℕ) (m0 : source.Memory) (c0 : Config) (s : source.Memory → steps.Step) (k : Config → core_steps.Step) : Type 0 where
  pub go : (m : source.Memory) (c : Config) → SameState q m c → Grown (around p p.frame) m0 c0.memory m c.memory → activation c ≡ activation c0
      → AreKept p.regions.all c0 c → SameAt p n (s m) (k c)

-- behind that of a word, whose first content is in the first free temporary
pub record BeginsAs (p q : Point) (n : ℕ) (x : Content) (m0 : source.Memory) (c0 : Config) (s : source.Memory → steps.Step) (k : Config → core_steps.Step) :
    Type 0 where
  pub go : (m : source.Memory) (c : Config) → SameState q m c → ((b : Bound) → b.frames ≤ p.frame → Grown b m0 c0.memory m c.memory)
      → activation c ≡ activation c0 → AreKept p.regions.all c0 c → c.temps p.regions.all ≡ x → SameAt p n (s m) (k c)

-- a word
pub word_begun : (p : Point) (n : ℕ) (scope : Scope) (name : List ℕ) (shape : Shape) (shapes : List Shape) (then_act : Scope → Act Flow)
    (next : Flow → source.Memory → steps.Step) (m : source.Memory) (c : Config) (rest : Statements) (after : Next)
    → scope.world ≡ p.world → scope.frame ≡ p.frame → IsWordShape shape → HasFirst shape → p.pending ≡ shape ∷ shapes → SameState p m c
    → BeginsAs p (with_local p name shape shapes) n (first_part shape) m c
    (λ m'. then_act (with_binding scope name (Variable shape (local_spot p.frame p.made))) next m') (meaning.statements rest after)
    → SameAt p n (declared scope name shape (first_object scope.world shape) then_act next m) (meaning.statements
    (MoreStatements (Do (first_code shape p.regions.all)) (MoreStatements (Do (Put 0 p.made (width_of shape) p.regions.all)) rest)) after c)
word_begun p n scope name shape shapes then_act next m c rest after world frame is_word begins pending fits goes =
    declared_by p n scope name shape (λ w. first_object w shape) then_act next m code world frame fits.made stored
  where
    code : core_steps.Step
    code = meaning.statements
        (MoreStatements (Do (first_code shape p.regions.all)) (MoreStatements (Do (Put 0 p.made (width_of shape) p.regions.all)) rest)) after c

    plain : IsPlain p.world shape (width_of shape)
    plain = plain_of p.world shape is_word

    object : IsObject p.world.unions p.world.structs shape
    object = value_object p.world.unions p.world.structs shape (word_value shape is_word)

    first : IsFirst shape
    first = first_of shape is_word begins

    spot : Spot
    spot = local_spot p.frame p.made

    c0 : Config
    c0 = with_temp p.regions.all first.content c

    part : PartIs c.memory (at spot) 0 0 (width_of shape)
    part = part_to_come p m c shape shapes object plain pending fits

    old : Part
    old = part_with (width_of shape) part.content

    c1 : Config
    c1 = with_memory (with_part c.memory (at spot) 0 (part_with (width_of shape) first.content)) c0

    none : m.cells spot ≡ None
    none = fits.agree.unmade spot (subst (λ z. z ≤ p.made) (sym fits.made) (omega arith))

    agree1 : SameMemory p.world m c1.memory
    agree1 = agree_ahead p.world m c.memory spot old first.content fits.agree none part.is

    later1 : (b : Bound) → Grown b m c.memory m c1.memory
    later1 b = ahead_later b m c.memory (at spot) old first.content (named_free b spot) part.is

    fits1 : SameState p m c1
    fits1 = fits_later p m m c c1 fits agree1 (later1 (within p)) refl
        (kept_temp p.regions.all p.regions.all first.content c c (omega arith) (λ k less. refl))

    values : AreCellShapes p.world.unions (cells_of p.world shape)
    values = subst (AreCellShapes p.world.unions) (sym plain.cells) (value_cell p.world.unions shape (word_value shape is_word), tt)

    only : (cell : ℕ) (of : Shape) → slice_get (shape ∷ []) cell ≡ Some of
        → PartsHold c1.memory (at (cell_spot p.frame p.made cell)) 0 (firsts_of (cell_pieces p.world.unions of))
    only zero of e =
        subst (λ z. PartsHold c1.memory (at spot) 0 z)
        (ap (λ z. z ∷ []) (sym first.part) ∙ sym (ap firsts_of (cells_pieces p.world.unions shape (word_value shape is_word) ∙ word_pieces shape is_word)) ∙
        ap (λ z. firsts_of (cell_pieces p.world.unions z)) (some_is shape of e))
        ((part_with (width_of shape) first.content, (rw (spot_self (at spot)) refl, refl)), tt)
      where
        some_is : (s z : Shape) → Some s ≡ Some z → s ≡ z
        some_is s z f = cc f
    only (suc cell) of e = absurd (none_is of e)
      where
        none_is : (z : Shape) → None ≡ Some z → ⊥
        none_is z f = cc f

    stored : is_live m (source.Frame p.frame) ≡ true
        → SameAt p n (then_act (with_binding scope name (Variable shape spot)) next (m_made m p.frame (first_object p.world shape))) code
    stored live =
        subst (λ z. SameAt p n (then_act (with_binding scope name (Variable shape spot)) next (m_made m p.frame (first_object p.world shape))) z)
        (sym (first.does p.regions.all (meaning.statements (MoreStatements (Do (Put 0 p.made (width_of shape) p.regions.all)) rest) after) c
        ∙ put_here c0 p.regions.all p.made (width_of shape) p.frame p.outer part.content (meaning.statements rest after) fits.blocks
        (sym (fits.agree.live (source.Frame p.frame)) ∙ live) part.is ∙
        ap (λ z. meaning.statements rest after (with_memory (with_part c.memory (at spot) 0 (part_with (width_of shape) z)) c0))
        (ap (fitting (width_of shape)) (put_temp p.regions.all first.content c) ∙ first.fits)))
        (goes.go (m_made m p.frame (first_object p.world shape)) c1
        (begins_fits p m c1 name shape shapes values object pending fits1 (λ cell of e. only cell of (ap (λ z. slice_get z cell) (sym plain.cells) ∙ e)))
        (λ b below.
        later_on b m m (m_made m p.frame (first_object p.world shape)) c.memory c1.memory c1.memory (later1 b)
        (grown_later b m c1.memory p.frame (first_object p.world shape) below fits.agree.unmade)) refl
        (kept_temp p.regions.all p.regions.all first.content c c (omega arith) (λ k less. refl)) (put_temp p.regions.all first.content c ∙ sym first.part))

word_begins : (p : Point) (n : ℕ) (scope : Scope) (name : List ℕ) (shape : Shape) (shapes : List Shape) (then_act : Scope → Act Flow)
    (next : Flow → source.Memory → steps.Step) (m : source.Memory) (c : Config) (rest : Statements) (after : Next)
    → scope.world ≡ p.world → scope.frame ≡ p.frame → IsWordShape shape → HasFirst shape → p.pending ≡ shape ∷ shapes → SameState p m c
    → BeginsIn p (with_local p name shape shapes) n m c (λ m'. then_act (with_binding scope name (Variable shape (local_spot p.frame p.made))) next m')
    (meaning.statements rest after)
    → SameAt p n (declared scope name shape (first_object scope.world shape) then_act next m) (meaning.statements
    (MoreStatements (Do (first_code shape p.regions.all)) (MoreStatements (Do (Put 0 p.made (width_of shape) p.regions.all)) rest)) after c)
word_begins p n scope name shape shapes then_act next m c rest after world frame is_word begins pending fits goes =
    word_begun p n scope name shape shapes then_act next m c rest after world frame is_word begins pending fits
    (record { go = λ m' c' fits' later active kept first. goes.go m' c' fits' (later (around p p.frame) (omega arith)) active kept })

-- a struct
cleared_at : (c : Config) (d index frame : ℕ) (outer : List ℕ) (l : Layout) (next : Config → core_steps.Step) → c.blocks ≡ frame ∷ outer
    → core.is_live (c.memory.standing (core.Frame frame)) ≡ true → are_elements c.memory (at (local_spot frame index)) 0 l 1 ≡ true
    → does (LocalAddress d 0 index) (does (Clear d l 1) next) c
    ≡ next (with_memory (cleared l 1 (at (local_spot frame index)) c.memory) (with_temp d (Pointer (at (local_spot frame index)) 0) c))
cleared_at c d index frame outer l next block live there = rw (block, eq-eqb d d refl, live, there) refl

-- a struct, and a fat pointer
pub object_begins : (p : Point) (n : ℕ) (scope : Scope) (name : List ℕ) (shape : Shape) (shapes : List Shape) (then_act : Scope → Act Flow)
    (next : Flow → source.Memory → steps.Step) (m : source.Memory) (c : Config) (rest : Statements) (after : Next)
    → scope.world ≡ p.world → scope.frame ≡ p.frame → AreStructs p.world.unions p.world.structs → IsObject p.world.unions p.world.structs shape
    → p.pending ≡ shape ∷ shapes
    → SameState p m c → BeginsIn p (with_local p name shape shapes) n m c
    (λ m'. then_act (with_binding scope name (Variable shape (local_spot p.frame p.made))) next m') (meaning.statements rest after)
    → SameAt p n (declared scope name shape (first_object scope.world shape) then_act next m) (meaning.statements
    (MoreStatements (Do (LocalAddress p.regions.all 0 p.made)) (MoreStatements (Do (Clear p.regions.all (layout_of p.world shape) 1)) rest)) after c)
object_begins p n scope name shape shapes then_act next m c rest after world frame structs object pending fits goes =
    declared_by p n scope name shape (λ w. first_object w shape) then_act next m code world frame fits.made stored
  where
    layout : Layout
    layout = layout_of p.world shape

    code : core_steps.Step
    code = meaning.statements
        (MoreStatements (Do (LocalAddress p.regions.all 0 p.made)) (MoreStatements (Do (Clear p.regions.all (layout_of p.world shape) 1)) rest)) after c

    spot : Spot
    spot = local_spot p.frame p.made

    all : ArePending p.world c.memory (core.Frame p.frame) p.made (shape ∷ shapes)
    all = subst (λ z. ArePending p.world c.memory (core.Frame p.frame) p.made z) pending fits.pending

    made : AreMade c.memory (at spot) 0 layout.cells
    made = object_made p.world.unions p.world.structs p.world c.memory (core.Frame p.frame) p.made shape object all.0

    c1 : Config
    c1 = with_memory (cleared layout 1 (at spot) c.memory) (with_temp p.regions.all (Pointer (at spot) 0) c)

    agree1 : SameMemory p.world m c1.memory
    agree1 = agree_cleared p.world m c.memory p.frame p.made layout 1 fits.agree fits.made

    later1 : (b : Bound) → Grown b m c.memory m c1.memory
    later1 b = cleared_later b m c.memory layout 1 (at spot) (named_free b spot)

    fits1 : SameState p m c1
    fits1 = fits_later p m m c c1 fits agree1 (later1 (within p)) refl
        (kept_temp p.regions.all p.regions.all (Pointer (at spot) 0) c c (omega arith) (λ k less. refl))

    values : AreCellShapes p.world.unions (cells_of p.world shape)
    values = (object_cells p.world.unions p.world.structs shape structs object).cells

    held : (cell : ℕ) (of : Shape) → slice_get (cells_of p.world shape) cell ≡ Some of
        → PartsHold c1.memory (at (cell_spot p.frame p.made cell)) 0 (firsts_of (cell_pieces p.world.unions of))
    held cell of e =
        let first = layout_first p.world shape cell of structs object e in
        let parts : List PartShape = map (part_shape_of (placed_at first.offset of)) (cell_pieces p.world.unions of) ++ first.others in
        cleared_holds layout (core.Frame p.frame) p.made 0 c.memory cell 0 parts (placed_at first.offset of)
        (cell_pieces p.world.unions of) first.others first.less first.is
        (λ i. ap (slice_get parts) (zero_on i))
        (subst (λ z. AreShaped c.memory (at (cell_spot p.frame p.made z)) 0 0 parts) (zero_on cell)
        (made_at c.memory (core.Frame p.frame) p.made 0 0 cell layout.cells parts made first.is))
      where
        zero_on : (i : ℕ) → 0 + i ≡ i
        zero_on i = omega arith

    stored : is_live m (source.Frame p.frame) ≡ true
        → SameAt p n (then_act (with_binding scope name (Variable shape spot)) next (m_made m p.frame (first_object p.world shape))) code
    stored live =
        subst (λ z. SameAt p n (then_act (with_binding scope name (Variable shape spot)) next (m_made m p.frame (first_object p.world shape))) z)
        (sym (cleared_at c p.regions.all p.made p.frame p.outer layout (meaning.statements rest after) fits.blocks
        (sym (fits.agree.live (source.Frame p.frame)) ∙ live) (element_there c.memory (at spot) 0 layout made)))
        (goes.go (m_made m p.frame (first_object p.world shape)) c1 (begins_fits p m c1 name shape shapes values object pending fits1 held)
        (later_on (around p p.frame) m m (m_made m p.frame (first_object p.world shape)) c.memory c1.memory c1.memory (later1 (around p p.frame))
        (grown_later (around p p.frame) m c1.memory p.frame (first_object p.world shape) (omega arith) fits.agree.unmade)) refl
        (kept_temp p.regions.all p.regions.all (Pointer (at spot) 0) c c (omega arith) (λ k less. refl)))

-- whichever
pub declared_same : (p : Point) (n : ℕ) (scope : Scope) (name : List ℕ) (shape : Shape) (shapes : List Shape) (then_act : Scope → Act Flow)
    (next : Flow → source.Memory → steps.Step) (m : source.Memory) (c : Config) (rest : Statements) (after : Next)
    → scope.world ≡ p.world → scope.frame ≡ p.frame → AreStructs p.world.unions p.world.structs → IsObject p.world.unions p.world.structs shape
    → HasBeginning shape
    → p.pending ≡ shape ∷ shapes → SameState p m c
    → BeginsIn p (with_local p name shape shapes) n m c (λ m'. then_act (with_binding scope name (Variable shape (local_spot p.frame p.made))) next m')
    (meaning.statements rest after)
    → SameAt p n (declared scope name shape (first_object scope.world shape) then_act next m)
    (meaning.statements (put (unset_code p.world shape p.regions.all p.made) rest)
    after c)
declared_same p n scope name (StructShape tag) shapes then_act next m c rest after world frame structs object begins pending fits goes =
    object_begins p n scope name (StructShape tag) shapes then_act next m c rest after world frame structs object pending fits goes
declared_same p n scope name IntShape shapes then_act next m c rest after world frame structs object begins pending fits goes =
    word_begins p n scope name IntShape shapes then_act next m c rest after world frame tt tt pending fits goes
declared_same p n scope name UnsignedShape shapes then_act next m c rest after world frame structs object begins pending fits goes =
    word_begins p n scope name UnsignedShape shapes then_act next m c rest after world frame tt tt pending fits goes
declared_same p n scope name CharShape shapes then_act next m c rest after world frame structs object begins pending fits goes =
    word_begins p n scope name CharShape shapes then_act next m c rest after world frame tt tt pending fits goes
declared_same p n scope name (ThinShape b owner to) shapes then_act next m c rest after world frame structs object begins pending fits goes =
    word_begins p n scope name (ThinShape b owner to) shapes then_act next m c rest after world frame object begins pending fits goes
declared_same p n scope name VoidShape shapes then_act next m c rest after world frame structs object begins pending fits goes = absurd object
declared_same p n scope name (FatShape to) shapes then_act next m c rest after world frame structs object begins pending fits goes =
    object_begins p n scope name (FatShape to) shapes then_act next m c rest after world frame structs object pending fits goes
declared_same p n scope name HandleShape shapes then_act next m c rest after world frame structs object begins pending fits goes = absurd begins
declared_same p n scope name KeyShape shapes then_act next m c rest after world frame structs object begins pending fits goes = absurd begins
declared_same p n scope name (UnionShape tag) shapes then_act next m c rest after world frame structs object begins pending fits goes = absurd begins
declared_same p n scope name (ArrayShape count of) shapes then_act next m c rest after world frame structs object begins pending fits goes = absurd object
