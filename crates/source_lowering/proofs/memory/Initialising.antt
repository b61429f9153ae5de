-- A struct's or a union's local whose initializer is a place: the object there is copied to it.
use Rattle.std.proofs.Common.{◌≡◌, ℕ, ◌+◌, List, [], ◌∷◌, Bool, true, false, nat_eq, refl, sym, ap, ◌∙◌, subst, arith, eq-eqb}
use Rattle.std.proofs.lemmas.Bool.Decides.{nat_tests}
use Rattle.source_meaning.specs.Shapes.{
  Shape,
  IntShape,
  UnsignedShape,
  CharShape,
  VoidShape,
  ThinShape,
  FatShape,
  HandleShape,
  KeyShape,
  StructShape,
  UnionShape,
  ArrayShape,
  Layout as ShapeLayout,
  same_shape,
}
use Rattle.source_meaning.specs.Memory as source
use Rattle.source_meaning.specs.Memory.{Scalar, Spot, is_live, with_object, blank_object}
use Rattle.source_meaning.specs.Steps as steps
use Rattle.source_meaning.specs.Steps.{World, Variable, Scope, Flow, Act, give, ◌>>◌, check}
use Rattle.source_meaning.specs.Conversions.{cells_of, converted, converted_scalar}
use Rattle.source_meaning.specs.Values.{write_cells, take_cells}
use Rattle.source_meaning.specs.Places.{Sense, with_binding}
use Rattle.source_meaning.specs.Regions.{local_with, initialised}
use Rattle.core_meaning.specs.Memory as core
use Rattle.core_meaning.specs.Memory.{Pointer, Layout}
use Rattle.core_meaning.specs.Core.{Statement, Do, LocalAddress, Copy, Statements}
use Rattle.core_meaning.specs.Steps as core_steps
use Rattle.core_meaning.specs.Steps.{Config, with_temp, with_memory}
use Rattle.core_meaning.specs.Operations.{does, are_laid, same_object, copied}
use Rattle.core_meaning.specs.Meaning as meaning
use Rattle.source_lowering.specs.Layouts.{layout_of}
use Rattle.source_lowering.specs.Lowered.{put}
use Rattle.source_lowering.specs.Lowerable.{IsObject, IsWholeShape, AreStructs}
use Rattle.source_lowering.proofs.memory.StructCells.{shapes_in}
use Rattle.source_lowering.proofs.memory.ObjectShapes.{object_made, whole_object}
use Rattle.source_lowering.specs.Simulation.{at, HasShape, AreCells, AreMade, ArePending, SameMemory, Grown, Point, SameState, SameAt, Next, Bound, nothing}
use Rattle.source_lowering.specs.Simulation.{around, within}
use Rattle.source_lowering.proofs.memory.Keeping.{later_on, fits_later, named_free, later_items, blocks_of}
use Rattle.source_lowering.proofs.Runs.{stuck_same}
use Rattle.source_lowering.proofs.expressions.Making.{local_spot, m_made, cells_here, grown_later}
use Rattle.source_lowering.proofs.memory.Clearing.{laid_there, object_apart}
use Rattle.source_lowering.proofs.memory.Moving.{take_all}
use Rattle.source_lowering.proofs.memory.Copying.{
  IsLiveFor,
  AllShown,
  held_shown,
  all_shown_later,
  write_all,
  copied_later,
  agree_copied,
  whole_copied,
}
use Rattle.source_lowering.proofs.statements.Declaring.{with_local, object_with, local_fits, blank_holds}
use Rattle.source_lowering.proofs.memory.Beginning.{BeginsIn}
use Rattle.source_lowering.proofs.memory.SameShapes.{shapes_same}
use Rattle.source_lowering.proofs.values.Values.{kept_temp}
use Rattle.source_lowering.proofs.expressions.Places.{IsPlaced}

next_number : (d : ℕ) → nat_eq d (d + 1) ≡ false
next_number d = grind (arith, nat_tests)

copy_does : (c : Config) (d index frame byte : ℕ) (outer : List ℕ) (t : core.Spot) (l : Layout) (next : Config → core_steps.Step) → c.blocks ≡ frame ∷ outer
    → c.temps d ≡ Pointer t byte → core.is_live (c.memory.standing (core.Frame frame)) ≡ true → core.is_live (c.memory.standing t.region) ≡ true
    → are_laid c.memory (at (local_spot frame index)) 0 l.cells ≡ true → are_laid c.memory t byte l.cells ≡ true
    → same_object (at (local_spot frame index)) t ≡ false
    → does (LocalAddress (d + 1) 0 index) (does (Copy (d + 1) d l) next) c
    ≡ next (with_memory (copied l (at (local_spot frame index)) t c.memory) (with_temp (d + 1) (Pointer (at (local_spot frame index)) 0) c))
copy_does c d index frame byte outer t l next block temp live other laid laid_t apart =
    rw (block, eq-eqb (d + 1) (d + 1) refl, next_number d, temp, live, laid, other, laid_t, apart) refl

-- the local to come gets the object that the first free temporary points to
abbrev pub copy_code : Point → Layout → List Statement
copy_code p l = Do (LocalAddress (p.regions.all + 1) 0 p.made) ∷ Do (Copy (p.regions.all + 1) p.regions.all l) ∷ []

-- such a local, whose value is that of an object
pub whole_with_same : (p : Point) (n : ℕ) (scope : Scope) (name : List ℕ) (shape : Shape) (shapes : List Shape) (t : core.Spot) (byte : ℕ) (vs : List Scalar)
    (then_act : Scope → Act Flow) (next : Flow → source.Memory → steps.Step) (m : source.Memory) (c : Config) (rest : Statements) (after : Next)
    → scope.world ≡ p.world → scope.frame ≡ p.frame → AreStructs p.world.unions p.world.structs → IsWholeShape p.world.unions p.world.structs shape
    → p.pending ≡ shape ∷ shapes → SameState p m c → c.temps p.regions.all ≡ Pointer t byte
    → AreMade c.memory t byte (layout_of p.world shape).cells
    → AllShown p.world m c.memory t (cells_of p.world shape) vs → core.is_live (c.memory.standing t.region) ≡ true
    → same_object (at (local_spot p.frame p.made)) t ≡ false
    → BeginsIn p (with_local p name shape shapes) n m c
    (λ m'. then_act (with_binding scope name (Variable shape (local_spot p.frame p.made))) next m') (meaning.statements rest after)
    → SameAt p n (local_with scope name shape vs then_act next m) (meaning.statements
    (put (copy_code p (layout_of p.world shape)) rest) after c)
whole_with_same p n scope name shape shapes t byte vs then_act next m c rest after world frame structs whole pending fits temp made held live apart goes =
    subst (λ z. SameAt p n (begun z scope.frame (next_of scope.frame)) code) (sym world)
    (subst (λ z. SameAt p n (begun p.world z (next_of z)) code) (sym frame)
    (by (is_live m (source.Frame p.frame)) refl))
  where
    object : IsObject p.world.unions p.world.structs shape
    object = whole_object p.world.unions p.world.structs shape whole

    layout : Layout
    layout = layout_of p.world shape

    code : core_steps.Step
    code = meaning.statements
        (put (copy_code p (layout_of p.world shape)) rest) after c

    next_of : ℕ → Spot
    next_of f = record { region = source.Frame f; object = m.objects (source.Frame f); cell = 0 }

    written : World → ℕ → Spot → steps.Step
    written w f spot = write_cells spot vs (λ u. then_act (with_binding scope name (Variable shape spot)) next)
        (with_object m (source.Frame f) (blank_object (cells_of w shape)))

    begun : World → ℕ → Spot → steps.Step
    begun w f spot = check (is_live m (source.Frame f)) (λ u m'. written w f spot) m

    spot : Spot
    spot = local_spot p.frame p.made

    q : Point
    q = with_local p name shape shapes

    all : ArePending p.world c.memory (core.Frame p.frame) p.made (shape ∷ shapes)
    all = subst (λ z. ArePending p.world c.memory (core.Frame p.frame) p.made z) pending fits.pending

    here_made : AreMade c.memory (at spot) 0 layout.cells
    here_made = object_made p.world.unions p.world.structs p.world c.memory (core.Frame p.frame) p.made shape object all.0

    c1 : Config
    c1 = with_memory (copied layout (at spot) t c.memory) (with_temp (p.regions.all + 1) (Pointer (at spot) 0) c)

    agree1 : SameMemory p.world m c1.memory
    agree1 = agree_copied p.world m c.memory p.frame p.made t layout fits.agree fits.made

    later1 : (b : Bound) → Grown b m c.memory m c1.memory
    later1 b = copied_later b m c.memory layout (at spot) t (named_free b spot)

    fits1 : SameState p m c1
    fits1 = fits_later p m m c c1 fits agree1 (later1 (within p)) refl
        (kept_temp p.regions.all (p.regions.all + 1) (Pointer (at spot) 0) c c (omega arith) (λ k less. refl))

    m1 : source.Memory
    m1 = m_made m p.frame (object_with p.world (λ s. source.Blank) shape)

    fits2 : SameState q m1 c1
    fits2 = local_fits p m c1 name shape shapes (λ s. source.Blank) object pending fits1 (λ s. refl)
        (λ cell of u e. absurd (blank_holds (cells_of p.world shape) cell of u e))

    later2 : Grown (around p p.frame) m c1.memory m1 c1.memory
    later2 = grown_later (around p p.frame) m c1.memory p.frame (object_with p.world (λ s. source.Blank) shape) (omega arith) fits.agree.unmade

    shown : AllShown p.world m1 c1.memory (at spot) (cells_of p.world shape) vs
    shown = all_shown_later (around p p.frame) p.world m m1 c1.memory (at spot) (cells_of p.world shape) vs later2
        (whole_copied p.world m c.memory (at spot) t 0 shape vs structs object here_made held)

    writes : is_live m (source.Frame p.frame) ≡ true
        → SameAt p n (write_cells spot vs (λ u. then_act (with_binding scope name (Variable shape spot)) next) m1) code
    writes here =
        subst (λ z. SameAt p n (write_cells spot vs (λ u. then_act (with_binding scope name (Variable shape spot)) next) m1) z)
        (sym (copy_does c p.regions.all p.made p.frame byte p.outer t layout (meaning.statements rest after) fits.blocks temp
        (sym (fits.agree.live (source.Frame p.frame)) ∙ here) live
        (laid_there c.memory (at spot) 0 layout.cells here_made) (laid_there c.memory t byte layout.cells made) apart))
        (write_all p.world p.program n (within p) (cells_of p.world shape) vs m1 c1.memory spot
        (λ u. then_act (with_binding scope name (Variable shape spot)) next) (meaning.statements rest after c1) here fits2.agree
        (cells_here m p.frame p.made (λ s. source.Blank) (cells_of p.world shape) fits.made) shown
        (λ m2 agree2 more.
        goes.go m2 c1 (fits_later q m1 m2 c1 c1 fits2 agree2 more refl (λ k less. refl))
        (later_on (around p p.frame) m m m2 c.memory c1.memory c1.memory (later1 (around p p.frame))
        (later_on (around p p.frame) m m1 m2 c1.memory c1.memory c1.memory later2 (later_items p m1 m2 c1 c1 more)))
        refl (kept_temp p.regions.all (p.regions.all + 1) (Pointer (at spot) 0) c c (omega arith) (λ k less. refl))))

    by : (b : Bool) → is_live m (source.Frame p.frame) ≡ b → SameAt p n (begun p.world p.frame (next_of p.frame)) code
    by false e = rw e (stuck_same p.world p.program n code)
    by true e =
        rw e
        (subst (λ z. SameAt p n (write_cells (record { region = source.Frame p.frame; object = z; cell = 0 }) vs
        (λ u. then_act (with_binding scope name (Variable shape (record { region = source.Frame p.frame; object = z; cell = 0 }))) next)
        (with_object m (source.Frame p.frame) (blank_object (cells_of p.world shape)))) code) (sym fits.made) (writes e))

-- a struct or a union becomes one of an equal shape alone
scalar_whole : (w : World) (unions structs : List ShapeLayout) (shape from : Shape) (v : Scalar) → IsWholeShape unions structs shape
    → converted_scalar w shape from v ≡ (check (same_shape shape from) >> give v)
scalar_whole w unions structs (StructShape tag) from v h = refl
scalar_whole w unions structs (UnionShape tag) from v h = refl
scalar_whole w unions structs IntShape from v h = absurd h
scalar_whole w unions structs UnsignedShape from v h = absurd h
scalar_whole w unions structs CharShape from v h = absurd h
scalar_whole w unions structs VoidShape from v h = absurd h
scalar_whole w unions structs (ThinShape b owner to) from v h = absurd h
scalar_whole w unions structs (FatShape to) from v h = absurd h
scalar_whole w unions structs HandleShape from v h = absurd h
scalar_whole w unions structs KeyShape from v h = absurd h
scalar_whole w unions structs (ArrayShape count of) from v h = absurd h

-- what comes after its initializer was converted: equal shapes, or the source is stuck
pub converted_whole : (p : Point) (n : ℕ) (shape from : Shape) (vs : List Scalar) (s : List Scalar → source.Memory → steps.Step) (m : source.Memory)
    (k : core_steps.Step) → IsWholeShape p.world.unions p.world.structs shape → (same_shape shape from ≡ true → SameAt p n (s vs m) k)
    → SameAt p n (converted p.world shape from vs s m) k
converted_whole p n shape from vs s m k whole go = by vs (same_shape shape from) refl go
  where
    one : (v : Scalar) (b : Bool) → same_shape shape from ≡ b → (same_shape shape from ≡ true → SameAt p n (s (v ∷ []) m) k)
        → SameAt p n ((check (same_shape shape from) >> give v) (λ u. s (u ∷ [])) m) k
    one v false e go = rw e (stuck_same p.world p.program n k)
    one v true e go = rw e (go e)

    by : (us : List Scalar) (b : Bool) → same_shape shape from ≡ b → (same_shape shape from ≡ true → SameAt p n (s us m) k)
        → SameAt p n (converted p.world shape from us s m) k
    by [] false e go = rw e (stuck_same p.world p.program n k)
    by [] true e go = rw e (go e)
    by (v ∷ []) b e go =
        subst (λ (z : Act Scalar). SameAt p n (z (λ u. s (u ∷ [])) m) k) (sym (scalar_whole p.world p.world.unions p.world.structs shape from v whole))
        (one v b e go)
    by (v ∷ u ∷ us) false e go = rw e (stuck_same p.world p.program n k)
    by (v ∷ u ∷ us) true e go = rw e (go e)

-- such a local with an initializer that names an object
pub placed_begins : (p : Point) (n : ℕ) (scope : Scope) (name : List ℕ) (shape : Shape) (shapes : List Shape) (e : Sense) (from : Shape) (code : List Statement)
    (then_act : Scope → Act Flow) (next : Flow → source.Memory → steps.Step) (m : source.Memory) (c : Config) (rest : Statements) (after : Next)
    → scope.world ≡ p.world → scope.frame ≡ p.frame → AreStructs p.world.unions p.world.structs → IsWholeShape p.world.unions p.world.structs shape
    → p.pending ≡ shape ∷ shapes → SameState p m c → IsPlaced p n p.regions.all e from code
    → IsWholeShape p.world.unions p.world.structs from
    → BeginsIn p (with_local p name shape shapes) n m c
    (λ m'. then_act (with_binding scope name (Variable shape (local_spot p.frame p.made))) next m') (meaning.statements rest after)
    → SameAt p n (initialised scope name shape e then_act next m) (meaning.statements (put code
    (put (copy_code p (layout_of p.world shape)) rest)) after c)
placed_begins p n scope name shape shapes e from code then_act next m c rest after world frame structs is_whole pending fits one is goes =
    subst (λ z. SameAt p n z whole) (sym (one.value is convert m))
    (subst (λ z. SameAt p n (e.place (λ t. take_cells (cells_of p.world z) t convert) m) whole) (sym one.shape_is)
    (one.placed.same m c (λ t. take_cells (cells_of p.world from) t convert)
    (put (copy_code p (layout_of p.world shape)) rest) after fits (record {
      above = omega arith;
      go = λ m1 c1 t byte fits1 later1 kept1 temp lies leads.
          let has = lies.cells in
          take_all p.world p.program n (cells_of p.world from) m1 c1.memory t convert (meaning.statements copies after c1) fits1.agree leads.0
          (λ vs m3 held live moved.
          let fits3 = fits_later p m1 m3 c1 c1 fits1 moved.agree (moved.later (within p)) refl (λ k less. refl) in
          let later3 = later_on (within p) m m1 m3 c.memory c1.memory c1.memory later1 (moved.later (within p)) in
          subst (λ z. SameAt p n (converted z shape e.shape vs (λ us. local_with scope name shape us then_act next) m3)
          (meaning.statements copies after c1)) (sym world)
          (converted_whole p n shape e.shape vs (λ us. local_with scope name shape us then_act next) m3 (meaning.statements copies after c1) is_whole
          (λ equal.
          let same : shape ≡ from = shapes_same shape e.shape equal ∙ one.shape_is in
          let cells : cells_of p.world from ≡ has.first.shape ∷ shapes_in has.others = sym has.shapes ∙ ap shapes_in has.is in
          let here : HasShape m1 t has.first.shape = (subst (λ z. AreCells m1 t z) cells leads.0).0 in
          whole_with_same p n scope name shape shapes (at t) byte vs then_act next m3 c1 rest after world frame structs is_whole pending fits3 temp
          (subst (λ z. AreMade c1.memory (at t) byte (layout_of p.world z).cells) (sym same) leads.1)
          (subst (λ z. AllShown p.world m3 c1.memory (at t) (cells_of p.world z) vs) (sym same)
          (all_shown_later nothing p.world m1 m3 c1.memory (at t) (cells_of p.world from) vs (moved.later nothing)
          (held_shown p.world m1 c1.memory t (cells_of p.world from) vs fits1.agree has.cells held)))
          (sym (fits1.agree.live t.region) ∙ subst (λ z. IsLiveFor m1 t z) cells live)
          (object_apart p.world m1 c1.memory p.frame p.made t _ fits1.agree fits1.made here.is)
          (record {
            go = λ m2 c2 fits2 later2 blocks2 kept2.
                goes.go m2 c2 fits2 (later_on (around p p.frame) m m3 m2 c.memory c1.memory c2.memory
                (later_items p m m3 c c1 later3) later2) (blocks2 ∙ blocks_of p m m3 c c1 fits fits3) (λ k less. kept2 k less ∙ kept1 k less);
          }))));
    })))
  where
    copies : Statements
    copies = put (copy_code p (layout_of p.world shape)) rest

    whole : core_steps.Step
    whole = meaning.statements (put code copies) after c

    convert : List Scalar → source.Memory → steps.Step
    convert vs = converted scope.world shape e.shape vs (λ us. local_with scope name shape us then_act next)
