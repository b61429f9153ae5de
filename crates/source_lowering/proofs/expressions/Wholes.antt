-- Structs and unions as values: a temporary object of the function gets what a place holds, and is then where a temporary points.
use Rattle.std.proofs.Common.{◌≡◌, ℕ, suc, ◌+◌, ◌≤◌, List, [], ◌∷◌, ◌++◌, true, false, nat_eq, Option, Some, None, refl, sym, ap, ◌∙◌, subst, arith}
use Rattle.std.specs.Prelude.{slice_get}
use Rattle.std.proofs.lemmas.Bool.{eq-eqb}
use Rattle.std.proofs.lemmas.Bool.Decides.{nat_tests}
use Rattle.source_meaning.specs.Shapes.{Shape}
use Rattle.source_meaning.specs.Memory as source
use Rattle.source_meaning.specs.Memory.{Holds, Scalar, Spot}
use Rattle.source_meaning.specs.Steps as steps
use Rattle.source_meaning.specs.Steps.{World}
use Rattle.source_meaning.specs.Conversions.{cells_of}
use Rattle.source_meaning.specs.Values.{take_cells}
use Rattle.source_meaning.specs.Places.{Sense}
use Rattle.core_meaning.specs.Memory as core
use Rattle.core_meaning.specs.Memory.{Pointer, Part, Layout}
use Rattle.core_meaning.specs.Core.{Statement, OwnAddress, Copy, Statements}
use Rattle.core_meaning.specs.Steps as core_steps
use Rattle.core_meaning.specs.Steps.{Config, with_temp, with_memory}
use Rattle.core_meaning.specs.Operations.{does, are_laid, same_object, copied}
use Rattle.core_meaning.specs.Meaning as meaning
use Rattle.source_lowering.specs.Layouts.{layout_of}
use Rattle.source_lowering.specs.Lowered.{put}
use Rattle.source_lowering.specs.Lowerable.{IsObject, IsWholeShape, AreStructs}
use Rattle.source_lowering.specs.Whole.{copied_code}
use Rattle.source_lowering.proofs.memory.StructCells.{shapes_in}
use Rattle.source_lowering.proofs.memory.ObjectShapes.{object_made, whole_object}
use Rattle.source_lowering.specs.Simulation.{
  at,
  AreMade,
  ArePending,
  SameMemory,
  nothing,
  IsFree,
  Grown,
  Point,
  SameState,
  SameAt,
  Next,
  AreKept,
  around,
  before_value,
  keeping,
  LocalMade,
  kept_in,
}
use Rattle.source_lowering.proofs.memory.Keeping.{IsLess, later_on, shown_later, free_nothing, fits_on}
use Rattle.source_lowering.proofs.Runs.{put_all}
use Rattle.source_lowering.proofs.values.Values.{put_temp, kept_temp, temp_fits, over}
use Rattle.source_lowering.proofs.memory.Moving.{take_all}
use Rattle.source_lowering.proofs.memory.Clearing.{laid_there, held_still}
use Rattle.source_lowering.proofs.memory.Copying.{IsLiveFor, AllShown, all_shown_later, held_shown, copied_later, copied_none, copied_other, whole_copied}
use Rattle.source_lowering.proofs.expressions.Places.{IsPlaced}

-- ---- forms

-- a cell of a temporary object
abbrev pub own_spot : ℕ → ℕ → ℕ → core.Spot
own_spot own value cell = record { region = core.Own own; object = value; cell = cell }

-- A struct or a union is a temporary object to which there is a pointer in a temporary; temporaries below it, and values before it, are as they were.
pub record WholeGoesOn (p : Point) (n d value : ℕ) (m0 : source.Memory) (c0 : Config) (shape : Shape) (s : List Scalar → source.Memory → steps.Step)
    (k : Config → core_steps.Step) : Type 0 where
  pub above : p.regions.all ≤ d
  pub go : (m : source.Memory) (c : Config) (vs : List Scalar) → SameState p m c → Grown (before_value p value) m0 c0.memory m c.memory → AreKept d c0 c
      → c.temps d ≡ Pointer (own_spot p.own value 0) 0 → AllShown p.world m c.memory (own_spot p.own value 0) (cells_of p.world shape) vs
      → SameAt p n (s vs m) (k c)

-- an expression gives a struct or a union, and its code that value
pub record IsWhole (p : Point) (n d value : ℕ) (e : Sense) (code : List Statement) : Type 0 where
  pub shape : Shape
  pub shape_is : e.shape ≡ shape
  pub object : IsObject p.world.unions p.world.structs shape
  pub numbered : slice_get p.owned value ≡ Some shape
  pub same : (m : source.Memory) (c : Config) (s : List Scalar → source.Memory → steps.Step) (rest : Statements) (next : Next) → SameState p m c
      → WholeGoesOn p n d value m c shape s (meaning.statements rest next) → SameAt p n (e.value s m) (meaning.statements (put code rest) next c)

-- ---- bounds

pub before_less : (p : Point) (u v : ℕ) → u ≤ v → IsLess (before_value p u) (before_value p v)
before_less p u v less = record {
  frames = omega arith;
  standing = omega arith;
  kept = λ k i h. (h.0, λ e. let f = h.1 e in omega (arith, f, less));
}

-- where that many temporary objects are left as they are, the same fits
pub fits_keeping : (p : Point) (values : ℕ) (m : source.Memory) (c : Config) → SameState p m c → SameState (keeping p values) m c
fits_keeping p values m c f = record {
  agree = f.agree;
  blocks = f.blocks;
  locals = f.locals;
  statics = f.statics;
  begun = f.begun;
  made = f.made;
  pending = f.pending;
  own = f.own;
  called = f.called;
  stands = f.stands;
  owned = f.owned;
}

pub fits_kept : (p : Point) (values : ℕ) (m : source.Memory) (c : Config) → SameState (keeping p values) m c → SameState p m c
fits_kept p values m c f = record {
  agree = f.agree;
  blocks = f.blocks;
  locals = f.locals;
  statics = f.statics;
  begun = f.begun;
  made = f.made;
  pending = f.pending;
  own = f.own;
  called = f.called;
  stands = f.stands;
  owned = f.owned;
}

abbrev own_number : core.Region → ℕ
own_number (core.Frame k) = 0
own_number (core.Own k) = k
own_number (core.Born k) = 0

-- a value isn't among those before it
pub own_free : (p : Point) (u v cell : ℕ) → u ≤ v → IsFree (before_value p u) (own_spot p.own v cell)
own_free p u v cell less k r h =
    let same : p.own ≡ k = ap own_number r in
    let f = h.1 (sym same) in
    omega (arith, f, less)

-- ---- a temporary object's parts change

-- memories still agree where the parts of cells that keep a value are as they were
pub agree_changed : (w : World) (m : source.Memory) (c : core.Memory) (f : core.Spot → ℕ → Option Part) → SameMemory w m c
    → Grown nothing m c m (record c { parts = f })
    → ((s : Spot) (shape : Shape) (x : source.Content) (v : Scalar) → kept_in x ≡ Some v → m.cells s ≡ Some (record { shape = shape; content = x })
    → (j : ℕ) → f (at s) j ≡ c.parts (at s) j)
    → ((t : core.Spot) (j : ℕ) → c.parts t j ≡ None → f t j ≡ None) → SameMemory w m (record c { parts = f })
agree_changed w m c f a later held none = record {
  cells = λ s shape x v keeps h. let one = a.cells s shape x v keeps h in record {
    contents = one.contents;
    shown = shown_later nothing w m m c (record c { parts = f }) shape v one.contents later one.shown;
    held = held_still c (record c { parts = f }) (at s) 0 one.contents (held s shape x v keeps h) one.held;
  };
  live = a.live;
  activations = a.activations;
  unmade = a.unmade;
  unentered = λ k t j h r. none t j (a.unentered k t j h r);
  unbegun = a.unbegun;
  uncalled = λ k t j h r. none t j (a.uncalled k t j h r);
  unowned = a.unowned;
  births = a.births;
  heap = a.heap;
  closed = a.closed;
  unborn = a.unborn;
  blocks = a.blocks;
  ungranted = λ d t j r h. none t j (a.ungranted d t j r h);
}

-- and where those of all cells are
pub agree_parts : (w : World) (m : source.Memory) (c : core.Memory) (f : core.Spot → ℕ → Option Part) → SameMemory w m c
    → Grown nothing m c m (record c { parts = f }) → ((s : Spot) (j : ℕ) → f (at s) j ≡ c.parts (at s) j)
    → ((t : core.Spot) (j : ℕ) → c.parts t j ≡ None → f t j ≡ None) → SameMemory w m (record c { parts = f })
agree_parts w m c f a later others none = agree_changed w m c f a later (λ s shape x v keeps h. others s) none

pub own_apart : (s : Spot) (own value cell : ℕ) → same_object (at s) (own_spot own value cell) ≡ false
own_apart s own value cell = by s.region
  where
    by : (r : source.Region) → same_object (at (record { region = r; object = s.object; cell = s.cell })) (own_spot own value cell) ≡ false
    by (source.Frame k) = refl
    by (source.Born k) = refl

pub apart_own : (s : Spot) (own value cell : ℕ) → same_object (own_spot own value cell) (at s) ≡ false
apart_own s own value cell = by s.region
  where
    by : (r : source.Region) → same_object (own_spot own value cell) (at (record { region = r; object = s.object; cell = s.cell })) ≡ false
    by (source.Frame k) = refl
    by (source.Born k) = refl

pub agree_own_copied : (w : World) (m : source.Memory) (c : core.Memory) (l : Layout) (own value cell : ℕ) (from : core.Spot) → SameMemory w m c
    → SameMemory w m (copied l (own_spot own value cell) from c)
agree_own_copied w m c l own value cell from a =
    agree_parts w m c (copied l (own_spot own value cell) from c).parts a
    (copied_later nothing m c l (own_spot own value cell) from (free_nothing (own_spot own value cell)))
    (λ s j. copied_other l (own_spot own value cell) from c (at s) j (own_apart s own value cell))
    (λ t j e. copied_none l (own_spot own value cell) from c t j e)

-- what a place knows of its temporary objects
pub pending_at : (w : World) (c : core.Memory) (r : core.Region) (index i : ℕ) (ss : List Shape) (s : Shape) → ArePending w c r index ss
    → slice_get ss i ≡ Some s → LocalMade w c r (index + i) s
pending_at w c r index i [] s h e = absurd (cc e)
pending_at w c r index Rattle.std.proofs.Common.zero (x ∷ ss) s h e =
    let same : x ≡ s = cc e in
    let here : index ≡ index + 0 = omega arith in
    subst (λ z. LocalMade w c r z s) here (subst (λ z. LocalMade w c r index z) same h.0)
pending_at w c r index (suc i) (x ∷ ss) s h e =
    let next : suc index + i ≡ index + suc i = omega arith in
    subst (λ z. LocalMade w c r z s) next (pending_at w c r (suc index) i ss s h.1 e)

pub value_made : (p : Point) (m : source.Memory) (c : Config) (value : ℕ) (shape : Shape) → IsObject p.world.unions p.world.structs shape → SameState p m c
    → slice_get p.owned value ≡ Some shape → AreMade c.memory (own_spot p.own value 0) 0 (layout_of p.world shape).cells
value_made p m c value shape object fits e =
    let none : 0 + value ≡ value = omega arith in
    object_made p.world.unions p.world.structs p.world c.memory (core.Own p.own) value shape object
    (subst (λ z. LocalMade p.world c.memory (core.Own p.own) z shape) none
    (pending_at p.world c.memory (core.Own p.own) 0 value p.owned shape fits.owned e))

-- ---- what a place holds is copied there

value_copied : (c : Config) (d own value byte : ℕ) (t : core.Spot) (l : Layout) (next : Config → core_steps.Step) → c.own ≡ own
    → c.temps d ≡ Pointer t byte → core.is_live (c.memory.standing (core.Own own)) ≡ true → core.is_live (c.memory.standing t.region) ≡ true
    → are_laid c.memory (own_spot own value 0) 0 l.cells ≡ true → are_laid c.memory t byte l.cells ≡ true
    → same_object (own_spot own value 0) t ≡ false
    → does (OwnAddress (d + 1) value) (does (Copy (d + 1) d l) (does (OwnAddress d value) next)) c
    ≡ next (with_temp d (Pointer (own_spot own value 0) 0)
    (with_memory (copied l (own_spot own value 0) t c.memory) (with_temp (d + 1) (Pointer (own_spot own value 0) 0) c)))
value_copied c d own value byte t l next is temp live other laid laid_t apart =
    let here : nat_eq (d + 1) (d + 1) ≡ true = eq-eqb (d + 1) (d + 1) refl in
    let there : nat_eq d (d + 1) ≡ false = grind (arith, nat_tests) in
    rw (is, here, there, temp, live, laid, other, laid_t, apart) refl

pub place_whole : (p : Point) (n d value : ℕ) (e : Sense) (shape : Shape) (code : List Statement) → AreStructs p.world.unions p.world.structs
    → IsWholeShape p.world.unions p.world.structs shape → slice_get p.owned value ≡ Some shape → IsPlaced (keeping p value) n d e shape code
    → IsWhole p n d value e (code ++ copied_code p.world shape d value)
place_whole p n d value e shape code structs whole numbered one = record {
  shape = shape;
  shape_is = one.shape_is;
  object = object;
  numbered = numbered;
  same = λ m c s rest next fits goes.
      subst (λ z. SameAt p n (e.value s m) (meaning.statements z next c)) (sym (put_all code (copied_code p.world shape d value) rest))
      (subst (λ z. SameAt p n z (meaning.statements (put code (put (copied_code p.world shape d value) rest)) next c)) (sym (one.value whole s m))
      (subst (λ z. SameAt p n (e.place (λ t. take_cells (cells_of p.world z) t s) m)
      (meaning.statements (put code (put (copied_code p.world shape d value) rest)) next c)) (sym one.shape_is)
      (one.placed.same m c (λ t. take_cells (cells_of p.world shape) t s) (put (copied_code p.world shape d value) rest) next
      (fits_keeping p value m c fits) (record {
        above = over goes.above (omega arith);
        go = λ m1 c1 t byte fits1' later1 kept1 temp lies leads.
            let fits1 = fits_kept p value m1 c1 fits1' in
            let has = lies.cells in
            let cells : cells_of p.world shape ≡ has.first.shape ∷ shapes_in has.others = sym has.shapes ∙ ap shapes_in has.is in
            take_all p.world p.program n (cells_of p.world shape) m1 c1.memory t s (meaning.statements (put (copied_code p.world shape d value) rest) next c1)
            fits1.agree leads.0
            (λ vs m2 held live moved.
            copy_same m c s rest next goes m2 c1 t byte vs
            (fits_on p m1 m2 c1 c1 fits1 moved.agree (moved.later (around p (suc p.frame))) refl (λ k less. refl))
            (later_on (before_value p value) m m1 m2 c.memory c1.memory c1.memory later1 (moved.later (before_value p value))) kept1 temp leads.1
            (all_shown_later nothing p.world m1 m2 c1.memory (at t) (cells_of p.world shape) vs (moved.later nothing)
            (held_shown p.world m1 c1.memory t (cells_of p.world shape) vs fits1.agree has.cells held))
            (sym (fits1.agree.live t.region) ∙ subst (λ z. IsLiveFor m1 t z) cells live));
      }))));
}
  where
    layout : Layout
    layout = layout_of p.world shape

    object : IsObject p.world.unions p.world.structs shape
    object = whole_object p.world.unions p.world.structs shape whole

    spot : core.Spot
    spot = own_spot p.own value 0

    copy_same : (m : source.Memory) (c : Config) (s : List Scalar → source.Memory → steps.Step) (rest : Statements) (next : Next)
        → WholeGoesOn p n d value m c shape s (meaning.statements rest next) → (m1 : source.Memory) (c1 : Config) (t : Spot) (byte : ℕ)
        (vs : List Scalar) → SameState p m1 c1 → Grown (before_value p value) m c.memory m1 c1.memory → AreKept d c c1 → c1.temps d ≡ Pointer (at t) byte
        → AreMade c1.memory (at t) byte layout.cells → AllShown p.world m1 c1.memory (at t) (cells_of p.world shape) vs
        → core.is_live (c1.memory.standing (at t).region) ≡ true
        → SameAt p n (s vs m1) (meaning.statements (put (copied_code p.world shape d value) rest) next c1)
    copy_same m c s rest next goes m1 c1 t byte vs fits1 later1 kept1 temp made held live =
        let here = value_made p m1 c1 value shape object fits1 numbered in
        let middle : Config = with_memory (copied layout spot (at t) c1.memory) (with_temp (d + 1) (Pointer spot 0) c1) in
        let c2 : Config = with_temp d (Pointer spot 0) middle in
        let copies = copied_later (before_value p value) m1 c1.memory layout spot (at t) (own_free p value value 0 (omega arith)) in
        let around_copies = copied_later (around p (suc p.frame)) m1 c1.memory layout spot (at t) (own_free p 0 value 0 (omega arith)) in
        let agree = agree_own_copied p.world m1 c1.memory layout p.own value 0 (at t) fits1.agree in
        let fits2 = temp_fits p m1 middle d (Pointer spot 0) (fits_on p m1 m1 c1 middle fits1 agree around_copies refl
        (kept_temp p.regions.all (d + 1) (Pointer spot 0) c1 c1 (over goes.above (omega arith)) (λ k less. refl))) goes.above in
        subst (λ z. SameAt p n (s vs m1) z)
        (sym (value_copied c1 d p.own value byte (at t) layout (meaning.statements rest next) fits1.own temp fits1.stands live
        (laid_there c1.memory spot 0 layout.cells here) (laid_there c1.memory (at t) byte layout.cells made) (apart_own t p.own value 0)))
        (goes.go m1 c2 vs fits2 (later_on (before_value p value) m m1 m1 c.memory c1.memory c2.memory later1 copies)
        (kept_temp d d (Pointer spot 0) c middle (omega arith) (kept_temp d (d + 1) (Pointer spot 0) c c1 (omega arith) kept1))
        (put_temp d (Pointer spot 0) middle)
        (whole_copied p.world m1 c1.memory spot (at t) 0 shape vs structs object here held))
