-- A thin pointer or a key is read by its name: where the source isn't stuck, its cell holds the value that is in the temporary then, and nothing else changes.
use Rattle.std.proofs.Common.{◌≡◌, ⊎_elim, ℕ, ◌<◌, List, [], ◌∷◌, length, Option, Some, None, refl, sym, ap, ◌∙◌, subst, true}
use Rattle.std.specs.Prelude.{slice_get}
use Rattle.source_meaning.specs.Shapes.{
  Shape,
  IntShape,
  UnsignedShape,
  CharShape,
  VoidShape,
  ThinShape,
  FatShape,
  HandleShape,
  KeyShape,
  StructShape,
  UnionShape,
  ArrayShape,
}
use Rattle.source_meaning.specs.Memory as source
use Rattle.source_meaning.specs.Memory.{Holds, Scalar, Spot, is_live}
use Rattle.source_meaning.specs.Steps as steps
use Rattle.source_meaning.specs.Steps.{Entity, Variable}
use Rattle.source_meaning.specs.Values.{read_cells}
use Rattle.source_meaning.specs.Places.{bound_to, or_else}
use Rattle.source_meaning.specs.Programs.{heap_spot}
use Rattle.core_meaning.specs.Memory.{Content, Pointer}
use Rattle.core_meaning.specs.Core.{DataAddress, Do, Get, Statement, Statements}
use Rattle.core_meaning.specs.Steps.{Config, with_temp}
use Rattle.core_meaning.specs.Meaning as meaning
use Rattle.source_lowering.specs.Members.{valued}
use Rattle.source_lowering.specs.Lowered.{put, local_named, shape_by, get_by, get_local, load_global, loads_code, width_of}
use Rattle.source_lowering.specs.Lowerable.{IsKeyShape, IsValueShape, IsVariable, IsWordShape}
use Rattle.source_lowering.specs.Simulation.{at, Point, SameState, SameAt, Shown, Next, AreLocals, contents_in}
use Rattle.source_lowering.proofs.memory.Cells.{plain_of, read_same}
use Rattle.source_lowering.proofs.memory.ValueCells.{cell_of, cell_reads}
use Rattle.source_lowering.proofs.memory.Loading.{with_contents, other_contents, contents_are, loads_does}
use Rattle.source_lowering.proofs.values.Integers.{IsMovedShape, key_moved, one_content, one_word, word_value}
use Rattle.source_lowering.proofs.values.Values.{put_temp, other_temp}
use Rattle.source_lowering.proofs.expressions.Making.{local_spot}
use Rattle.source_lowering.proofs.expressions.Names.{AreObjectNames, AreGlobals, FoundLocal, MissingLocal, find_local, FoundGlobal, find_global}
use Rattle.source_lowering.proofs.expressions.Places.{LocalVariable, GlobalVariable}
use Rattle.source_lowering.proofs.expressions.Variables.{got}
use Rattle.source_lowering.proofs.expressions.VariableForms.{LocalLed, GlobalLed}

-- a cell is read to the temporaries from one on
pub record ReadsAs (p : Point) (n d : ℕ) (shape : Shape) (spot : Spot) (code : List Statement) : Type 0 where
  pub same : (m : source.Memory) (c : Config) (s : List Scalar → source.Memory → steps.Step) (rest : Statements) (next : Next) → SameState p m c
      → ((v : Scalar) (temps : ℕ → Content) → m.cells spot ≡ Some (record { shape = shape; content = Holds v }) → is_live m spot.region ≡ true
      → ((k : ℕ) → k < d → temps k ≡ c.temps k) → Shown p.world m c.memory shape v (contents_in d shape temps)
      → SameAt p n (s (v ∷ []) m) (meaning.statements rest next (record c { temps = temps })))
      → SameAt p n (read_cells 1 spot s m) (meaning.statements (put code rest) next c)

-- ---- a local and a global

local_reads : (p : Point) (n d out index frame : ℕ) (shape : Shape) → IsWordShape shape
    → get_local shape d out index ≡ Do (Get d out index (width_of shape)) ∷ [] → slice_get (p.frame ∷ p.outer) out ≡ Some frame → LocalLed p shape frame index
    → ReadsAs p n d shape (local_spot frame index) (get_local shape d out index)
local_reads p n d out index frame shape word is_code block led = record {
  same = λ m c s rest next fits go.
      subst (λ z. SameAt p n (read_cells 1 t s m) (meaning.statements (put z rest) next c)) (sym is_code)
      (subst (λ z. SameAt p n (read_cells z t s m) (meaning.statements (put (Do (Get d out index (width_of shape)) ∷ []) rest) next c))
      (ap length (plain_of p.world shape word).cells)
      (read_same p.world p.program n shape (width_of shape) m c.memory t 0 s (meaning.statements (put (Do (Get d out index (width_of shape)) ∷ []) rest) next c)
      (plain_of p.world shape word) fits.agree (led m c.memory fits.locals)
      (λ v read.
      subst (λ z. SameAt p n (s (v ∷ []) m) z)
      (sym (got c d out index (width_of shape) frame read.content (meaning.statements rest next) (ap (λ z. slice_get z out) fits.blocks ∙ block) read.live
      read.part))
      (go v (with_temp d read.content c).temps read.holds (fits.agree.live t.region ∙ read.live) (λ k less. other_temp d k read.content c less)
      (subst (λ z. Shown p.world m c.memory shape v z) (sym (one_content shape (one_word shape word) d (with_temp d read.content c).temps))
      (subst (λ z. Shown p.world m c.memory shape v (z ∷ [])) (sym (put_temp d read.content c)) read.shown))))));
}
  where
    t : Spot
    t = local_spot frame index

global_reads : (p : Point) (n d number : ℕ) (shape : Shape) → IsWordShape shape
    → load_global shape d number ≡ Do (DataAddress d number) ∷ loads_code shape d 0 0 → GlobalLed p shape number
    → ReadsAs p n d shape (heap_spot number) (load_global shape d number)
global_reads p n d number shape word is_code led = record {
  same = λ m c s rest next fits go.
      let here : Config = with_temp d (Pointer (at t) 0) c in
      subst (λ z. SameAt p n (read_cells 1 t s m) (meaning.statements (put z rest) next c)) (sym is_code)
      (subst (λ z. SameAt p n (read_cells z t s m) (meaning.statements (put (Do (DataAddress d number) ∷ loads_code shape d 0 0) rest) next c))
      (ap length (plain_of p.world shape word).cells)
      (cell_reads p.world p.program n shape m c.memory t 0 s (meaning.statements (put (Do (DataAddress d number) ∷ loads_code shape d 0 0) rest) next c)
      (cell_of p.world shape is_value) fits.agree (led m c.memory fits.statics.globals)
      (λ v read.
      subst (λ z. SameAt p n (s (v ∷ []) m) z)
      (sym (loads_does shape is_value here d 0 0 0 (at t) read.contents rest next (put_temp d (Pointer (at t) 0) c) read.live read.parts))
      (go v (with_contents d read.contents here).temps read.holds (fits.agree.live t.region ∙ read.live)
      (λ k less. other_contents d k read.contents here less ∙ other_temp d k (Pointer (at t) 0) c less)
      (subst (λ z. Shown p.world m c.memory shape v z) (sym (contents_are shape is_value d read.contents here read.fit)) read.shown)))));
}
  where
    is_value : IsValueShape shape
    is_value = word_value shape word

    t : Spot
    t = heap_spot number

-- ---- by its name

-- what a name stands for
pub record IsPointer (p : Point) (n d : ℕ) (e : Option Entity) (shape : Shape) (code : List Statement) : Type 0 where
  pub spot : Spot
  pub is : e ≡ Some (Variable shape spot)
  pub reads : ReadsAs p n d shape spot code

local_is : (p : Point) (n d out index frame : ℕ) (shape : Shape) → IsVariable p.world.unions p.world.structs shape → IsMovedShape (valued shape)
    → slice_get (p.frame ∷ p.outer) out ≡ Some frame → LocalVariable p shape frame index
    → IsPointer p n d (Some (Variable shape (local_spot frame index))) (valued shape) (get_local shape d out index)
local_is p n d out index frame (ThinShape b o to) h thin block led =
    record { spot = local_spot frame index; is = refl; reads = local_reads p n d out index frame (ThinShape b o to) h refl block led }
local_is p n d out index frame IntShape h thin block led = absurd thin
local_is p n d out index frame UnsignedShape h thin block led = absurd thin
local_is p n d out index frame CharShape h thin block led = absurd thin
local_is p n d out index frame VoidShape h thin block led = absurd thin
local_is p n d out index frame (FatShape to) h thin block led = absurd thin
local_is p n d out index frame HandleShape h thin block led = absurd thin
local_is p n d out index frame KeyShape h thin block led =
    record { spot = local_spot frame index; is = refl; reads = local_reads p n d out index frame KeyShape tt refl block led }
local_is p n d out index frame (StructShape tag) h thin block led = absurd thin
local_is p n d out index frame (UnionShape tag) h thin block led = absurd thin
local_is p n d out index frame (ArrayShape count of) h thin block led = absurd thin

global_is : (p : Point) (n d number : ℕ) (shape : Shape) → IsVariable p.world.unions p.world.structs shape → IsMovedShape (valued shape)
    → GlobalVariable p shape number → IsPointer p n d (Some (Variable shape (heap_spot number))) (valued shape) (load_global shape d number)
global_is p n d number (ThinShape b o to) h thin led =
    record { spot = heap_spot number; is = refl; reads = global_reads p n d number (ThinShape b o to) h refl led }
global_is p n d number IntShape h thin led = absurd thin
global_is p n d number UnsignedShape h thin led = absurd thin
global_is p n d number CharShape h thin led = absurd thin
global_is p n d number VoidShape h thin led = absurd thin
global_is p n d number (FatShape to) h thin led = absurd thin
global_is p n d number HandleShape h thin led = absurd thin
global_is p n d number KeyShape h thin led = record { spot = heap_spot number; is = refl; reads = global_reads p n d number KeyShape tt refl led }
global_is p n d number (StructShape tag) h thin led = absurd thin
global_is p n d number (UnionShape tag) h thin led = absurd thin
global_is p n d number (ArrayShape count of) h thin led = absurd thin

pub pointer_named : (p : Point) (n d : ℕ) (name : List ℕ) → AreLocals (p.frame ∷ p.outer) p.locals p.names
    → AreObjectNames p.world.unions p.world.structs p.names → AreGlobals p.world.unions p.world.structs p.world.globals
    → IsMovedShape (valued (shape_by (local_named p.names name) (bound_to p.world.globals name)))
    → IsPointer p n d (or_else (bound_to p.locals name) (bound_to p.world.globals name))
    (valued (shape_by (local_named p.names name) (bound_to p.world.globals name))) (get_by (local_named p.names name) (bound_to p.world.globals name) d)
pointer_named p n d name locals objects globals thin =
    ⊎_elim here missing (find_local p.world.unions p.world.structs (p.frame ∷ p.outer) p.locals p.names name locals objects)
  where
    Goal : Type 0
    Goal = IsPointer p n d (or_else (bound_to p.locals name) (bound_to p.world.globals name))
        (valued (shape_by (local_named p.names name) (bound_to p.world.globals name))) (get_by (local_named p.names name) (bound_to p.world.globals name) d)

    here : FoundLocal p.world.unions p.world.structs (p.frame ∷ p.outer) p.locals p.names name → Goal
    here f = rw (f.bound, f.found)
        (local_is p n d f.out f.index f.frame f.shape f.is_variable
        (subst (λ z. IsMovedShape (valued (shape_by z (bound_to p.world.globals name)))) f.found thin) f.in_block (f.led p.world))

    missing : MissingLocal p.locals p.names name → Goal
    missing f =
        let outside : IsMovedShape (valued (shape_by None (bound_to p.world.globals name))) =
        subst (λ z. IsMovedShape (valued (shape_by z (bound_to p.world.globals name)))) f.found thin in
        ⊎_elim
        (λ (g : FoundGlobal p.world.unions p.world.structs p.world.globals name).
        rw (f.bound, f.found, g.bound)
        (global_is p n d g.number g.shape g.is_variable (subst (λ z. IsMovedShape (valued (shape_by None z))) g.bound outside) (g.led p.world)))
        (λ (g : bound_to p.world.globals name ≡ None). absurd (subst (λ z. IsMovedShape (valued (shape_by None z))) g outside))
        (find_global p.world.unions p.world.structs p.world.globals name globals)

-- a key by its name
pub key_named : (p : Point) (n d : ℕ) (name : List ℕ) → AreLocals (p.frame ∷ p.outer) p.locals p.names
    → AreObjectNames p.world.unions p.world.structs p.names → AreGlobals p.world.unions p.world.structs p.world.globals
    → IsKeyShape (valued (shape_by (local_named p.names name) (bound_to p.world.globals name)))
    → IsPointer p n d (or_else (bound_to p.locals name) (bound_to p.world.globals name)) KeyShape
    (get_by (local_named p.names name) (bound_to p.world.globals name) d)
key_named p n d name locals objects globals h =
    subst (λ z. IsPointer p n d (or_else (bound_to p.locals name) (bound_to p.world.globals name)) z
    (get_by (local_named p.names name) (bound_to p.world.globals name) d)) (only s h) (pointer_named p n d name locals objects globals (key_moved s h))
  where
    s : Shape
    s = valued (shape_by (local_named p.names name) (bound_to p.world.globals name))

    only : (of : Shape) → IsKeyShape of → of ≡ KeyShape
    only KeyShape g = refl
    only _ g = absurd g
