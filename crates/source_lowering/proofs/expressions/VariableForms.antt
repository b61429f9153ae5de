-- A variable by its shape: a word by one operation, a fat pointer part by part, and the name of an array.
use Rattle.std.proofs.Common.{Bool, false, ◌≡◌, ⊎_elim, inl, inr, None, ℕ, ◌+◌, ◌^◌, ◌<◌, List, [], ◌∷◌, Some, refl, sym, ap, ◌∙◌, subst, arith}
use Rattle.std.specs.Prelude.{slice_get, ◌%◌}
use Rattle.std.proofs.Math.Nat.{mod-eq_of_lt}
use Rattle.source_meaning.specs.Shapes.{
  Shape,
  IntShape,
  UnsignedShape,
  CharShape,
  VoidShape,
  ThinShape,
  FatShape,
  HandleShape,
  KeyShape,
  StructShape,
  UnionShape,
  ArrayShape,
}
use Rattle.source_meaning.specs.Memory as source
use Rattle.source_meaning.specs.Memory.{AsUnsigned, Integer, Scalar, Spot, any_moved}
use Rattle.source_meaning.specs.Steps as steps
use Rattle.source_meaning.specs.Steps.{Variable, give}
use Rattle.source_meaning.specs.Conversions.{cells_of}
use Rattle.source_meaning.specs.Places.{span_at, place_sense, entity_sense, bound_to, or_else}
use Rattle.source_meaning.specs.Programs.{heap_spot}
use Rattle.core_meaning.specs.Memory as core
use Rattle.core_meaning.specs.Memory.{Content, Word, Pointer}
use Rattle.core_meaning.specs.Core.{LocalAddress, DataAddress, Do, Move, Statement, Statements}
use Rattle.core_meaning.specs.Steps.{Config, with_temp}
use Rattle.core_meaning.specs.Meaning as meaning
use Rattle.source_lowering.specs.Members.{loads_code, bounds_code, words_in, valued}
use Rattle.source_lowering.specs.Lowered.{put, local_named, shape_by, get_local, load_global, put_local, store_global, get_by, put_by}
use Rattle.source_lowering.specs.Lowerable.{IsValueShape, IsObject, IsVariable, IsOperandShape, AreStructs}
use Rattle.source_lowering.specs.Simulation.{at, IsTakenObject, Leads, AreLed, Point, SameState, SameAt, Next, AreKept, GrownAt, AreLocals, GoesOn, GivesAs}
use Rattle.source_lowering.specs.Simulation.{within}
use Rattle.source_lowering.specs.Simulation.{LeadsAll}
use Rattle.source_lowering.proofs.memory.Keeping.{later_self}
use Rattle.source_lowering.proofs.expressions.Making.{local_spot}
use Rattle.source_lowering.proofs.values.Values.{put_temp, kept_temp, temp_fits, put_value}
use Rattle.source_lowering.proofs.expressions.Variables as variables
use Rattle.source_lowering.proofs.expressions.Variables.{Agrees, StoresAs, stuck_agrees}
use Rattle.source_lowering.proofs.memory.Moving.{taking}
use Rattle.source_lowering.proofs.Runs.{stuck_same}
use Rattle.source_lowering.proofs.values.Integers.{value_taken, object_value, object_target}
use Rattle.source_lowering.proofs.memory.Members.{lies_here}
use Rattle.source_lowering.proofs.expressions.Names.{AreObjectNames, AreGlobals, FoundLocal, MissingLocal, find_local, FoundGlobal, find_global}
use Rattle.source_lowering.proofs.expressions.Places.{LocalVariable, GlobalVariable, addressed, local_placed, global_placed}
use Rattle.source_lowering.proofs.expressions.Reaching.{placed_reached}
use Rattle.source_lowering.proofs.expressions.ValuePlaces.{value_read, value_stored}
use Rattle.source_lowering.proofs.expressions.Elements.{these_three}
use Rattle.source_lowering.proofs.values.Widening.{bounded, bounded_three, bounded_fits, bounded_kept}

-- ---- a local

-- where its name says
abbrev pub LocalLed : Point → Shape → (frame index : ℕ) → Type 0
LocalLed p shape frame index =
    (m : source.Memory) (c : core.Memory) → AreLed p.world m c p.locals → Leads p.world m c shape (local_spot frame index) 0

pub local_read : (p : Point) (n d out index frame : ℕ) (shape : Shape) (b : Bool) → IsValueShape shape → IsTakenObject p.world shape
    → slice_get (p.frame ∷ p.outer) out ≡ Some frame → LocalLed p shape frame index
    → GivesAs p n d shape (taking b (cells_of p.world shape) (local_spot frame index)) (get_local shape d out index)
local_read p n d out index frame IntShape b h lies block led = variables.get_local p n d out index frame IntShape b tt block led
local_read p n d out index frame UnsignedShape b h lies block led = variables.get_local p n d out index frame UnsignedShape b tt block led
local_read p n d out index frame CharShape b h lies block led = variables.get_local p n d out index frame CharShape b tt block led
local_read p n d out index frame VoidShape b h lies block led = absurd h
local_read p n d out index frame (ThinShape q owner to) b h lies block led = variables.get_local p n d out index frame (ThinShape q owner to) b h block led
local_read p n d out index frame (FatShape to) b h lies block led =
    value_read p n d 0 0 (FatShape to) (give (local_spot frame index)) (Do (LocalAddress d out index) ∷ []) b h
    (placed_reached p n d (FatShape to) (give (local_spot frame index)) (Do (LocalAddress d out index) ∷ [])
    (local_placed p n d out index frame (FatShape to) lies block led))
local_read p n d out index frame HandleShape b h lies block led = variables.get_local p n d out index frame HandleShape b tt block led
local_read p n d out index frame KeyShape b h lies block led = variables.get_local p n d out index frame KeyShape b tt block led
local_read p n d out index frame (StructShape tag) b h lies block led = absurd h
local_read p n d out index frame (UnionShape tag) b h lies block led = absurd h
local_read p n d out index frame (ArrayShape count of) b h lies block led = absurd h

pub local_stored : (p : Point) (n d out index frame : ℕ) (shape : Shape) → IsValueShape shape → IsTakenObject p.world shape
    → slice_get (p.frame ∷ p.outer) out ≡ Some frame → LocalLed p shape frame index
    → StoresAs p n d shape (give (local_spot frame index)) (put_local shape d out index)
local_stored p n d out index frame IntShape h lies block led = variables.put_local p n d out index frame IntShape tt block led
local_stored p n d out index frame UnsignedShape h lies block led = variables.put_local p n d out index frame UnsignedShape tt block led
local_stored p n d out index frame CharShape h lies block led = variables.put_local p n d out index frame CharShape tt block led
local_stored p n d out index frame VoidShape h lies block led = absurd h
local_stored p n d out index frame (ThinShape b owner to) h lies block led = variables.put_local p n d out index frame (ThinShape b owner to) h block led
local_stored p n d out index frame (FatShape to) h lies block led =
    value_stored p n d 0 0 (FatShape to) (give (local_spot frame index)) (Do (LocalAddress (d + 3) out index) ∷ []) h
    (placed_reached p n (d + 3) (FatShape to) (give (local_spot frame index)) (Do (LocalAddress (d + 3) out index) ∷ [])
    (local_placed p n (d + 3) out index frame (FatShape to) lies block led))
local_stored p n d out index frame HandleShape h lies block led = variables.put_local p n d out index frame HandleShape tt block led
local_stored p n d out index frame KeyShape h lies block led = variables.put_local p n d out index frame KeyShape tt block led
local_stored p n d out index frame (StructShape tag) h lies block led = absurd h
local_stored p n d out index frame (UnionShape tag) h lies block led = absurd h
local_stored p n d out index frame (ArrayShape count of) h lies block led = absurd h

-- ---- a global

abbrev pub GlobalLed : Point → Shape → ℕ → Type 0
GlobalLed p shape number = (m : source.Memory) (c : core.Memory) → AreLed p.world m c p.world.globals → Leads p.world m c shape (heap_spot number) 0

global_parts : (p : Point) (n d number : ℕ) (shape : Shape) (b : Bool) → IsValueShape shape → IsTakenObject p.world shape → GlobalLed p shape number
    → GivesAs p n d shape (taking b (cells_of p.world shape) (heap_spot number)) (Do (DataAddress d number) ∷ loads_code shape d 0 0)
global_parts p n d number shape b h lies led =
    value_read p n d 0 0 shape (give (heap_spot number)) (Do (DataAddress d number) ∷ []) b h
    (placed_reached p n d shape (give (heap_spot number)) (Do (DataAddress d number) ∷ []) (global_placed p n d number shape lies led))

pub global_read : (p : Point) (n d number : ℕ) (shape : Shape) (b : Bool) → IsValueShape shape → IsTakenObject p.world shape → GlobalLed p shape number
    → GivesAs p n d shape (taking b (cells_of p.world shape) (heap_spot number)) (load_global shape d number)
global_read p n d number IntShape b h lies led = global_parts p n d number IntShape b h lies led
global_read p n d number UnsignedShape b h lies led = global_parts p n d number UnsignedShape b h lies led
global_read p n d number CharShape b h lies led = global_parts p n d number CharShape b h lies led
global_read p n d number VoidShape b h lies led = absurd h
global_read p n d number (ThinShape q owner to) b h lies led = global_parts p n d number (ThinShape q owner to) b h lies led
global_read p n d number (FatShape to) b h lies led = global_parts p n d number (FatShape to) b h lies led
global_read p n d number HandleShape b h lies led = global_parts p n d number HandleShape b h lies led
global_read p n d number KeyShape b h lies led = global_parts p n d number KeyShape b h lies led
global_read p n d number (StructShape tag) b h lies led = absurd h
global_read p n d number (UnionShape tag) b h lies led = absurd h
global_read p n d number (ArrayShape count of) b h lies led = absurd h

pub global_stored : (p : Point) (n d number : ℕ) (shape : Shape) → IsValueShape shape → IsTakenObject p.world shape → GlobalLed p shape number
    → StoresAs p n d shape (give (heap_spot number)) (store_global shape d number)
global_stored p n d number shape h lies led =
    value_stored p n d 0 0 shape (give (heap_spot number)) (Do (DataAddress (d + words_in shape) number) ∷ []) h
    (placed_reached p n (d + words_in shape) shape (give (heap_spot number)) (Do (DataAddress (d + words_in shape) number) ∷ [])
    (global_placed p n (d + words_in shape) number shape lies led))

-- ---- the name of an array

-- a fat pointer to its first element is in the temporaries, behind a pointer that is there
array_given : (p : Point) (n d count : ℕ) (of : Shape) (spot : Spot) (m0 : source.Memory) (c0 : Config) (m : source.Memory) (c : Config)
    (s : List Scalar → source.Memory → steps.Step) (rest : Statements) (next : Next) → count < 2 ^ 32 → IsTakenObject p.world of → SameState p m c
    → GrownAt p m0 c0 m c → AreKept d c0 c → c.temps d ≡ Pointer (at spot) 0 → LeadsAll p.world m c.memory of count spot 0
    → GoesOn p n d m0 c0 (FatShape of) s (meaning.statements rest next)
    → SameAt p n (s (span_at count spot ∷ []) m) (meaning.statements (put (bounds_code d count) rest) next c)
array_given p n d count of spot m0 c0 m c s rest next few lies fits later kept temp leads goes =
    let same : count % 2 ^ 32 ≡ count = mod-eq_of_lt few in
    subst (λ z. SameAt p n (s (span_at count spot ∷ []) m) (meaning.statements rest next (bounded c d z))) (sym same)
    (goes.go m (bounded c d count) (span_at count spot ∷ []) (bounded_fits p m c d count fits goes.above) later (bounded_kept c0 c d count kept) (inl (record {
      value = span_at count spot;
      alone = refl;
      shown = inr (record {
        span = record { first = spot; count = count; index = 0 };
        byte = 0;
        value = refl;
        shown = these_three (bounded c d count) d of (Pointer (at spot) 0) (Word count) (Word 0) (bounded_three c d count (Pointer (at spot) 0) temp);
        small = omega arith;
        few = few;
        lies = lies;
        leads = leads;
      });
    })))

pub array_local : (p : Point) (n d out index frame count : ℕ) (of : Shape) → count < 2 ^ 32 → IsTakenObject p.world of
    → slice_get (p.frame ∷ p.outer) out ≡ Some frame
    → ((m : source.Memory) (c : core.Memory) → AreLed p.world m c p.locals → LeadsAll p.world m c of count (local_spot frame index) 0)
    → GivesAs p n d (FatShape of) (give (span_at count (local_spot frame index) ∷ [])) (get_local (ArrayShape count of) d out index)
array_local p n d out index frame count of few lies block led = record {
  same = λ m c s rest next fits goes.
      let spot : Spot = local_spot frame index in
      let x : Content = Pointer (at spot) 0 in
      let here : Config = with_temp d x c in
      subst (λ z. SameAt p n (s (span_at count spot ∷ []) m) z)
      (sym (addressed c d out index frame (meaning.statements (put (bounds_code d count) rest) next) (ap (λ z. slice_get z out) fits.blocks ∙ block)))
      (array_given p n d count of spot m c m here s rest next few lies (temp_fits p m c d x fits goes.above) (later_self (within p) m c.memory)
      (kept_temp d d x c c (omega arith) (λ k h. refl)) (put_temp d x c) (led m c.memory fits.locals) goes);
}

-- that of an object of the data
pub array_pointed : (p : Point) (n d number count : ℕ) (of : Shape) (m : source.Memory) (c : Config) (s : List Scalar → source.Memory → steps.Step)
    (rest : Statements) (next : Next) → count < 2 ^ 32 → IsTakenObject p.world of → SameState p m c → LeadsAll p.world m c.memory of count (heap_spot number) 0
    → GoesOn p n d m c (FatShape of) s (meaning.statements rest next)
    → SameAt p n (s (span_at count (heap_spot number) ∷ []) m) (meaning.statements (put (load_global (ArrayShape count of) d number) rest) next c)
array_pointed p n d number count of m c s rest next few lies fits leads goes =
    let spot : Spot = heap_spot number in
    let x : Content = Pointer (at spot) 0 in
    let here : Config = with_temp d x c in
    array_given p n d count of spot m c m here s rest next few lies (temp_fits p m c d x fits goes.above) (later_self (within p) m c.memory)
    (kept_temp d d x c c (omega arith) (λ k h. refl)) (put_temp d x c) leads goes

pub array_global : (p : Point) (n d number count : ℕ) (of : Shape) → count < 2 ^ 32 → IsTakenObject p.world of
    → ((m : source.Memory) (c : core.Memory) → AreLed p.world m c p.world.globals → LeadsAll p.world m c of count (heap_spot number) 0)
    → GivesAs p n d (FatShape of) (give (span_at count (heap_spot number) ∷ [])) (load_global (ArrayShape count of) d number)
array_global p n d number count of few lies led = record {
  same = λ m c s rest next fits goes.
      array_pointed p n d number count of m c s rest next few lies fits (led m c.memory fits.statics.globals) goes;
}

-- ---- a name's value

-- a variable's place, looked at and given away
place_value : (p : Point) (n d : ℕ) (shape : Shape) (spot : Spot) (code : List Statement) → IsValueShape shape
    → ((b : Bool) → GivesAs p n d shape (taking b (cells_of p.world shape) spot) code) → Agrees p n d (place_sense p.world shape (give spot)) shape code
place_value p n d shape spot code is_value gives = record {
  shape_is = refl;
  taken = value_taken shape is_value;
  looks = gives false;
  values = gives (any_moved (cells_of p.world shape));
}

-- the name of an array is a fat pointer to its first element
array_value : (p : Point) (n d count : ℕ) (of : Shape) (spot : Spot) (code : List Statement) → IsObject p.world.unions p.world.structs of
    → GivesAs p n d (FatShape of) (give (span_at count spot ∷ [])) code
    → Agrees p n d (entity_sense p.world (Some (Variable (ArrayShape count of) spot))) (FatShape of) code
array_value p n d count of spot code object gives =
    record { shape_is = refl; taken = object_target p.world.unions p.world.structs of object; looks = gives; values = gives }

local_agrees : (p : Point) (n d out index frame : ℕ) (shape : Shape) → AreStructs p.world.unions p.world.structs
    → IsVariable p.world.unions p.world.structs shape
    → IsOperandShape (valued shape) → slice_get (p.frame ∷ p.outer) out ≡ Some frame → LocalVariable p shape frame index
    → Agrees p n d (entity_sense p.world (Some (Variable shape (local_spot frame index)))) (valued shape) (get_local shape d out index)
local_agrees p n d out index frame (ArrayShape count of) structs h single block led =
    array_value p n d count of (local_spot frame index) (get_local (ArrayShape count of) d out index) h.1
    (array_local p n d out index frame count of h.0 (lies_here p.world of structs h.1) block led)
local_agrees p n d out index frame s structs h single block led =
    let value : IsValueShape s = object_value p.world.unions p.world.structs s h single in
    place_value p n d s (local_spot frame index) (get_local s d out index) value
    (λ b. local_read p n d out index frame s b value (lies_here p.world s structs h) block led)

global_agrees : (p : Point) (n d number : ℕ) (shape : Shape) → AreStructs p.world.unions p.world.structs → IsVariable p.world.unions p.world.structs shape
    → IsOperandShape (valued shape) → GlobalVariable p shape number
    → Agrees p n d (entity_sense p.world (Some (Variable shape (heap_spot number)))) (valued shape) (load_global shape d number)
global_agrees p n d number (ArrayShape count of) structs h single led =
    array_value p n d count of (heap_spot number) (load_global (ArrayShape count of) d number) h.1
    (array_global p n d number count of h.0 (lies_here p.world of structs h.1) led)
global_agrees p n d number s structs h single led =
    let value : IsValueShape s = object_value p.world.unions p.world.structs s h single in
    place_value p n d s (heap_spot number) (load_global s d number) value
    (λ b. global_read p n d number s b value (lies_here p.world s structs h) led)

-- lowering knows a name's shape
local_single : (p : Point) {name : List ℕ} (f : FoundLocal p.world.unions p.world.structs (p.frame ∷ p.outer) p.locals p.names name)
    → IsOperandShape (valued (shape_by (local_named p.names name) (bound_to p.world.globals name))) → IsOperandShape (valued f.shape)
local_single p {name} f single = subst (λ z. IsOperandShape (valued (shape_by z (bound_to p.world.globals name)))) f.found single

global_single : (p : Point) {name : List ℕ} → local_named p.names name ≡ None → (g : FoundGlobal p.world.unions p.world.structs p.world.globals name)
    → IsOperandShape (valued (shape_by (local_named p.names name) (bound_to p.world.globals name))) → IsOperandShape (valued g.shape)
global_single p {name} none g single =
    subst (λ z. IsOperandShape (valued (shape_by None z))) g.bound
    (subst (λ z. IsOperandShape (valued (shape_by z (bound_to p.world.globals name)))) none single)

pub variable_agrees : (p : Point) (n d : ℕ) (name : List ℕ) → AreLocals (p.frame ∷ p.outer) p.locals p.names
    → AreObjectNames p.world.unions p.world.structs p.names
    → AreGlobals p.world.unions p.world.structs p.world.globals → AreStructs p.world.unions p.world.structs
    → IsOperandShape (valued (shape_by (local_named p.names name) (bound_to p.world.globals name)))
    → Agrees p n d (entity_sense p.world (or_else (bound_to p.locals name) (bound_to p.world.globals name))) (valued (shape_by (local_named p.names name)
    (bound_to p.world.globals name))) (get_by (local_named p.names name) (bound_to p.world.globals name) d)
variable_agrees p n d name locals objects globals structs single =
    ⊎_elim here missing (find_local p.world.unions p.world.structs (p.frame ∷ p.outer) p.locals p.names name locals objects)
  where
    here : FoundLocal p.world.unions p.world.structs (p.frame ∷ p.outer) p.locals p.names name
        → Agrees p n d (entity_sense p.world (or_else (bound_to p.locals name)
        (bound_to p.world.globals name))) (valued (shape_by (local_named p.names name) (bound_to p.world.globals name)))
        (get_by (local_named p.names name) (bound_to p.world.globals name) d)
    here f = rw (f.bound, f.found)
        (local_agrees p n d f.out f.index f.frame f.shape structs f.is_variable (local_single p f single) f.in_block (f.led p.world))

    missing : MissingLocal p.locals p.names name → Agrees p n d (entity_sense p.world (or_else (bound_to p.locals name) (bound_to p.world.globals name)))
        (valued (shape_by (local_named p.names name) (bound_to p.world.globals name))) (get_by (local_named p.names name) (bound_to p.world.globals name) d)
    missing f = rw (f.bound, f.found)
        (⊎_elim
        (λ (g : FoundGlobal p.world.unions p.world.structs p.world.globals name).
        rw g.bound (global_agrees p n d g.number g.shape structs g.is_variable (global_single p f.found g single) (g.led p.world)))
        (λ (g : bound_to p.world.globals name ≡ None). rw g (stuck_agrees p n d []))
        (find_global p.world.unions p.world.structs p.world.globals name globals))

-- ---- a name is assigned to

stuck_stores : (p : Point) (n d : ℕ) (shape : Shape) (code : List Statement) → StoresAs p n d shape steps.stuck code
stuck_stores p n d shape code = record { same = λ m0 c0 m c vs s rest next fits later kept given goes. stuck_same p.world p.program n _ }

-- an array isn't assigned to
local_stores : (p : Point) (n d out index frame : ℕ) (shape : Shape) → AreStructs p.world.unions p.world.structs
    → IsVariable p.world.unions p.world.structs shape
    → IsOperandShape (valued shape) → slice_get (p.frame ∷ p.outer) out ≡ Some frame → LocalVariable p shape frame index
    → StoresAs p n d (valued shape) (entity_sense p.world (Some (Variable shape (local_spot frame index)))).place (put_local shape d out index)
local_stores p n d out index frame (ArrayShape count of) structs h single block led =
    stuck_stores p n d (FatShape of) (put_local (ArrayShape count of) d out index)
local_stores p n d out index frame s structs h single block led =
    local_stored p n d out index frame s (object_value p.world.unions p.world.structs s h single) (lies_here p.world s structs h) block led

global_stores : (p : Point) (n d number : ℕ) (shape : Shape) → AreStructs p.world.unions p.world.structs → IsVariable p.world.unions p.world.structs shape
    → IsOperandShape (valued shape) → GlobalVariable p shape number
    → StoresAs p n d (valued shape) (entity_sense p.world (Some (Variable shape (heap_spot number)))).place (store_global shape d number)
global_stores p n d number (ArrayShape count of) structs h single led = stuck_stores p n d (FatShape of) (store_global (ArrayShape count of) d number)
global_stores p n d number s structs h single led =
    global_stored p n d number s (object_value p.world.unions p.world.structs s h single) (lies_here p.world s structs h) led

pub variable_stores : (p : Point) (n d : ℕ) (name : List ℕ) → AreLocals (p.frame ∷ p.outer) p.locals p.names
    → AreObjectNames p.world.unions p.world.structs p.names
    → AreGlobals p.world.unions p.world.structs p.world.globals → AreStructs p.world.unions p.world.structs
    → IsOperandShape (valued (shape_by (local_named p.names name) (bound_to p.world.globals name)))
    → StoresAs p n d (valued (shape_by (local_named p.names name) (bound_to p.world.globals name))) (entity_sense p.world
    (or_else (bound_to p.locals name) (bound_to p.world.globals name))).place (put_by (local_named p.names name) (bound_to p.world.globals name) d)
variable_stores p n d name locals objects globals structs single =
    ⊎_elim here missing (find_local p.world.unions p.world.structs (p.frame ∷ p.outer) p.locals p.names name locals objects)
  where
    here : FoundLocal p.world.unions p.world.structs (p.frame ∷ p.outer) p.locals p.names name
        → StoresAs p n d (valued (shape_by (local_named p.names name) (bound_to p.world.globals name)))
        (entity_sense p.world (or_else (bound_to p.locals name) (bound_to p.world.globals name))).place (put_by (local_named p.names name)
        (bound_to p.world.globals name) d)
    here f = rw (f.bound, f.found)
        (local_stores p n d f.out f.index f.frame f.shape structs f.is_variable (local_single p f single) f.in_block (f.led p.world))

    missing : MissingLocal p.locals p.names name → StoresAs p n d (valued (shape_by (local_named p.names name) (bound_to p.world.globals name)))
        (entity_sense p.world (or_else (bound_to p.locals name) (bound_to p.world.globals name))).place (put_by (local_named p.names name)
        (bound_to p.world.globals name) d)
    missing f = rw (f.bound, f.found)
        (⊎_elim
        (λ (g : FoundGlobal p.world.unions p.world.structs p.world.globals name).
        rw g.bound (global_stores p n d g.number g.shape structs g.is_variable (global_single p f.found g single) (g.led p.world)))
        (λ (g : bound_to p.world.globals name ≡ None). rw g (stuck_stores p n d VoidShape []))
        (find_global p.world.unions p.world.structs p.world.globals name globals))
