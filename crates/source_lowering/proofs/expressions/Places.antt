-- Places and the pointers to them: a variable, `*e`, what is read and stored there, and `&e`.
use Rattle.std.proofs.Common.{◌≡◌, ℕ, ◌+◌, inl, inr, ⊎_elim, List, [], ◌∷◌, ◌++◌, length, true, Some, None, refl, sym, ap, ◌∙◌, subst, arith, ◌≤◌}
use Rattle.std.specs.Prelude.{slice_get}
use Rattle.step_trees.specs.Trees.{Stops}
use Rattle.std.proofs.lemmas.Bool.{false≢true}
use Rattle.cyc_words.specs.declared.faults.Kind.TheVariants.{NullException}
use Rattle.cyc_words.specs.Events.{SourceEnding}
use Rattle.source_lowering.proofs.memory.LayoutsKept.{one_led}
use Rattle.source_meaning.specs.Shapes.{Reach, MayBeNull, NeverNull, may_be_null}
use Rattle.source_meaning.specs.Shapes.{
  Owner,
  Shared,
  Shape,
  IntShape,
  UnsignedShape,
  CharShape,
  VoidShape,
  ThinShape,
  FatShape,
  HandleShape,
  KeyShape,
  StructShape,
  UnionShape,
  ArrayShape,
  pointee,
}
use Rattle.source_meaning.specs.Memory as source
use Rattle.source_meaning.specs.Memory.{Scalar, Thin, Spot}
use Rattle.source_meaning.specs.Steps as steps
use Rattle.source_meaning.specs.Steps.{Variable, give, ◌>>=◌}
use Rattle.source_meaning.specs.Conversions.{cells_of, one, accessed}
use Rattle.source_meaning.specs.Values.{read_cells, take_cells}
use Rattle.source_meaning.specs.Places.{Sense, value_sense, entity_sense, bound_to, or_else}
use Rattle.source_meaning.specs.Programs.{heap_spot}
use Rattle.core_meaning.specs.Memory as core
use Rattle.core_meaning.specs.Memory.{Word, Null, Pointer}
use Rattle.core_meaning.specs.Core.{Statement, Do, NullPointer, LocalAddress, DataAddress, Statements}
use Rattle.core_meaning.specs.Steps as core_steps
use Rattle.core_meaning.specs.Steps.{Config, with_temp}
use Rattle.core_meaning.specs.Meaning as meaning
use Rattle.core_meaning.specs.Operations.{does}
use Rattle.source_lowering.specs.Lowered.{local_named, shape_by, put, address_by, check_code, reach_code}
use Rattle.source_lowering.specs.Members.{valued}
use Rattle.source_lowering.specs.Lowerable.{IsVariable, IsWholeShape, AreStructs}
use Rattle.source_lowering.specs.Simulation.{at, IsTakenObject, Leads, VariableLeads, AreLed, Point, SameState, SameAt, Next, AreKept, GrownAt, GivesAs}
use Rattle.source_lowering.specs.Simulation.{AreLocals}
use Rattle.source_lowering.specs.Simulation.{within}
use Rattle.source_lowering.proofs.memory.Keeping.{later_self}
use Rattle.source_lowering.proofs.Runs.{stuck_same, stops_same, put_all}
use Rattle.source_lowering.proofs.values.Integers.{IsTaken, IsTarget, object_target}
use Rattle.source_lowering.proofs.values.AnyValues.{one_same, thin_same}
use Rattle.source_lowering.proofs.memory.Members.{lies_here}
use Rattle.source_lowering.proofs.expressions.Making.{local_spot}
use Rattle.source_lowering.proofs.values.Values.{put_temp, kept_temp, temp_fits, put_value, over}
use Rattle.source_lowering.proofs.expressions.Elements.{element_same}
use Rattle.source_lowering.proofs.expressions.Names.{AreObjectNames, AreGlobals, FoundLocal, MissingLocal, find_local, FoundGlobal, find_global}
use Rattle.source_lowering.proofs.expressions.Variables.{Agrees}

-- ---- forms

-- a pointer to a place is in a temporary, and those below it are as they were
pub record PlaceGoesOn (p : Point) (n d : ℕ) (m0 : source.Memory) (c0 : Config) (shape : Shape) (s : Spot → source.Memory → steps.Step)
    (k : Config → core_steps.Step) : Type 0 where
  pub above : p.regions.all ≤ d
  pub go : (m : source.Memory) (c : Config) (t : Spot) (byte : ℕ) → SameState p m c → GrownAt p m0 c0 m c → AreKept d c0 c → c.temps d ≡ Pointer (at t) byte
      → IsTakenObject p.world shape → Leads p.world m c.memory shape t byte → SameAt p n (s t m) (k c)

-- an act gives the place to which its code leaves a pointer in a temporary
pub record PlacedAs (p : Point) (n d : ℕ) (shape : Shape) (act : steps.Act Spot) (code : List Statement) : Type 0 where
  pub same : (m : source.Memory) (c : Config) (s : Spot → source.Memory → steps.Step) (rest : Statements) (next : Next) → SameState p m c
      → PlaceGoesOn p n d m c shape s (meaning.statements rest next) → SameAt p n (act s m) (meaning.statements (put code rest) next c)

-- what has a pointer to it
pub record IsPlaced (p : Point) (n d : ℕ) (e : Sense) (shape : Shape) (code : List Statement) : Type 0 where
  pub shape_is : e.shape ≡ shape
  pub target : IsTarget shape
  pub placed : PlacedAs p n d shape e.place code
  -- the value of a struct or a union is read there, and looked at
  pub value : IsWholeShape p.world.unions p.world.structs shape → (s : List Scalar → source.Memory → steps.Step) (m : source.Memory)
      → e.value s m ≡ e.place (λ t. take_cells (cells_of p.world e.shape) t s) m
  pub look : IsWholeShape p.world.unions p.world.structs shape → (s : List Scalar → source.Memory → steps.Step) (m : source.Memory)
      → e.look s m ≡ e.place (λ t. read_cells (length (cells_of p.world e.shape)) t s) m

-- ---- variables

-- a pointer is put into its temporary
pointer_put : (p : Point) (n d : ℕ) (m : source.Memory) (c : Config) (shape : Shape) (t : Spot) (s : Spot → source.Memory → steps.Step)
    (k : Config → core_steps.Step) → SameState p m c → IsTakenObject p.world shape → Leads p.world m c.memory shape t 0 → PlaceGoesOn p n d m c shape s k
    → SameAt p n (s t m) (k (with_temp d (Pointer (at t) 0) c))
pointer_put p n d m c shape t s k fits word leads goes =
    goes.go m (with_temp d (Pointer (at t) 0) c) t 0 (temp_fits p m c d (Pointer (at t) 0) fits goes.above) (later_self (within p) m c.memory)
    (kept_temp d d (Pointer (at t) 0) c c (omega arith) (λ k h. refl)) (put_temp d (Pointer (at t) 0) c) word leads

pub addressed : (c : Config) (d out index frame : ℕ) (next : Config → core_steps.Step) → slice_get c.blocks out ≡ Some frame
    → does (LocalAddress d out index) next c ≡ next (with_temp d (Pointer (at (local_spot frame index)) 0) c)
addressed c d out index frame next block = rw block refl

pub local_placed : (p : Point) (n d out index frame : ℕ) (shape : Shape) → IsTakenObject p.world shape → slice_get (p.frame ∷ p.outer) out ≡ Some frame
    → ((m : source.Memory) (c : core.Memory) → AreLed p.world m c p.locals → Leads p.world m c shape (local_spot frame index) 0)
    → PlacedAs p n d shape (give (local_spot frame index)) (Do (LocalAddress d out index) ∷ [])
local_placed p n d out index frame shape word block led = record {
  same = λ m c s rest next fits goes.
      subst (λ z. SameAt p n (s (local_spot frame index) m) z)
      (sym (addressed c d out index frame (meaning.statements rest next) (ap (λ z. slice_get z out) fits.blocks ∙ block)))
      (pointer_put p n d m c shape (local_spot frame index) s (meaning.statements rest next) fits word (led m c.memory fits.locals) goes);
}

pub global_placed : (p : Point) (n d number : ℕ) (shape : Shape) → IsTakenObject p.world shape
    → ((m : source.Memory) (c : core.Memory) → AreLed p.world m c p.world.globals
    → Leads p.world m c shape (heap_spot number) 0) → PlacedAs p n d shape (give (heap_spot number)) (Do (DataAddress d number) ∷ [])
global_placed p n d number shape word led = record {
  same = λ m c s rest next fits goes.
      pointer_put p n d m c shape (heap_spot number) s (meaning.statements rest next) fits word (led m c.memory fits.statics.globals) goes;
}

-- what is stuck has no place
stuck_placed : (p : Point) (n d : ℕ) (shape : Shape) (code : List Statement) → PlacedAs p n d shape steps.stuck code
stuck_placed p n d shape code = record { same = λ m c s rest next fits goes. stuck_same p.world p.program n _ }

-- where a variable says that it lies
abbrev pub LocalVariable : Point → Shape → (frame index : ℕ) → Type 0
LocalVariable p shape frame index =
    (m : source.Memory) (c : core.Memory) → AreLed p.world m c p.locals → VariableLeads p.world m c shape (local_spot frame index)

abbrev pub GlobalVariable : Point → Shape → ℕ → Type 0
GlobalVariable p shape number =
    (m : source.Memory) (c : core.Memory) → AreLed p.world m c p.world.globals → VariableLeads p.world m c shape (heap_spot number)

-- the name of an array is a value, and no place
local_variable : (p : Point) (n d out index frame : ℕ) (shape : Shape) → AreStructs p.world.unions p.world.structs
    → IsVariable p.world.unions p.world.structs shape
    → slice_get (p.frame ∷ p.outer) out ≡ Some frame → LocalVariable p shape frame index
    → IsPlaced p n d (entity_sense p.world (Some (Variable shape (local_spot frame index)))) (valued shape) (Do (LocalAddress d out index) ∷ [])
local_variable p n d out index frame (ArrayShape count of) structs h block led = record {
  shape_is = refl;
  target = object_target p.world.unions p.world.structs of h.1;
  placed = stuck_placed p n d (FatShape of) (Do (LocalAddress d out index) ∷ []);
  value = λ whole s m. absurd whole;
  look = λ whole s m. absurd whole;
}
local_variable p n d out index frame shape structs h block led = record {
  shape_is = refl;
  target = object_target p.world.unions p.world.structs shape h;
  placed = local_placed p n d out index frame shape (lies_here p.world shape structs h) block led;
  value = λ whole s m. refl;
  look = λ whole s m. refl;
}

global_variable : (p : Point) (n d number : ℕ) (shape : Shape) → AreStructs p.world.unions p.world.structs → IsVariable p.world.unions p.world.structs shape
    → GlobalVariable p shape number
    → IsPlaced p n d (entity_sense p.world (Some (Variable shape (heap_spot number)))) (valued shape) (Do (DataAddress d number) ∷ [])
global_variable p n d number (ArrayShape count of) structs h led = record {
  shape_is = refl;
  target = object_target p.world.unions p.world.structs of h.1;
  placed = stuck_placed p n d (FatShape of) (Do (DataAddress d number) ∷ []);
  value = λ whole s m. absurd whole;
  look = λ whole s m. absurd whole;
}
global_variable p n d number shape structs h led = record {
  shape_is = refl;
  target = object_target p.world.unions p.world.structs shape h;
  placed = global_placed p n d number shape (lies_here p.world shape structs h) led;
  value = λ whole s m. refl;
  look = λ whole s m. refl;
}

pub variable_placed : (p : Point) (n d : ℕ) (name : List ℕ) → AreLocals (p.frame ∷ p.outer) p.locals p.names
    → AreObjectNames p.world.unions p.world.structs p.names
    → AreGlobals p.world.unions p.world.structs p.world.globals → AreStructs p.world.unions p.world.structs
    → IsPlaced p n d (entity_sense p.world (or_else (bound_to p.locals name) (bound_to p.world.globals name))) (valued (shape_by (local_named p.names name)
    (bound_to p.world.globals name))) (address_by (local_named p.names name) (bound_to p.world.globals name) d)
variable_placed p n d name locals words globals structs =
    ⊎_elim here missing (find_local p.world.unions p.world.structs (p.frame ∷ p.outer) p.locals p.names name locals words)
  where
    here : FoundLocal p.world.unions p.world.structs (p.frame ∷ p.outer) p.locals p.names name → IsPlaced p n d (entity_sense p.world
        (or_else (bound_to p.locals name) (bound_to p.world.globals name))) (valued (shape_by (local_named p.names name) (bound_to p.world.globals name)))
        (address_by (local_named p.names name) (bound_to p.world.globals name) d)
    here f = rw (f.bound, f.found)
        (local_variable p n d f.out f.index f.frame f.shape structs f.is_variable f.in_block (f.led p.world))

    missing : MissingLocal p.locals p.names name → IsPlaced p n d (entity_sense p.world
        (or_else (bound_to p.locals name) (bound_to p.world.globals name))) (valued (shape_by (local_named p.names name) (bound_to p.world.globals name)))
        (address_by (local_named p.names name) (bound_to p.world.globals name) d)
    missing f = rw (f.bound, f.found)
        (⊎_elim
        (λ (g : FoundGlobal p.world.unions p.world.structs p.world.globals name).
        rw g.bound (global_variable p n d g.number g.shape structs g.is_variable (g.led p.world)))
        (λ (g : bound_to p.world.globals name ≡ None).
        rw g (record {
          shape_is = refl;
          target = tt;
          placed = stuck_placed p n d VoidShape [];
          value = λ whole s m. absurd whole;
          look = λ whole s m. absurd whole;
        }))
        (find_global p.world.unions p.world.structs p.world.globals name globals))

-- ---- `*e`

-- NULL raises where a pointer may be it
pub null_raises : (p : Point) (n d : ℕ) (b : Reach) (q : Owner) (to : Shape) (c : Config) (rest : Statements) (next : Next) → may_be_null b ≡ true
    → c.temps d ≡ Null
    → SameAt p n (Stops (SourceEnding.Raised NullException)) (meaning.statements (put (check_code (ThinShape b q to) d) rest)
    next c)
null_raises p n d (MayBeNull count) q to c rest next allowed null = rw null (stops_same p.world p.program n (SourceEnding.Raised NullException))
null_raises p n d (NeverNull count) q to c rest next allowed null = absurd (false≢true allowed)

-- another pointer passes
pub spot_passes : (d byte : ℕ) (b : Reach) (q : Owner) (to : Shape) (t : core.Spot) (c : Config) (rest : Statements) (next : Next) → c.temps d ≡ Pointer t byte
    → meaning.statements (put (check_code (ThinShape b q to) d) rest) next c ≡ meaning.statements rest next c
spot_passes d byte (MayBeNull count) q to t c rest next temp = rw temp refl
spot_passes d byte (NeverNull count) q to t c rest next temp = refl

pub contents_reached : (p : Point) (n d : ℕ) (e : Sense) (shape : Shape) (code : List Statement) → Agrees p n d e shape code
    → PlacedAs p n d (pointee shape) (e.look >>= one >>= λ q. accessed (length (cells_of p.world (pointee shape))) q) (code ++ reach_code p.world shape d)
contents_reached p n d e shape code agrees = record {
  same = λ m c s rest next fits goes.
      let cells : ℕ = length (cells_of p.world (pointee shape)) in
      subst (λ z. SameAt p n (e.look (λ vs. one vs (λ v. accessed cells v s)) m) (meaning.statements z next c))
      (sym (put_all code (reach_code p.world shape d) rest))
      (agrees.looks.same m c (λ vs. one vs (λ v. accessed cells v s)) (put (reach_code p.world shape d) rest) next fits (record {
        above = over goes.above (omega arith);
        go = λ m1 c1 vs fits1 later1 kept1 given1.
            one_same p.world p.program n shape m1 c1.memory vs d c1.temps (λ v. accessed cells v s) _ agrees.taken given1
            (λ t word temp shape_is type_is small. stuck_same p.world p.program n _)
            (λ v o.
            subst (λ z. SameAt p n (accessed cells v s m1) (meaning.statements (put (reach_code p.world z d) rest) next c1)) (sym o.shape_is)
            (thin_same p.world p.program n shape m1 c1.memory v (c1.temps d) (λ u. accessed cells u s)
            (meaning.statements (put (check_code (ThinShape o.bound o.owner o.to) d) rest) next c1) o
            (λ x b. null_raises p n d o.bound o.owner o.to c1 rest next b x)
            (λ t byte x full leads.
            subst (λ z. SameAt p n (s t m1) z) (sym (spot_passes d byte o.bound o.owner o.to (at t) c1 rest next x))
            ((subst (λ z. PlaceGoesOn p n d m c (pointee z) s (meaning.statements rest next)) o.shape_is goes).go m1 c1 t byte fits1 later1 kept1 x
            full leads))))
            (λ birth x shape_is. stuck_same p.world p.program n _)
            (λ birth is. stuck_same p.world p.program n _)
            (λ v o.
            subst (λ z. SameAt p n (accessed (length (cells_of p.world (pointee z))) v s m1) (meaning.statements (put (reach_code p.world z d) rest) next c1))
            (sym o.shape_is)
            (element_same p n d d o.to v m1 c1 s rest next o.shown (λ z less. record {
              go = λ t byte lies leads all.
                  let here : Config = with_temp (d + 1) (Word 1) c1 in
                  (subst (λ z. PlaceGoesOn p n d m c (pointee z) s (meaning.statements rest next)) o.shape_is goes).go m1
                  (with_temp d (Pointer (at t) byte) here) t byte
                  (temp_fits p m1 here d (Pointer (at t) byte) (temp_fits p m1 c1 (d + 1) (Word 1) fits1 (over goes.above (omega arith))) goes.above) later1
                  (kept_temp d d (Pointer (at t) byte) c here (omega arith) (kept_temp d (d + 1) (Word 1) c c1 (omega arith) kept1))
                  (put_temp d (Pointer (at t) byte) here) lies leads;
            })));
      }));
}

pub contents_placed : (p : Point) (n d : ℕ) (e : Sense) (shape : Shape) (code : List Statement) → Agrees p n d e shape code
    → PlacedAs p n d (pointee shape) (e.look >>= one >>= λ q. accessed (length (cells_of p.world (pointee e.shape))) q) (code ++ reach_code p.world shape d)
contents_placed p n d e shape code agrees =
    subst (λ z. PlacedAs p n d (pointee shape) (e.look >>= one >>= λ q. accessed (length (cells_of p.world (pointee z))) q)
    (code ++ reach_code p.world shape d))
    (sym agrees.shape_is) (contents_reached p n d e shape code agrees)

pub pointee_taken : (s : Shape) → IsTaken s → IsTarget (pointee s)
pointee_taken IntShape h = tt
pointee_taken UnsignedShape h = tt
pointee_taken CharShape h = tt
pointee_taken VoidShape h = tt
pointee_taken (ThinShape may_be_null owner to) h = h
pointee_taken (FatShape to) h = h
pointee_taken HandleShape h = tt
pointee_taken KeyShape h = tt
pointee_taken (StructShape tag) h = tt
pointee_taken (UnionShape tag) h = tt
pointee_taken (ArrayShape count of) h = tt

-- ---- `&e`, and NULL

pub address_agrees : (p : Point) (n d : ℕ) (e : Sense) (shape : Shape) (code : List Statement) → e.shape ≡ shape → IsTarget shape
    → PlacedAs p n d shape e.place code
    → Agrees p n d (value_sense (ThinShape (NeverNull 1) Shared e.shape) (e.place >>= λ t. give (Thin (Some t) ∷ [])))
    (ThinShape (NeverNull 1) Shared shape) code
address_agrees p n d e shape code same taken placed = record {
  shape_is = ap (λ z. ThinShape (NeverNull 1) Shared z) same;
  taken = taken;
  looks = gives;
  values = gives;
}
  where
    gives : GivesAs p n d (ThinShape (NeverNull 1) Shared shape) (e.place >>= λ t. give (Thin (Some t) ∷ [])) code
    gives = record {
      same = λ m c s rest next fits goes.
          placed.same m c (λ t. s (Thin (Some t) ∷ [])) rest next fits (record {
            above = over goes.above (omega arith);
            go = λ m1 c1 t byte fits1 later1 kept1 temp word leads.
                goes.go m1 c1 (Thin (Some t) ∷ []) fits1 later1 kept1 (inl (record {
                  value = Thin (Some t);
                  alone = refl;
                  shown = inr (record {
                    spot = t;
                    byte = byte;
                    value = refl;
                    shown = ap (λ z. z ∷ []) temp;
                    lies = word;
                    leads = leads;
                    few = omega arith;
                    elements = one_led p.world m1 c1.memory shape t byte leads;
                    owned = tt;
                  });
                }));
          });
    }

pub null_agrees : (p : Point) (n d : ℕ) → Agrees p n d (value_sense (ThinShape (MayBeNull 1) Shared VoidShape) (give (Thin None ∷ [])))
    (ThinShape (MayBeNull 1) Shared VoidShape) (Do (NullPointer d) ∷ [])
null_agrees p n d = record { shape_is = refl; taken = tt; looks = gives; values = gives }
  where
    gives : GivesAs p n d (ThinShape (MayBeNull 1) Shared VoidShape) (give (Thin None ∷ [])) (Do (NullPointer d) ∷ [])
    gives = record {
      same = λ m c s rest next fits goes.
          put_value p n d m c m c (ThinShape (MayBeNull 1) Shared VoidShape) (Thin None ∷ []) Null s (meaning.statements rest next) fits
          (later_self (within p) m c.memory) (λ k h. refl) refl
          (inl (record { value = Thin None; alone = refl; shown = inl (record { allowed = refl; value = refl; shown = refl }) })) goes;
    }
