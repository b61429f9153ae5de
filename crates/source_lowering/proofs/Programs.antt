-- The theorem: on each input and with each amount of fuel, Core does what the program does, where the program isn't stuck.
use Rattle.std.proofs.Common.{◌≡◌, ℕ, suc, ◌⊎◌, ◌^◌, inl, ⊎_elim, List, [], ◌∷◌, map, Some, None, refl, sym, ap, ◌∙◌, subst, arith}
use Rattle.std.specs.Prelude.{codes, slice_get}
use Rattle.cyc_words.specs.Events.{AreBytes, SourceEnding}
use Rattle.step_trees.specs.Trees.{Stops}
use Rattle.cyc_tree.specs.Tree as tree
use Rattle.cyc_tree.specs.Tree.{Base, TypeName, Pointer, Member, Initial, Function, Item}
use Rattle.source_meaning.specs.Shapes.{count_of}
use Rattle.source_meaning.specs.Shapes.{
  Shape,
  IntShape,
  UnsignedShape,
  CharShape,
  VoidShape,
  ThinShape,
  FatShape,
  HandleShape,
  KeyShape,
  StructShape,
  UnionShape,
  ArrayShape,
  Part,
  part_of,
  part_shapes,
  written,
  settled,
}
use Rattle.source_meaning.specs.Memory as source
use Rattle.source_meaning.specs.Memory.{IntegerType, AsInt, AsUnsigned, AsChar, Scalar}
use Rattle.source_meaning.specs.Steps as steps
use Rattle.source_meaning.specs.Steps.{World, Routine, need, ◌>>=◌}
use Rattle.source_meaning.specs.Conversions.{one, integer, size_of}
use Rattle.source_meaning.specs.Calls.{function_of}
use Rattle.source_meaning.specs.Strings.{program_strings}
use Rattle.source_meaning.specs.Programs.{global_shape, globals_from, functions_of, routine_of, world_of, entered, start, source}
use Rattle.core_meaning.specs.Memory as core_memory
use Rattle.core_meaning.specs.Memory.{Content}
use Rattle.core_meaning.specs.Core.{Program}
use Rattle.core_meaning.specs.Steps as core_steps
use Rattle.core_meaning.specs.Meaning as meaning
use Rattle.core_meaning.specs.Meaning.{core, passed_in}
use Rattle.source_lowering.specs.Lowered.{number_of}
use Rattle.source_lowering.specs.Members.{all_words}
use Rattle.source_lowering.specs.Programs.{program_code}
use Rattle.source_lowering.specs.Taken.{IsVoidBase}
use Rattle.source_lowering.specs.Lowerable.{
  IsObject,
  IsVariable,
  TakesGlobal,
  TakesResult,
  GivesWord,
  GivesNothing,
  TakesFunction,
  AreWords,
  TakesProgram,
  IsLowerable,
}
use Rattle.source_lowering.specs.Simulation.{
  AnInteger,
  ANull,
  APointer,
  AFatNull,
  AFat,
  Shown,
  SameMemory,
  HasStatics,
  AValue,
  SameOutcome,
  Same,
}
use Rattle.source_lowering.proofs.Runs.{stuck_same, stops_same}
use Rattle.source_lowering.proofs.values.Integers.{IsTaken, value_taken}
use Rattle.source_lowering.proofs.expressions.Names.{AreGlobals, AreParameters, IsRoutine, AreRoutines, IsPlainWorld, FoundFunction, find_function}
use Rattle.source_lowering.proofs.expressions.Calls.{AllGiven, NoResult, ResultIs, EntersAs}
use Rattle.source_lowering.proofs.statements.WrittenTypes.{object_settled, value_settled}
use Rattle.source_lowering.proofs.memory.ObjectShapes.{object_named}
use Rattle.source_lowering.proofs.Functions.{enters_always}
use Rattle.source_lowering.proofs.regions.Heap.{heap_of, heap_agrees, heap_stored, heap_statics}
use Rattle.source_lowering.proofs.regions.HeapValues.{heap_data}
use Rattle.source_lowering.proofs.Constants.{globals_same}

-- ---- a program of words

-- an array's count is a word
pub global_variable : (w : World) (initial : Initial) (s : Shape) → TakesGlobal s initial → IsObject w.unions w.structs s
    → IsVariable w.unions w.structs (global_shape initial s)
global_variable w Initial.Unset s h object = object_named w.unions w.structs s object
global_variable w (Initial.Elements count) s h object = (h.0, object)
global_variable w (Initial.Given c) s h object = object_named w.unions w.structs s object

globals_are : (w : World) (items : List Item) (k : ℕ) → TakesProgram w items → AreGlobals w.unions w.structs (globals_from items k)
globals_are w [] k h = tt
globals_are w (tree.StructItem s ∷ items) k h = globals_are w items k h.1
globals_are w (tree.UnionItem u ∷ items) k h = globals_are w items k h.1
globals_are w (tree.FunctionItem f ∷ items) k h = globals_are w items k h.1
globals_are w (tree.GlobalItem g ∷ items) k h = (
  record {
    shape = global_shape g.initial (settled (written g.of));
    number = k;
    is = refl;
    is_variable = global_variable w g.initial (settled (written g.of)) h.0.1 (object_settled w.unions w.structs g.of h.0.0);
  },
  globals_are w items (suc k) h.1,
)

parameters_are : (ms : List Member) → AreWords ms → AreParameters (map part_of ms)
parameters_are [] h = tt
parameters_are (m ∷ ms) h = (value_settled m.of h.0, parameters_are ms h.1)

void_taken : (b : Base) (ps : List Pointer) (at : ℕ) → ps ≡ [] → IsVoidBase b → IsTaken (settled (written (record { at = at; base = b; pointers = ps })))
void_taken b ps at e h = subst (λ z. IsTaken (settled (written (record { at = at; base = b; pointers = z })))) (sym e) (by b h)
  where
    by : (of : Base) → IsVoidBase of → IsTaken (settled (written (record { at = at; base = of; pointers = [] })))
    by tree.Void h = tt
    by tree.Int h = tt
    by tree.Unsigned h = tt
    by tree.Char h = tt
    by (tree.Struct tag arguments) h = absurd h
    by (tree.Union tag arguments) h = absurd h
    by (tree.Handle region) h = absurd h
    by (tree.Key region) h = absurd h

result_taken : (t : TypeName) → TakesResult t → IsTaken (settled (written t))
result_taken t (GivesWord h) = value_taken (settled (written t)) (value_settled t h)
result_taken t (GivesNothing h) = void_taken t.base t.pointers t.at h.pointers h.base

int_written : (t : TypeName) → t.pointers ≡ [] → t.base ≡ tree.Int → settled (written t) ≡ IntShape
int_written t e b =
    ap (λ z. settled (written (record { at = t.at; base = t.base; pointers = z }))) e ∙ ap (λ z. settled (written
    (record { at = t.at; base = z; pointers = [] }))) b

-- of a function that is taken
pub routine_is : (w : World) (f : Function) → TakesFunction w f → IsRoutine w (routine_of f)
routine_is w f h = record {
  result = result_taken f.result h.result;
  main = λ e. int_written f.result (h.main e).pointers (h.main e).base;
  parameters = parameters_are f.parameters h.parameters;
  body = h.body;
}

pub routines_are : (w : World) (items : List Item) → TakesProgram w items → AreRoutines w (functions_of items)
routines_are w [] h = tt
routines_are w (tree.StructItem s ∷ items) h = routines_are w items h.1
routines_are w (tree.UnionItem u ∷ items) h = routines_are w items h.1
routines_are w (tree.GlobalItem g ∷ items) h = routines_are w items h.1
routines_are w (tree.FunctionItem f ∷ items) h = (routine_is w f h.0, routines_are w items h.1)

pub world_plain : (p : tree.Program) → IsLowerable p → IsPlainWorld (world_of p)
world_plain p h = record {
  unions = h.unions;
  structs = h.structs;
  globals = globals_are (world_of p) p 0 h.items;
  functions = routines_are (world_of p) p h.items;
}

-- ---- `main`

-- what the source does with what `main` gives
abbrev status : List Scalar → source.Memory → steps.Step
status vs m = one vs (λ v. integer v (λ n m2. Stops (SourceEnding.Ended n))) m

status_same : (w : World) (fs : Program) (n : ℕ) (shape : Shape) (m : source.Memory) (c : core_memory.Memory) (vs : List Scalar) (xs : List Content)
    → IsTaken shape → ResultIs w m c shape vs xs → Same w fs n (status vs m) (meaning.status_of xs c)
status_same w fs n shape m c vs xs taken r =
    ⊎_elim
    (λ (v : AValue w m c shape vs xs). subst (λ z. Same w fs n (status z m) (meaning.status_of xs c)) (sym v.alone) (by shape taken v.value v.shown))
    (λ (o : NoResult shape vs xs). subst (λ z. Same w fs n (status z m) (meaning.status_of xs c)) (sym o.value.none)
    (stuck_same w fs n (meaning.status_of xs c)))
    r
  where
    goal : Scalar → Type 0
    goal v = Same w fs n (status (v ∷ []) m) (meaning.status_of xs c)

    stuck : Same w fs n (Stops SourceEnding.Stuck) (meaning.status_of xs c)
    stuck = stuck_same w fs n (meaning.status_of xs c)

    word : (t : IntegerType) (below : ℕ) (v : Scalar) → AnInteger t below v xs → goal v
    word t below v o =
        subst (λ z. Same w fs n (status (z ∷ []) m) (meaning.status_of xs c)) (sym o.value)
        (subst (λ z. Same w fs n (Stops (SourceEnding.Ended o.word)) (meaning.status_of z c)) (sym o.shown) (stops_same w fs n (SourceEnding.Ended o.word)))

    by : (of : Shape) → IsTaken of → (v : Scalar) → Shown w m c of v xs → goal v
    by IntShape h v o = word AsInt (2 ^ 32) v o
    by UnsignedShape h v o = word AsUnsigned (2 ^ 32) v o
    by CharShape h v o = word AsChar 256 v o
    by VoidShape h v o = absurd o
    by (ThinShape b owner to) h v o =
        ⊎_elim (λ (z : ANull b v xs). subst goal (sym z.value) stuck) (λ (z : APointer w m c (count_of b) owner to v xs). subst goal (sym z.value) stuck) o
    by (FatShape to) h v o =
        ⊎_elim (λ (z : AFatNull v xs). subst goal (sym z.value) stuck) (λ (z : AFat w m c to (size_of w to) v xs). subst goal (sym z.value) stuck) o
    by HandleShape h v o = subst goal (sym o.value) stuck
    by KeyShape h v o = subst goal (sym o.value) stuck
    by (StructShape tag) h v o = absurd h
    by (UnionShape tag) h v o = absurd h
    by (ArrayShape count from) h v o = absurd h

-- without arguments a function that takes some is stuck
stuck_entered : (w : World) (fs : Program) (n : ℕ) (name : List ℕ) (result : Shape) (p : Part) (ps : List Part) (body : tree.BlockItems) (m : source.Memory)
    (k : core_steps.Step) → Same w fs n (entered (record { name = name; result = result; parameters = p ∷ ps; body = body }) w [] status m) k
stuck_entered w fs n name result p ps body m k = record { at = λ j h input bytes. inl refl }

main_by : (w : World) (fs : Program) (n : ℕ) (f : Routine) (ps : List Part) (m : source.Memory) (c : core_memory.Memory) → f.parameters ≡ ps → IsRoutine w f
    → EntersAs w fs n → SameMemory w m c → HasStatics w m c → slice_get w.functions (number_of w.functions (codes "main")) ≡ Some f
    → Same w fs n (entered f w [] status m) (meaning.called fs.functions (record { function = number_of w.functions (codes "main"); arguments = [] })
    meaning.status_of c)
main_by w fs n f [] m c e routine enters agree led numbered =
    enters.same (codes "main") f [] [] m c status meaning.status_of numbered routine agree led (sym (ap (λ z. all_words (part_shapes z)) e))
    (subst (λ z. AllGiven w m c (part_shapes z) [] 0 (passed_in [])) (sym e) tt)
    (record {
      go = λ m2 c2 vs xs a l r. status_same w fs n f.result m2 c2 vs xs routine.result r;
    })
main_by w fs n f (p ∷ ps) m c e routine enters agree led numbered =
    subst (λ z. Same w fs n (entered (record { name = f.name; result = f.result; parameters = z; body = f.body }) w [] status m)
    (meaning.called fs.functions (record { function = number_of w.functions (codes "main"); arguments = [] }) meaning.status_of c)) (sym e)
    (stuck_entered w fs n f.name f.result p ps f.body m _)

main_same : (w : World) (fs : Program) (n : ℕ) (m : source.Memory) (c : core_memory.Memory) → IsPlainWorld w → EntersAs w fs n → SameMemory w m c
    → HasStatics w m c
    → Same w fs n ((need (function_of w.functions (codes "main")) >>= λ f. entered f w []) status m) (meaning.called fs.functions
    (record { function = number_of w.functions (codes "main"); arguments = [] }) meaning.status_of c)
main_same w fs n m c plain enters agree led =
    ⊎_elim
    (λ (f : FoundFunction w w.functions (codes "main")).
    subst (λ z. Same w fs n ((need z >>= λ g. entered g w []) status m) (meaning.called fs.functions (record {
      function = number_of w.functions
          (codes "main");
      arguments = [];
    }) meaning.status_of c)) (sym f.found)
    (main_by w fs n f.routine f.routine.parameters m c refl f.is enters agree led f.numbered))
    (λ (none : function_of w.functions (codes "main") ≡ None).
    subst (λ z. Same w fs n ((need z >>= λ g. entered g w []) status m) (meaning.called fs.functions (record {
      function = number_of w.functions
          (codes "main");
      arguments = [];
    }) meaning.status_of c)) (sym none) (stuck_same w fs n _))
    (find_function w w.functions (codes "main") plain.functions)

-- ---- programs

pub program_same : (p : tree.Program) → IsLowerable p → (n : ℕ) → Same (world_of p) (program_code p) n (start p) (meaning.start (program_code p))
program_same p h n =
    let w : World = world_of p in
    let ss = program_strings p in
    let c = meaning.first_memory (heap_data w p ss) in
    let plain = world_plain p h in
    let enters = enters_always w (program_code p) n plain refl in
    let statics = heap_statics p h in
    globals_same w (program_code p) n p 0 (heap_of w p ss) c (λ u. (need (function_of w.functions (codes "main")) >>= λ f. entered f w []) status)
    (meaning.start (program_code p)) h.structs h.items (heap_agrees w p ss h.structs h.items) statics statics.globals (heap_stored w p ss h.items)
    (record { go = λ m agree lasts. main_same w (program_code p) n m c plain enters agree lasts })

-- on each input and with each amount of fuel: the program is stuck, or both show the same and end alike
pub programs_are_the_same : (p : tree.Program) → IsLowerable p → (input : List ℕ) → AreBytes input → (n : ℕ)
    → ((source p input n).ending ≡ SourceEnding.Stuck) ⊎ SameOutcome (world_of p) (source p input n) (core (program_code p) input n)
programs_are_the_same p h input bytes n = (program_same p h n).at n (omega arith) input bytes
