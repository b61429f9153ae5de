-- The code of functions and globals of a program that is taken names what there is: the program can be selected.
use Rattle.std.proofs.Common.{◌≡◌, ℕ, suc, ◌+◌, ◌≤◌, List, [], ◌∷◌, ◌++◌, length, map, sym, subst, arith}
use Rattle.cyc_tree.specs.Tree as tree
use Rattle.cyc_tree.specs.Tree.{Item}
use Rattle.source_meaning.specs.Shapes.{Shape, CharShape, VoidShape, Layout, Part}
use Rattle.source_meaning.specs.Shapes.{part_shapes, written, settled}
use Rattle.source_meaning.specs.Steps.{World, Routine}
use Rattle.source_meaning.specs.Strings.{Literal}
use Rattle.source_meaning.specs.Programs.{global_shape, globals_from}
use Rattle.core_meaning.specs.Core as core
use Rattle.core_meaning.specs.Layouts.{IsLayout}
use Rattle.core_meaning.specs.Selectable.{AreLayouts, HaveLayouts}
use Rattle.source_lowering.specs.Members.{words_in, all_words}
use Rattle.source_lowering.specs.Lowered.{Named}
use Rattle.source_lowering.specs.Programs.{block_shapes, locals_of, named_here, no_regions, items_code, parameter_names, parameters_code, end_code, body_code}
use Rattle.source_lowering.specs.Programs.{routine_values, data_of, string_datum}
use Rattle.source_lowering.specs.Lowerable.{IsVariable, TakesProgram}
use Rattle.source_lowering.proofs.values.Integers.{value_object, taken_target}
use Rattle.source_lowering.proofs.expressions.Names.{AreObjectNames, AreParameters, IsPlainWorld, IsRoutine}
use Rattle.source_lowering.proofs.memory.ObjectShapes.{object_named}
use Rattle.source_lowering.proofs.statements.WrittenTypes.{object_settled}
use Rattle.source_lowering.proofs.bounds.WholeObjects.{item_objects}
use Rattle.source_lowering.proofs.Programs.{global_variable}
use Rattle.source_lowering.proofs.regions.Heap.{laid_out_as}
use Rattle.source_lowering.proofs.regions.HeapValues.{heap_data}
use Rattle.selectable_proof.specs.Naming.{AreNaming, CodeNames}
use Rattle.selectable_proof.proofs.Naming.{both_name, all_name}
use Rattle.selectable_proof.proofs.Layouts.{object_layout, variable_layout}
use Rattle.selectable_proof.proofs.Parts.{LocalsLie, GlobalsLie, Around, stored_local}
use Rattle.selectable_proof.proofs.Texts.{TextsLie}
use Rattle.source_lowering.specs.Objects.{AreVariables}
use Rattle.source_lowering.proofs.statements.BlockVariables.{block_variables}
use Rattle.selectable_proof.proofs.Statements.{layouts_taken, objects_are, as_many, items_names}

-- ---- functions

-- parameters are variables
parameter_is : (unions structs : List Layout) (p : Part) (ps : List Part) → AreParameters (p ∷ ps) → IsVariable unions structs p.shape
parameter_is unions structs p ps h = object_named unions structs p.shape (value_object unions structs p.shape h.0)

parameters_are : (unions structs : List Layout) (ps : List Part) (ss : List Shape) → AreParameters ps → AreVariables unions structs ss
    → AreVariables unions structs (part_shapes ps ++ ss)
parameters_are unions structs [] ss h more = more
parameters_are unions structs (p ∷ ps) ss h more = (parameter_is unions structs p ps h, parameters_are unions structs ps ss h.1 more)

parameters_name : (k own n : ℕ) (ps : List Part) (index t free : ℕ) → index + length ps ≤ k → CodeNames (k ∷ []) own n (parameters_code ps index t free)
parameters_name k own n [] index t free h = tt
parameters_name k own n (p ∷ ps) index t free h =
    both_name (k ∷ []) own n _ _ (stored_local (k ∷ []) own n p.shape free t 0 index (omega (arith, h)))
    (parameters_name k own n ps (suc index) (t + words_in p.shape) free (omega (arith, h)))

parameters_named : (unions structs : List Layout) (ps : List Part) (index : ℕ) (names : List Named) → AreParameters ps → AreObjectNames unions structs names
    → AreObjectNames unions structs (parameter_names ps index names)
parameters_named unions structs [] index names h g = g
parameters_named unions structs (p ∷ ps) index names h g =
    parameters_named unions structs ps (suc index) (named_here p.name p.shape index ∷ names) h.1 (parameter_is unions structs p ps h, g)

parameters_lie : (k : ℕ) (ps : List Part) (index : ℕ) (names : List Named) → index + length ps ≤ k → LocalsLie (k ∷ []) names
    → LocalsLie (k ∷ []) (parameter_names ps index names)
parameters_lie k [] index names h g = g
parameters_lie k (p ∷ ps) index names h g =
    parameters_lie k ps (suc index) (named_here p.name p.shape index ∷ names) (omega (arith, h)) (omega (arith, h), g)

end_names : (s : Shape) (own n : ℕ) → CodeNames [] own n (end_code s)
end_names s own n = by s
  where
    zero_names : CodeNames [] own n (core.Do (core.Constant 0 0) ∷ core.Return (0 ∷ []) ∷ [])
    zero_names = (tt, (omega arith, tt))

    by : (of : Shape) → CodeNames [] own n (end_code of)
    by VoidShape = (omega arith, tt)
    by _ = zero_names

many_shapes : (ps : List Part) (ss : List Shape) → length (part_shapes ps ++ ss) ≡ length ps + length ss
many_shapes [] ss = omega arith
many_shapes (p ∷ ps) ss = let h = many_shapes ps ss in omega (arith, h)

-- the function has the locals of its temporary objects
pub body_names : (n : ℕ) (w : World) (f : Routine) → GlobalsLie n w.globals → TextsLie n w.strings → IsPlainWorld w → IsRoutine w f
    → AreNaming [] (length (locals_of w (routine_values w f))) n (body_code w f)
body_names n w f globals texts plain is =
    let names = parameter_names f.parameters 0 [] in
    let declared = block_shapes w names (length f.parameters) f.body in
    let shapes = part_shapes f.parameters ++ declared in
    let k = length (locals_of w shapes) in
    let own = length (locals_of w (routine_values w f)) in
    let many = as_many w shapes in
    let room = as_many w (routine_values w f) in
    let variables = parameters_are w.unions w.structs f.parameters declared is.parameters
    (block_variables w f.result names (length f.parameters) f.body is.body) in
    let words = all_words (part_shapes f.parameters) in
    let all = many_shapes f.parameters declared in
    let a : Around (k ∷ []) n w names =
    record {
      locals = parameters_lie k f.parameters 0 [] (omega (arith, many, all)) tt;
      globals = globals;
      texts = texts;
      words = parameters_named w.unions w.structs f.parameters 0 [] is.parameters tt;
      plain = plain;
    } in (
      (
        layouts_taken w shapes plain variables,
        all_name (k ∷ []) own n _
            (both_name (k ∷ []) own n (parameters_code f.parameters 0 0 words) (items_code w f.result names no_regions (length f.parameters) 0 f.body)
            (parameters_name k own n f.parameters 0 0 words (omega (arith, many, all)))
            (items_names k [] own n w f.result names plain a (taken_target f.result is.result) no_regions (length f.parameters) 0 f.body is.body
            (omega (arith, many, all)) (omega (arith, room)))),
      ),
      all_name [] own n (end_code f.result) (end_names f.result own n),
    )

-- so has each of them a layout
pub own_layouts : (w : World) (f : Routine) → IsPlainWorld w → IsRoutine w f → AreLayouts (locals_of w (routine_values w f))
own_layouts w f plain is =
    layouts_taken w (routine_values w f) plain
    (objects_are w.unions w.structs (routine_values w f) (item_objects w f.result (parameter_names f.parameters 0 []) (length f.parameters) f.body is.body))

-- ---- globals and strings

pub globals_lie : (w : World) (items : List Item) (k n : ℕ) → TakesProgram w items → k + length (data_of w items) ≤ n → GlobalsLie n (globals_from items k)
globals_lie w [] k n h f = tt
globals_lie w (tree.StructItem s ∷ items) k n h f = globals_lie w items k n h.1 f
globals_lie w (tree.UnionItem u ∷ items) k n h f = globals_lie w items k n h.1 f
globals_lie w (tree.FunctionItem g ∷ items) k n h f = globals_lie w items k n h.1 f
globals_lie w (tree.GlobalItem g ∷ items) k n h f = (omega (arith, f), globals_lie w items (suc k) n h.1 (omega (arith, f)))

strings_layouts : (w : World) (ss : List Literal) → IsPlainWorld w → HaveLayouts (map (string_datum w) ss)
strings_layouts w [] plain = tt
strings_layouts w (s ∷ ss) plain = ((object_layout w CharShape plain tt).lies, strings_layouts w ss plain)

pub data_layouts : (w : World) (items : List Item) (ss : List Literal) → IsPlainWorld w → TakesProgram w items
    → HaveLayouts (heap_data w items ss)
data_layouts w [] ss plain h = strings_layouts w ss plain
data_layouts w (tree.StructItem s ∷ items) ss plain h = data_layouts w items ss plain h.1
data_layouts w (tree.UnionItem u ∷ items) ss plain h = data_layouts w items ss plain h.1
data_layouts w (tree.FunctionItem g ∷ items) ss plain h = data_layouts w items ss plain h.1
data_layouts w (tree.GlobalItem g ∷ items) ss plain h =
    let s = global_shape g.initial (settled (written g.of)) in
    let variable = global_variable w g.initial (settled (written g.of)) h.0.1 (object_settled w.unions w.structs g.of h.0.0) in
    (subst IsLayout (sym (laid_out_as w g.initial s).layout) (variable_layout w s plain variable).lies, data_layouts w items ss plain h.1)
