-- Frames and code are within their bounds.
use Rattle.std.proofs.Common.{◌≡◌, ℕ, suc, ◌+◌, ◌*◌, ◌≤◌, List, [], ◌∷◌, ◌++◌, length, map, refl, sym, subst, arith}
use Rattle.cyc_tree.specs.Tree.{Program}
use Rattle.source_meaning.specs.Shapes.{Shape, VoidShape, Part, part_shapes}
use Rattle.source_meaning.specs.Steps.{World, Routine}
use Rattle.source_meaning.specs.Programs.{world_of}
use Rattle.core_meaning.specs.Core as core
use Rattle.core_meaning.specs.Core.{Do, Block, Return, Constant}
use Rattle.source_lowering.specs.Lowered.{all_of, stored_code}
use Rattle.source_lowering.specs.Programs.{block_shapes, locals_of, routine_values, no_regions, items_code, parameter_names, parameters_code, end_code}
use Rattle.source_lowering.specs.Programs.{body_code, function_code, program_code}
use Rattle.source_lowering.specs.Temporaries.{temporaries_of, passed_by}
use Rattle.source_lowering.specs.Members.{words_in, all_words}
use Rattle.source_lowering.specs.Lowerable.{IsLowerable}
use Rattle.core_meaning.specs.Bounds.{block_words, operations_of, core_bound, all_operations, core_code}
use Rattle.source_lowering.specs.Bounds.{FramesFit, item_locals, item_size, items_left, regions_left, frame_bound, routines_size, code_bound}
use Rattle.source_lowering.proofs.bounds.Nodes.{item_count, item_indices, item_regions}
use Rattle.source_lowering.proofs.expressions.Names.{AreParameters, IsRoutine, AreRoutines}
use Rattle.source_lowering.proofs.bounds.LocalWords.{shapes_words, many_words, words_same}
use Rattle.source_lowering.proofs.bounds.Costs.{Costs, no_costs, one_costs, both_cost, more_costs, at_most, does_one, block_costs}
use Rattle.source_lowering.proofs.bounds.ValueCosts.{words_few, stored_costs}
use Rattle.source_lowering.proofs.bounds.StatementCosts.{items_bounded}
use Rattle.source_lowering.proofs.bounds.StatementsPaid.{items_paid}
use Rattle.source_lowering.proofs.bounds.RegionsPaid.{item_regions_paid}
use Rattle.source_lowering.proofs.Programs.{routines_are}

-- ---- functions

parameters_costs : (ps : List Part) (index at free t p : ℕ) → at + all_words (part_shapes ps) ≤ t → suc free ≤ t
    → Costs t p 0 (4 * length ps) (parameters_code ps index at free)
parameters_costs [] index at free t p g h = no_costs t p
parameters_costs (q ∷ ps) index at free t p g h =
    at_most t p (4 + 4 * length ps) (4 * length (q ∷ ps)) _ (omega arith)
    (both_cost t p 0 4 0 (4 * length ps) (stored_code q.shape free at 0 index) (parameters_code ps (suc index) (at + words_in q.shape) free)
    (stored_costs q.shape t p free at 0 index h (omega (arith, g)))
    (parameters_costs ps (suc index) (at + words_in q.shape) free t p (omega (arith, g)) h))

end_costs : (s : Shape) (t p : ℕ) → 1 ≤ t → Costs t p 0 3 (end_code s)
end_costs s t p h = by s
  where
    zero_code : Costs t p 0 3 (Do (Constant 0 0) ∷ Return (0 ∷ []) ∷ [])
    zero_code = both_cost t p 0 1 0 2 (Do (Constant 0 0) ∷ []) (Return (0 ∷ []) ∷ []) (does_one t p _ h) (one_costs t p 0 2 (Return (0 ∷ []))
        (omega (arith, h)) (omega arith) (omega arith) (omega arith))

    by : (of : Shape) → Costs t p 0 3 (end_code of)
    by VoidShape = more_costs t p 0 1 t p 0 3 _ (omega arith) (omega arith) (omega arith) (omega arith) (one_costs t p 0 1 (Return []) (omega arith)
        (omega arith) (omega arith) (omega arith))
    by _ = zero_code

-- a parameter has the words of its value
pub all_shapes : (w : World) (ps : List Part) (shapes : List Shape) → AreParameters ps
    → shapes_words w (part_shapes ps ++ shapes) ≡ all_words (part_shapes ps) + shapes_words w shapes
all_shapes w [] shapes h = omega arith
all_shapes w (p ∷ ps) shapes h =
    let a = words_same w p.shape h.0 in
    let b = all_shapes w ps shapes h.1 in
    omega (arith, a, b)

-- and three words at most
pub words_many : (ps : List Part) → all_words (part_shapes ps) ≤ 3 * length ps
words_many [] = omega arith
words_many (p ∷ ps) = let a = words_few p.shape in let b = words_many ps in omega (arith, a, b)

-- the words of the locals of a function's body, and of the blocks within it, with a word for each index
abbrev pub body_locals : World → Routine → ℕ
body_locals w f = item_locals w (parameter_names f.parameters 0 []) (length f.parameters) f.body + item_indices f.body

-- what a function's body takes
pub record BodyBounded (w : World) (f : Routine) : Type 0 where
  pub code : List core.Statement
  pub is : body_code w f ≡ all_of code
  pub costs : Costs (all_words (part_shapes f.parameters) + (item_regions f.body + 4 * item_count w f.body + 2)) (3 * item_count w f.body)
      (all_words (part_shapes f.parameters) + body_locals w f)
      (1 + (4 * length f.parameters + 8 * (item_size f.body + items_left no_regions f.body)) + 3) code

pub body_bounded : (w : World) (f : Routine) → IsRoutine w f → BodyBounded w f
body_bounded w f r =
    let words = all_words (part_shapes f.parameters) in
    let t = words + (item_regions f.body + 4 * item_count w f.body + 2) in
    let p = 3 * item_count w f.body in
    let l = words + body_locals w f in
    let o = 1 + (4 * length f.parameters + 8 * (item_size f.body + items_left no_regions f.body)) in
    let shapes = part_shapes f.parameters ++ block_shapes w (parameter_names f.parameters 0 []) (length f.parameters) f.body in
    let first = parameters_code f.parameters 0 0 words in
    let body = items_code w f.result (parameter_names f.parameters 0 []) no_regions (length f.parameters) 0 f.body in
    let items = items_bounded w f.result (parameter_names f.parameters 0 []) no_regions (length f.parameters) 0 f.body t p r.body (omega arith) (omega arith) in
    let inside = both_cost t p 0 (4 * length f.parameters) items.inner items.bounded.operations first body
    (parameters_costs f.parameters 0 0 words t p (omega arith) (omega arith)) items.bounded.costs in
    let less = items.bounded.less in let e = items.locals in
    let n = all_shapes w f.parameters (block_shapes w (parameter_names f.parameters 0 []) (length f.parameters) f.body) r.parameters in
    record {
      code = Block (locals_of w shapes) (all_of (first ++ body)) ∷ end_code f.result;
      is = refl;
      costs = more_costs t p (l + 0) (o + 3) t p l (o + 3) _ (omega arith) (omega arith) (omega arith) (omega arith)
          (both_cost t p l o 0 3 (Block (locals_of w shapes) (all_of (first ++ body)) ∷ []) (end_code f.result)
          (more_costs t p l (1 + (4 * length f.parameters + items.bounded.operations)) t p l o _ (omega arith) (omega arith) (omega arith)
          (omega (arith, less))
          (block_costs t p l (0 + items.inner) (4 * length f.parameters + items.bounded.operations) w shapes (first ++ body) (omega (arith, e, n)) inside))
          (end_costs f.result t p (omega arith)));
    }

-- a function's frame in Core is within the source's bound
pub frame_bounded : (w : World) (f : Routine) → IsRoutine w f → core_bound (function_code w f) ≤ frame_bound w f
frame_bounded w f r =
    let b = body_bounded w f r in
    let words = all_words (part_shapes f.parameters) in
    let t = subst (λ z. temporaries_of z ≤ words + (item_regions f.body + 4 * item_count w f.body + 2)) (sym b.is) b.costs.temporaries in
    let p = subst (λ z. passed_by z ≤ 3 * item_count w f.body) (sym b.is) b.costs.passes in
    let l = subst (λ z. block_words z ≤ words + body_locals w f) (sym b.is) b.costs.locals in
    let o = many_words w (routine_values w f) in
    let paid = (items_paid w f.result (parameter_names f.parameters 0 []) (length f.parameters) f.body r.body).less in
    let regions = item_regions_paid w (parameter_names f.parameters 0 []) (length f.parameters) f.body in
    omega (arith, t, p, l, o, paid, regions)

operations_bounded : (w : World) (fs : List Routine) → AreRoutines w fs → all_operations (map (function_code w) fs) ≤ 8 * (routines_size fs + regions_left fs)
operations_bounded w [] h = omega arith
operations_bounded w (f ∷ fs) h =
    let b = body_bounded w f h.0 in
    let o = subst (λ z. operations_of z ≤ 1 + (4 * length f.parameters + 8 * (item_size f.body + items_left no_regions f.body)) + 3) (sym b.is)
    b.costs.operations in
    let words = words_many f.parameters in
    let others = operations_bounded w fs h.1 in
    omega (arith, o, words, others)

-- each function's frame
pub frames_bounded : (w : World) (fs : List Routine) → AreRoutines w fs → FramesFit w fs
frames_bounded w [] h = tt
frames_bounded w (f ∷ fs) h = (frame_bounded w f h.0, frames_bounded w fs h.1)

pub code_bounded : (p : Program) → IsLowerable p → core_code (program_code p) ≤ code_bound (world_of p).functions
code_bounded p h = let o = operations_bounded (world_of p) (world_of p).functions (routines_are (world_of p) p h.items) in omega (arith, o)

-- of a program that is taken
pub program_frames_bounded : (p : Program) → IsLowerable p → FramesFit (world_of p) (world_of p).functions
program_frames_bounded p h = frames_bounded (world_of p) (world_of p).functions (routines_are (world_of p) p h.items)
