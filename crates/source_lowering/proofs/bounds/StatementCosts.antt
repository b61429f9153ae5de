-- What the code of statements takes: locals by those that are declared, operations by the size of the text.
use Rattle.std.proofs.Common.{ℕ, suc, ◌+◌, ◌*◌, ◌≤◌, List, [], ◌∷◌, ◌++◌, length, Bool, Some, None, arith}
use Rattle.cyc_tree.specs.Tree.{Statement, BlockItems, NoItems, Declare, Execute, Clauses, NoClauses, MoreClauses, Case, Default}
use Rattle.source_meaning.specs.Shapes.{FatShape}
use Rattle.source_lowering.specs.Lowered.{conversion_code}
use Rattle.source_lowering.proofs.bounds.ValueCosts.{to_fat_costs}
use Rattle.source_meaning.specs.Shapes.{Shape, Part, part_shape}
use Rattle.source_meaning.specs.Steps.{World}
use Rattle.core_meaning.specs.Core as core
use Rattle.core_meaning.specs.Core.{Do, If, Block, Return, Constant, Apply, Equal, NoStatements, KeyFree, UniqueFree}
use Rattle.source_lowering.specs.Lowered.{Named, all_of, results_in, static_shape, expression_values, union_parts, member_number, put_local, held_loads}
use Rattle.source_lowering.specs.Lowered.{tag_load}
use Rattle.source_lowering.specs.Programs.{block_shapes, locals_of, outward, named_here, leaving_code, declaration_values, statement_values}
use Rattle.source_lowering.specs.Programs.{RegionsAround, in_loop, in_switch, regions_with, side_of, statement_code, items_code, cases_code, default_code}
use Rattle.source_lowering.specs.Programs.{item_values}
use Rattle.source_lowering.specs.Programs.{case_values, names_behind}
use Rattle.source_lowering.specs.Lowerable.{TakesStatement, TakesItems, TakesClauses}
use Rattle.source_lowering.specs.Bounds.{
  shape_words,
  statement_locals,
  item_locals,
  clause_locals,
  statement_size,
  item_size,
  clauses_size,
  statement_left,
  items_left,
  clauses_left,
}
use Rattle.source_lowering.proofs.bounds.Nodes.{statement_count, item_count, clause_count, statement_regions, item_regions, clause_regions}
use Rattle.source_lowering.proofs.bounds.LocalWords.{shapes_words}
use Rattle.source_lowering.proofs.bounds.Costs.{Costs, no_costs, one_costs, both_cost, more_costs, sized, if_costs, while_costs, does_one, does_then}
use Rattle.source_lowering.proofs.bounds.Costs.{leave_costs}
use Rattle.source_lowering.proofs.bounds.Costs.{block_costs}
use Rattle.source_lowering.proofs.bounds.Counted.{one_node}
use Rattle.source_lowering.proofs.bounds.ValueCosts.{put_local_costs, tag_load_costs, held_loads_costs}
use Rattle.source_lowering.proofs.bounds.PartCosts.{results_few, results_last, results_many, conversion_costs}
use Rattle.source_lowering.proofs.bounds.ExpressionCosts.{place_costs, expression_costs}
use Rattle.source_lowering.proofs.bounds.WholeCosts.{run_costs}
use Rattle.source_lowering.proofs.bounds.DeclarationCosts.{declaration_bounded, ending_costs, regions_counted, leaving_costs}
use Rattle.source_lowering.proofs.bounds.Nodes.{clause_indices, item_indices, statement_indices}
use Rattle.source_lowering.specs.Order.{indices_in, indices_in_declaration}
use Rattle.source_lowering.proofs.bounds.ExchangeCosts.{exchange_costs, side_costs}
use Rattle.source_lowering.proofs.bounds.NameCosts.{moved_costs}
use Rattle.source_lowering.proofs.values.Integers.{key_moved, thin_moved}
use Rattle.cyc_tree.specs.Tree.{Expression}
use Rattle.source_lowering.specs.Lowered.{get_code, local_named}
use Rattle.source_meaning.specs.Places.{bound_to}

-- ---- words of locals

-- the words of the locals that a block declares itself
abbrev pub own_locals : World → List Named → ℕ → BlockItems → ℕ
own_locals w names index items = shapes_words w (block_shapes w names index items)

-- a statement's code: its locals by their number, its operations by its size
pub record IsBounded (t p l n : ℕ) (code : List core.Statement) : Type 0 where
  pub operations : ℕ
  pub costs : Costs t p l operations code
  pub less : operations ≤ 8 * n

-- the way out, behind the regions that are left
-- a result is converted and given back: what takes most to convert is one word
record ReturnedCosts (w : World) (t p d : ℕ) (to from : Shape) : Type 0 where
  converts : ℕ
  returns : ℕ
  converting : Costs t p 0 converts (conversion_code w to from d)
  returning : Costs t p 0 returns (Return (results_in to d) ∷ [])
  few : converts + returns ≤ 10

returned_costs : (w : World) (t p d : ℕ) (to from : Shape) → d + 4 ≤ t → ReturnedCosts w t p d to from
returned_costs w t p d (FatShape to) from h = record {
  converts = 4;
  returns = 4;
  converting = to_fat_costs from t p d (omega (arith, h));
  returning =
      (let few = results_few (FatShape to) in let last = results_last (FatShape to) d in let many = results_many (FatShape to) d in
      one_costs t p 0 4 (Return (results_in (FatShape to) d)) (omega (arith, last, few, h)) (omega arith) (omega arith) (omega (arith, many)));
  few = omega arith;
}
returned_costs w t p d to from h = record {
  converts = 8;
  returns = 2;
  converting = conversion_costs w t p d to from h;
  returning =
      (let few = results_few to in let last = results_last to d in
      one_costs t p 0 2 (Return (results_in to d)) (omega (arith, last, few, h)) (omega arith) (omega arith) (omega arith));
  few = omega arith;
}

leaves : (t p : ℕ) (opened : List Bool) (all count o : ℕ) (s : core.Statement) → all ≤ t → o ≤ 8 → Costs t p 0 o (s ∷ [])
    → IsBounded t p 0 (1 + count) (leaving_code opened all count ++ (s ∷ []))
leaves t p opened all count o s h less c =
    record { operations = count + o; costs = both_cost t p 0 count 0 o _ _ (leaving_costs opened all count t p h) c; less = omega (arith, less) }

-- a block's items declare its own locals, and those of inner blocks come beside them
pub record ItemsBounded (w : World) (names : List Named) (index t p l n : ℕ) (items : BlockItems) (code : List core.Statement) : Type 0 where
  pub inner : ℕ
  pub bounded : IsBounded t p inner n code
  pub locals : own_locals w names index items + inner ≤ l

-- ---- clauses of a `switch`

-- those with a name one after the other, and the `default` behind them
record ClausesBounded (t p l n : ℕ) (named last : List core.Statement) : Type 0 where
  case_locals : ℕ
  default_locals : ℕ
  case_operations : ℕ
  default_operations : ℕ
  cases : Costs t p case_locals case_operations named
  otherwise : Costs t p default_locals default_operations last
  locals : case_locals + default_locals ≤ l
  less : case_operations + default_operations ≤ 8 * n

-- one of them: its test, the copy of the member, and its items
abbrev case_code : World → List Named → Shape → (number d : ℕ) → BlockItems → (items : List core.Statement) → List core.Statement
case_code w names s number d body items =
    Do (Constant (d + 2) number) ∷ Do (Apply Equal (d + 2) (d + 1) (d + 2)) ∷
    If (d + 2)
    (all_of (Block (locals_of w (s ∷ block_shapes w names 1 body)) (all_of (held_loads s d ++ (put_local s d 0 0 ++ items))) ∷ core.Break ∷ []))
    NoStatements ∷ []

case_bounded : (w : World) (names : List Named) (s : Shape) (number t p l n d : ℕ) (body : BlockItems) (items : List core.Statement)
    → d + 4 ≤ t → ItemsBounded w names 1 t p l n body items
    → IsBounded t p (shape_words w s + l) (8 + n) (case_code w names s number d body items)
case_bounded w names s number t p l n d body items h a =
    let all = shape_words w s + l in
    let j = a.bounded.less in let m = a.locals in
    let o = 3 + (4 + a.bounded.operations) in
    let inside = both_cost t p 0 3 (0 + a.inner) (4 + a.bounded.operations) (held_loads s d) _ (held_loads_costs s t p d (omega (arith, h)))
    (both_cost t p 0 4 a.inner a.bounded.operations (put_local s d 0 0) items (put_local_costs s t p d 0 0 h) a.bounded.costs) in
    let these = both_cost t p all (1 + o) 0 1 _ (core.Break ∷ [])
    (block_costs t p all (0 + (0 + a.inner)) o w (s ∷ block_shapes w names 1 body) (held_loads s d ++ (put_local s d 0 0 ++ items)) (omega (arith, m)) inside)
    (one_costs t p 0 1 core.Break (omega arith) (omega arith) (omega arith) (omega arith)) in
    record {
      operations = 1 + (1 + (1 + (1 + o + 1 + 0)));
      costs = more_costs t p (0 + (all + 0 + 0)) (2 + (1 + (1 + o + 1 + 0))) t p all _ _ (omega arith) (omega arith) (omega arith) (omega arith)
          (both_cost t p 0 2 (all + 0 + 0) (1 + (1 + o + 1 + 0)) (Do (Constant (d + 2) number) ∷ Do (Apply Equal (d + 2) (d + 1) (d + 2)) ∷ []) _
          (does_then t p 1 (Constant (d + 2) number) _ (omega (arith, h)) (does_one t p (Apply Equal (d + 2) (d + 1) (d + 2)) (omega (arith, h))))
          (if_costs t p (d + 2) (all + 0) 0 (1 + o + 1) 0 _ [] (omega (arith, h)) these (no_costs t p)));
      less = omega (arith, j);
    }

-- ---- statements

mutual
  statement_bounded : (w : World) (result : Shape) (names : List Named) (r : RegionsAround) (own : ℕ) (s : Statement) (t p : ℕ)
      → TakesStatement w result names s → r.all + (statement_regions s + 4 * statement_count w s) + 2 ≤ t
      → 3 * statement_count w s ≤ p
      → IsBounded t p (statement_locals w names s + statement_indices s) (statement_size s + statement_left r s) (statement_code w result names r own s)
  statement_bounded w result names r own (Statement.Empty at) t p h f g = record { operations = 0; costs = no_costs t p; less = omega arith }
  statement_bounded w result names r own (Statement.Block at items) t p h f g =
      let one = items_bounded w result (outward names) r 0 own items t p h (omega (arith, f)) g in
      let b = one.bounded.less in let l = one.locals in
      record {
        operations = 1 + one.bounded.operations;
        costs = block_costs t p (item_locals w (outward names) 0 items + item_indices items) one.inner one.bounded.operations w
            (block_shapes w (outward names) 0 items)
            _ l one.bounded.costs;
        less = omega (arith, b);
      }
  statement_bounded w result names r own (Statement.Run e) t p h f g =
      let a = run_costs w names e t p r.all own h (omega (arith, f)) (omega (arith, f)) (omega (arith, g)) in let l = a.less in
      record { operations = a.operations; costs = sized a.costs (omega arith); less = omega (arith, l) }
  statement_bounded w result names r own (Statement.FreeUnique at pointer) t p h f g =
      record {
        operations = 2 + 2;
        costs = both_cost t p 0 2 0 2 (get_code w names pointer.text r.all) _
            (moved_costs t p r.all (local_named names pointer.text) (bound_to w.globals pointer.text)
            (thin_moved (static_shape w names (Expression.Variable pointer)) h) (omega (arith, f)))
            (if_costs t p r.all 0 0 1 0 (Do (UniqueFree r.all) ∷ []) [] (omega (arith, f)) (does_one t p (UniqueFree r.all) (omega (arith, f))) (no_costs t p));
        less = omega arith;
      }
  statement_bounded w result names r own (Statement.Exchange left right) t p h f g =
      let s = static_shape w names left in
      let x = side_of names left in
      let y = side_of names right in
      let n = one_node left in
      let m = one_node right in
      let a = place_costs w names left t p r.all own h.0 (omega (arith, f)) (omega (arith, g)) in
      let b = place_costs w names right t p (r.all + 1) (own + length (expression_values w names left)) h.1.0 (omega (arith, f, n)) (omega (arith, g)) in
      let l = a.less in let k = b.less in
      record {
        operations = a.operations + (b.operations + 16);
        costs = sized (both_cost t p _ a.operations _ (b.operations + 16) _ _ (side_costs x t p _ a.operations _ a.costs)
            (both_cost t p _ b.operations _ 16 _ _ (side_costs y t p _ b.operations _ b.costs) (exchange_costs w x y s t p r.all (omega (arith, f, n, m)))))
            (omega arith);
        less = omega (arith, l, k);
      }
  statement_bounded w result names r own (Statement.If at condition body) t p h f g =
      let a = expression_costs w names condition t p r.all own h.0 (omega (arith, f)) (omega (arith, g)) in
      let b = statement_bounded w result names r (own + length (expression_values w names condition)) body t p h.1 (omega (arith, f)) (omega (arith, g)) in
      let l = a.less in let k = b.less in
      record {
        operations = a.operations + (1 + (b.operations + 0));
        costs = sized (both_cost t p _ a.operations _ (1 + (b.operations + 0)) _ _ a.costs
            (if_costs t p r.all _ 0 b.operations 0 _ [] (omega (arith, f)) b.costs (no_costs t p))) (omega arith);
        less = omega (arith, l, k);
      }
  statement_bounded w result names r own (Statement.IfElse at condition body otherwise) t p h f g =
      let first = own + length (expression_values w names condition) in
      let a = expression_costs w names condition t p r.all own h.0 (omega (arith, f)) (omega (arith, g)) in
      let b = statement_bounded w result names r first body t p h.1.0 (omega (arith, f)) (omega (arith, g)) in
      let c = statement_bounded w result names r (first + length (statement_values w names body)) otherwise t p h.1.1 (omega (arith, f)) (omega (arith, g)) in
      let l = a.less in let k = b.less in let j = c.less in
      record {
        operations = a.operations + (1 + (b.operations + c.operations));
        costs = sized (both_cost t p _ a.operations _ (1 + (b.operations + c.operations)) _ _ a.costs
            (if_costs t p r.all _ _ b.operations c.operations _ _ (omega (arith, f)) b.costs c.costs)) (omega arith);
        less = omega (arith, l, k, j);
      }
  statement_bounded w result names r own (Statement.While at condition body) t p h f g =
      let a = expression_costs w names condition t p r.all own h.0 (omega (arith, f)) (omega (arith, g)) in
      let b = statement_bounded w result names (in_loop r) (own + length (expression_values w names condition)) body t p h.1 (omega (arith, f))
      (omega (arith, g)) in
      let l = a.less in let k = b.less in
      record {
        operations = 1 + (a.operations + b.operations);
        costs = sized (while_costs t p r.all _ _ a.operations b.operations _ _ (omega (arith, f)) a.costs b.costs) (omega arith);
        less = omega (arith, l, k);
      }
  statement_bounded w result names r own (Statement.Switch at place clauses) t p h f g =
      let first = own + length (expression_values w names place) in
      let parts = union_parts w (static_shape w names place) in
      let l = clause_locals w names parts clauses + (indices_in place + clause_indices clauses) in
      let n = one_node place in
      let a = place_costs w names place t p r.all own h.0 (omega (arith, f)) (omega (arith, g)) in
      let last = first + length (case_values w names parts clauses) in
      let b = clauses_bounded w result names (in_switch r) parts first last clauses t p h.1.1 (omega (arith, f, n)) (omega (arith, f)) (omega (arith, g)) in
      let j = a.less in let k = b.less in let e = b.locals in
      let o = a.operations + (1 + (b.case_operations + b.default_operations)) in
      record {
        operations = o;
        costs = leave_costs t p l o _ (more_costs t p (indices_in place + (0 + (b.case_locals + b.default_locals))) o t p l o _ (omega arith) (omega arith)
            (omega (arith, e)) (omega arith)
            (both_cost t p (indices_in place) a.operations (0 + (b.case_locals + b.default_locals)) (1 + (b.case_operations + b.default_operations)) _ _ a.costs
            (both_cost t p 0 1 (b.case_locals + b.default_locals) (b.case_operations + b.default_operations) (tag_load (r.all + 1) r.all) _
            (tag_load_costs t p (r.all + 1) r.all (omega (arith, f, n)) (omega (arith, f, n)))
            (both_cost t p b.case_locals b.case_operations b.default_locals b.default_operations _ _ b.cases b.otherwise))));
        less = omega (arith, j, k);
      }
  statement_bounded w result names r own (Statement.Break at) t p h f g =
      leaves t p r.opened r.all r.broken 1 core.Break (omega (arith, f)) (omega arith)
      (one_costs t p 0 1 core.Break (omega arith) (omega arith) (omega arith) (omega arith))
  statement_bounded w result names r own (Statement.Continue at) t p h f g =
      leaves t p r.opened r.all r.continued 1 core.Continue (omega (arith, f)) (omega arith)
      (one_costs t p 0 1 core.Continue (omega arith) (omega arith) (omega arith) (omega arith))
  statement_bounded w result names r own (Statement.Return at None) t p h f g =
      leaves t p r.opened r.all r.all 1 (Return []) (omega (arith, f)) (omega arith)
      (one_costs t p 0 1 (Return []) (omega arith) (omega arith) (omega arith) (omega arith))
  statement_bounded w result names r own (Statement.Return at (Some e)) t p h f g =
      let n = one_node e in
      let a = expression_costs w names e t p r.all own h (omega (arith, f)) (omega (arith, g)) in
      let b = returned_costs w t p r.all result (static_shape w names e) (omega (arith, f, n)) in
      let l = a.less in let k = b.few in
      record {
        operations = a.operations + (b.converts + (r.all + b.returns));
        costs = sized (both_cost t p _ a.operations 0 (b.converts + (r.all + b.returns)) _ _ a.costs
            (both_cost t p 0 b.converts 0 (r.all + b.returns) _ _ b.converting
            (both_cost t p 0 r.all 0 b.returns _ _ (leaving_costs r.opened r.all r.all t p (omega (arith, f))) b.returning))) (omega arith);
        less = omega (arith, l, k);
      }
  statement_bounded w result names r own (Statement.FreeKey at key) t p h f g =
      record {
        operations = 2 + 1;
        costs = both_cost t p 0 2 0 1 (get_code w names key.text r.all) _
            (moved_costs t p r.all (local_named names key.text) (bound_to w.globals key.text) (key_moved (static_shape w names (Expression.Variable key)) h)
            (omega (arith, f)))
            (does_one t p (KeyFree r.all) (omega (arith, f)));
        less = omega arith;
      }

  pub items_bounded : (w : World) (result : Shape) (names : List Named) (r : RegionsAround) (index own : ℕ) (items : BlockItems) (t p : ℕ)
      → TakesItems w result names index items
      → r.all + (item_regions items + 4 * item_count w items) + 2 ≤ t → 3 * item_count w items ≤ p
      → ItemsBounded w names index t p (item_locals w names index items + item_indices items) (item_size items + items_left r items) items
      (items_code w result names r index own items)
  items_bounded w result names r index own NoItems t p h f g = record {
    inner = 0;
    bounded = record { operations = 0; costs = no_costs t p; less = omega arith };
    locals = omega arith;
  }
  items_bounded w result names r index own (Declare d others) t p h f g =
      let counted = regions_counted d r.all in
      let a = declaration_bounded w names d r.all index own t p h.0 (omega (arith, f)) (omega (arith, g)) in
      let b = items_bounded w result (names_behind w names index d) (regions_with d r) (suc index)
      (own + length (declaration_values w names d)) others t p h.1 (omega (arith, f, counted)) (omega (arith, g)) in
      let l = a.less in let k = b.bounded.less in let m = b.locals in
      record {
        inner = indices_in_declaration d + b.inner;
        bounded = record {
          operations = a.operations + (b.bounded.operations + 1);
          costs = sized (both_cost t p _ a.operations _ (b.bounded.operations + 1) _ _ a.costs
              (both_cost t p b.inner b.bounded.operations 0 1 _ _ b.bounded.costs (ending_costs d r.all t p (omega (arith, f))))) (omega arith);
          less = omega (arith, l, k);
        };
        locals = omega (arith, m);
      }
  items_bounded w result names r index own (Execute s others) t p h f g =
      let a = statement_bounded w result names r own s t p h.0 (omega (arith, f)) (omega (arith, g)) in
      let b = items_bounded w result names r index (own + length (statement_values w names s)) others t p h.1 (omega (arith, f)) (omega (arith, g)) in
      let l = a.less in let k = b.bounded.less in let m = b.locals in
      record {
        inner = statement_locals w names s + statement_indices s + b.inner;
        bounded = record {
          operations = a.operations + b.bounded.operations;
          costs = both_cost t p (statement_locals w names s + statement_indices s) a.operations b.inner b.bounded.operations _ _ a.costs b.bounded.costs;
          less = omega (arith, l, k);
        };
        locals = omega (arith, m);
      }

  -- the pointer to the union and its tag are in the first free temporaries, with two behind them
  clauses_bounded : (w : World) (result : Shape) (names : List Named) (r : RegionsAround) (parts : List Part) (own last : ℕ) (clauses : Clauses) (t p : ℕ)
      → TakesClauses w result names parts clauses → r.all + 4 ≤ t
      → r.all + (clause_regions clauses + 4 * clause_count w clauses) + 2 ≤ t → 3 * clause_count w clauses ≤ p
      → ClausesBounded t p (clause_locals w names parts clauses + clause_indices clauses) (clauses_size clauses + clauses_left r clauses)
      (cases_code w result names r parts own clauses) (default_code w result names r last clauses)
  clauses_bounded w result names r parts own last NoClauses t p h e f g = record {
    case_locals = 0;
    default_locals = 0;
    case_operations = 0;
    default_operations = 0;
    cases = no_costs t p;
    otherwise = no_costs t p;
    locals = omega arith;
    less = omega arith;
  }
  clauses_bounded w result names r parts own last (MoreClauses at (Case f x) body others) t p h e less g =
      let s = part_shape parts f.text in
      let inner = named_here x.text s 0 ∷ outward names in
      let a = items_bounded w result inner r 1 own body t p h.1.0 (omega (arith, less)) (omega (arith, g)) in
      let b = clauses_bounded w result names r parts (own + length (item_values w inner 1 body)) last others t p h.1.1 e (omega (arith, less))
      (omega (arith, g)) in
      let one = case_bounded w inner s (member_number parts f.text) t p (item_locals w inner 1 body + item_indices body)
      (item_size body + items_left r body) r.all body
      (items_code w result inner r 1 own body) e a in
      let j = one.less in let k = b.less in let l = b.locals in
      record {
        case_locals = shape_words w s + (item_locals w inner 1 body + item_indices body) + b.case_locals;
        default_locals = b.default_locals;
        case_operations = one.operations + b.case_operations;
        default_operations = b.default_operations;
        cases = both_cost t p (shape_words w s + (item_locals w inner 1 body + item_indices body)) one.operations b.case_locals b.case_operations
            (case_code w inner s (member_number parts f.text) r.all body (items_code w result inner r 1 own body)) _ one.costs b.cases;
        otherwise = b.otherwise;
        locals = omega (arith, l);
        less = omega (arith, j, k);
      }
  clauses_bounded w result names r parts own last (MoreClauses at Default body others) t p h e f g =
      let a = items_bounded w result (outward names) r 0 last body t p h.0 (omega (arith, f)) (omega (arith, g)) in
      let b = clauses_bounded w result names r parts own last others t p h.1 e (omega (arith, f)) (omega (arith, g)) in
      let m = a.locals in let j = a.bounded.less in let k = b.less in let l = b.locals in
      record {
        case_locals = b.case_locals;
        default_locals = item_locals w (outward names) 0 body + item_indices body;
        case_operations = b.case_operations;
        default_operations = 1 + a.bounded.operations;
        cases = b.cases;
        otherwise = block_costs t p (item_locals w (outward names) 0 body + item_indices body) a.inner a.bounded.operations w
            (block_shapes w (outward names) 0 body)
            _ m a.bounded.costs;
        locals = omega (arith, l);
        less = omega (arith, j, k);
      }
