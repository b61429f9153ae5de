-- What the code of initializers and of expressions that are statements takes, structs and unions too.
use Rattle.std.proofs.Common.{◌≡◌, refl, ℕ, suc, ◌+◌, ◌*◌, ◌≤◌, Bool, true, false, List, [], ◌∷◌, ◌++◌, length, arith}
use Rattle.std.specs.Prelude.{if◌then◌else◌}
use Rattle.cyc_tree.specs.Tree.{Name, Expression, Expressions}
use Rattle.source_meaning.specs.Shapes.{Shape, StructShape, UnionShape}
use Rattle.source_meaning.specs.Steps.{World}
use Rattle.core_meaning.specs.Core.{Copy, Do}
use Rattle.source_lowering.specs.Layouts.{layout_of}
use Rattle.source_lowering.specs.Lowered.{Named, arguments_code, call_parameters, expression_code, place_code, static_shape}
use Rattle.source_lowering.specs.Programs.{source_code}
use Rattle.source_lowering.specs.Whole.{makes_struct, is_made, whole_values, whole_code, assigned_code, dropped_code, run_code}
use Rattle.source_lowering.specs.Lowerable.{Takes, TakesPlace, TakesWhole, TakesAssigned, TakesDropped, TakesCalled, TakesRun}
use Rattle.source_lowering.specs.Bounds.{tokens_of}
use Rattle.source_lowering.specs.Order.{indices_in, indices_in_all}
use Rattle.source_lowering.proofs.bounds.Nodes.{expression_count, run_count}
use Rattle.source_lowering.proofs.bounds.Costs.{both_cost, does_one, sized}
use Rattle.source_lowering.proofs.bounds.PartCosts.{ArePassed, made_result}
use Rattle.source_lowering.proofs.bounds.MadeCosts.{IsWhole}
use Rattle.source_lowering.proofs.bounds.Counted.{one_node}
use Rattle.source_lowering.proofs.bounds.ExpressionCosts.{arguments_costs, place_costs, expression_costs, whole_costs}
use Rattle.source_lowering.proofs.bounds.OperandCosts.{called_cheap}
use Rattle.source_lowering.proofs.bounds.WholeObjects.{unmade_place}
use Rattle.source_lowering.proofs.bounds.ExpressionCosts.{stores_costs}
use Rattle.source_lowering.specs.Lowered.{expression_values}
use Rattle.source_lowering.proofs.bounds.PartCosts.{conversion_costs}

-- ---- initializers

-- the initializer of a struct or a union
pub source_costs : (w : World) (names : List Named) (e : Expression) (t p d own : ℕ) → TakesWhole w names e
    → d + 4 * expression_count e ≤ t → 3 * expression_count e ≤ p
    → IsWhole t p (indices_in e) (tokens_of e) (source_code w names (is_made w e) e d own)
source_costs w names e t p d own h f g = by (is_made w e) refl
  where
    by : (made : Bool) → is_made w e ≡ made → IsWhole t p (indices_in e) (tokens_of e) (source_code w names made e d own)
    by true is = whole_costs w names e t p d own h f g
    by false is =
        let a = place_costs w names e t p d own (unmade_place w names e h is) f g in let l = a.less in
        record { operations = a.operations; costs = a.costs; less = omega (arith, l) }

-- ---- expressions that are statements

word_run : (w : World) (names : List Named) (e : Expression) (t p d own : ℕ) → Takes w names e → d + 4 * expression_count e ≤ t
    → 3 * expression_count e ≤ p
    → ArePassed t p (indices_in e) (tokens_of e) (expression_code w names e d own)
word_run w names e t p d own h f g =
    let a = expression_costs w names e t p d own h f g in let l = a.less in
    record { operations = a.operations; costs = a.costs; less = omega (arith, l) }

whole_run : (w : World) (names : List Named) (e : Expression) (t p d own : ℕ) → TakesWhole w names e → d + 4 * expression_count e ≤ t
    → 3 * expression_count e ≤ p
    → ArePassed t p (indices_in e) (tokens_of e) (whole_code w names e d own)
whole_run w names e t p d own h f g =
    let a = whole_costs w names e t p d own h f g in let l = a.less in
    record { operations = a.operations; costs = a.costs; less = omega (arith, l) }

assigned_costs : (w : World) (names : List Named) (s : Shape) (place value : Expression) (t p d own : ℕ) → TakesAssigned w names s place value
    → d + 4 * (expression_count place + expression_count value) ≤ t → 3 * (expression_count place + expression_count value) ≤ p
    → ArePassed t p (indices_in value + indices_in place) (tokens_of place + (1 + tokens_of value)) (assigned_code w names s place value d own)
assigned_costs w names s place value t p d own h f g = by s h
  where
    as_a_whole : (of : Shape) → TakesPlace w names place → TakesWhole w names value
        → ArePassed t p (indices_in value + indices_in place) (tokens_of place + (1 + tokens_of value))
        (whole_code w names value d own ++
        (place_code w names place (d + 1) (own + length (whole_values w names value)) ++ (Do (Copy (d + 1) d (layout_of w of)) ∷ [])))
    as_a_whole of to from =
        let n = one_node value in
        let a = whole_costs w names value t p d own from (omega (arith, f)) (omega (arith, g)) in
        let b = place_costs w names place t p (d + 1) (own + length (whole_values w names value)) to (omega (arith, f, n)) (omega (arith, g)) in
        let l = a.less in let k = b.less in
        record {
          operations = a.operations + (b.operations + 1);
          costs = sized (both_cost t p _ a.operations _ (b.operations + 1) _ _ a.costs
              (both_cost t p _ b.operations _ 1 _ _ b.costs (does_one t p (Copy (d + 1) d (layout_of w of)) (omega (arith, f, n))))) (omega arith);
          less = omega (arith, l, k);
        }

    by : (of : Shape) → TakesAssigned w names of place value
        → ArePassed t p (indices_in value + indices_in place) (tokens_of place + (1 + tokens_of value)) (assigned_code w names of place value d own)
    by (StructShape tag) h = as_a_whole (StructShape tag) h.0 h.1.0
    by (UnionShape tag) h = as_a_whole (UnionShape tag) h.0 h.1.0
    by _ h =
        let n = one_node value in
        let a = expression_costs w names value t p d own h.1.0 (omega (arith, f)) (omega (arith, g)) in
        let b = stores_costs w names place t p d (own + length (expression_values w names value)) h.0 (omega (arith, f, n)) (omega (arith, g)) in
        let l = a.less in let k = b.less in
        record {
          operations = a.operations + (8 + b.operations);
          costs = sized (both_cost t p _ a.operations _ (8 + b.operations) _ _ a.costs
              (both_cost t p _ 8 _ b.operations _ _ (conversion_costs w t p d (static_shape w names place) (static_shape w names value)
              (omega (arith, f, n))) b.costs)) (omega arith);
          less = omega (arith, l, k);
        }

dropped_costs : (w : World) (names : List Named) (s : Shape) (e : Expression) (t p d own : ℕ) → TakesDropped w names s e
    → d + 4 * expression_count e ≤ t
    → 3 * expression_count e ≤ p → ArePassed t p (indices_in e) (tokens_of e) (dropped_code w names s e d own)
dropped_costs w names (StructShape tag) e t p d own h f g = whole_run w names e t p d own h f g
dropped_costs w names (UnionShape tag) e t p d own h f g = whole_run w names e t p d own h f g
dropped_costs w names _ e t p d own h f g = word_run w names e t p d own h f g

-- a call may have no value
call_run : (w : World) (names : List Named) (name : Name) (arguments : Expressions) (t p d own : ℕ)
    → TakesCalled (makes_struct w name.text) (TakesWhole w names (Expression.Call name arguments)) (Takes w names (Expression.Call name arguments))
    → suc d ≤ t → d + 4 * run_count w (Expression.Call name arguments) ≤ t → 3 * run_count w (Expression.Call name arguments) ≤ p
    → ArePassed t p (indices_in_all arguments) (tokens_of (Expression.Call name arguments)) (run_code w names (Expression.Call name arguments) d own)
call_run w names name arguments t p d own h free f g = by (makes_struct w name.text) refl h
  where
    e : Expression
    e = Expression.Call name arguments

    by : (made : Bool) → makes_struct w name.text ≡ made → TakesCalled made (TakesWhole w names e) (Takes w names e)
        → ArePassed t p (indices_in e) (tokens_of e) (if made then whole_code w names e d own else expression_code w names e d own)
    by true is h = let one = made_result w name.text is in whole_run w names e t p d own h (omega (arith, f, one)) (omega (arith, g, one))
    by false is h =
        let a = called_cheap w name.text (call_parameters w name.text) arguments (arguments_code w names (call_parameters w name.text) arguments d own)
        t p d (omega (arith, free, f)) (omega (arith, f)) (omega (arith, g))
        (arguments_costs w names (call_parameters w name.text) arguments t p d own h.1 (omega (arith, f)) (omega (arith, g))) in
        let l = a.less in
        record { operations = a.operations; costs = a.costs; less = omega (arith, l) }

pub run_costs : (w : World) (names : List Named) (e : Expression) (t p d own : ℕ) → TakesRun w names e → suc d ≤ t
    → d + 4 * run_count w e ≤ t → 3 * run_count w e ≤ p
    → ArePassed t p (indices_in e) (tokens_of e) (run_code w names e d own)
run_costs w names (Expression.Assign place value) t p d own h free f g = assigned_costs w names (static_shape w names place) place value t p d own h f g
run_costs w names (Expression.Grouped at inner) t p d own h free f g =
    let a = run_costs w names inner t p d own h free f g in let l = a.less in
    record { operations = a.operations; costs = a.costs; less = omega (arith, l) }
run_costs w names (Expression.Call name arguments) t p d own h free f g = call_run w names name arguments t p d own h free f g
run_costs w names e t p d own h free f g = dropped_costs w names (static_shape w names e) e t p d own h f g
