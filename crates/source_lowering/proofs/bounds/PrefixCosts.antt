-- What the code of a prefix operator takes, around that of its operand.
use Rattle.std.proofs.Common.{ℕ, ◌+◌, ◌*◌, ◌≤◌, List, ◌++◌, arith}
use Rattle.cyc_tree.specs.declared.expression.Operator.TheVariants as operator
use Rattle.cyc_tree.specs.declared.expression.Prefix.TheVariants as prefix
use Rattle.source_meaning.specs.Shapes.{Shape, IntShape, pointee}
use Rattle.source_meaning.specs.Steps.{World}
use Rattle.core_meaning.specs.Core.{Statement, Constant}
use Rattle.source_lowering.specs.Lowered.{reach_code, loads_code, not_code, prefix_code, pointed_code}
use Rattle.source_lowering.proofs.bounds.Costs.{Costs, both_cost, does_then, sized}
use Rattle.source_lowering.proofs.bounds.ValueCosts.{loads_costs, reach_costs}
use Rattle.source_lowering.proofs.bounds.PartCosts.{IsCheap, not_costs, operator_costs}

-- an operator's code around that of its operand
pub negate_costs : {l : ℕ} (w : World) (t p d n : ℕ) (s : Shape) (code here place : List Statement) → d + 4 ≤ t → IsCheap t p l n code
    → IsCheap t p l (1 + n) (prefix_code w prefix.Negate s d code here place)
negate_costs w t p d n s code here place g c = record {
  operations = 1 + (c.operations + 3);
  costs = sized (does_then t p (c.operations + 3) (Constant d 0) _ (omega (arith, g))
      (both_cost t p _ c.operations _ 3 code _ c.costs (operator_costs t p d operator.Subtract IntShape s g))) (omega arith);
  less = let l = c.less in omega (arith, l);
}

pub complement_costs : {l : ℕ} (w : World) (t p d n : ℕ) (s : Shape) (code here place : List Statement) → d + 4 ≤ t → IsCheap t p l n code
    → IsCheap t p l (1 + n) (prefix_code w prefix.Complement s d code here place)
complement_costs w t p d n s code here place g c = record {
  operations = 1 + (c.operations + 3);
  costs = sized (does_then t p (c.operations + 3) (Constant d 4294967295) _ (omega (arith, g))
      (both_cost t p _ c.operations _ 3 code _ c.costs (operator_costs t p d operator.BitXor IntShape s g))) (omega arith);
  less = let l = c.less in omega (arith, l);
}

pub inverted_costs : {l : ℕ} (w : World) (t p d n : ℕ) (s : Shape) (code here place : List Statement) → d + 4 ≤ t → IsCheap t p l n code
    → IsCheap t p l (1 + n) (prefix_code w prefix.Not s d code here place)
inverted_costs w t p d n s code here place g c = record {
  operations = c.operations + 2;
  costs = sized (both_cost t p _ c.operations _ 2 code (not_code s d) c.costs (not_costs t p d s g)) (omega arith);
  less = let l = c.less in omega (arith, l);
}

-- a pointer with its check leaves three operations more to loads or stores
pub record IsPointed (t p l n : ℕ) (code : List Statement) : Type 0 where
  pub operations : ℕ
  pub costs : Costs t p l operations code
  pub less : operations + 7 ≤ 8 * n

pub contents_costs : {l : ℕ} (w : World) (t p d n : ℕ) (s : Shape) (code : List Statement) → d + 4 ≤ t → IsCheap t p l n code
    → IsPointed t p l (1 + n) (pointed_code w prefix.Dereference s d code)
contents_costs w t p d n s code g c = record {
  operations = c.operations + 4;
  costs = sized (both_cost t p _ c.operations _ 4 code (reach_code w s d) c.costs (reach_costs w s t p d g)) (omega arith);
  less = let l = c.less in omega (arith, l);
}

pub loaded_costs : {l : ℕ} (w : World) (t p d n : ℕ) (s : Shape) (above code place : List Statement) → d + 4 ≤ t → IsCheap t p l n code
    → IsCheap t p l (1 + n) (prefix_code w prefix.Dereference s d above code place)
loaded_costs w t p d n s above code place g c =
    let one = contents_costs w t p d n s code g c in
    record {
      operations = one.operations + 3;
      costs = sized (both_cost t p _ one.operations _ 3 (code ++ reach_code w s d) (loads_code (pointee s) d 0 0) one.costs
          (loads_costs (pointee s) t p d 0 0 (omega (arith, g)))) (omega arith);
      less = let l = one.less in omega (arith, l);
    }
