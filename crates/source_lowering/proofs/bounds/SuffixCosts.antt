-- What the code of members and elements takes.
use Rattle.std.proofs.Common.{ℕ, zero, suc, ◌+◌, ◌*◌, ◌≤◌, List, ◌++◌, arith}
use Rattle.source_lowering.specs.Members.{subscript_code}
use Rattle.source_lowering.proofs.bounds.ValueCosts.{subscript_costs}
use Rattle.source_meaning.specs.Shapes.{Shape, pointee}
use Rattle.source_meaning.specs.Steps.{World}
use Rattle.core_meaning.specs.Core.{Statement}
use Rattle.source_lowering.specs.Members.{loads_code, stores_code, reach_code, offset_code, Left, member_at, member_behind, element_at, pointer_to}
use Rattle.source_lowering.specs.Members.{store_to}
use Rattle.source_lowering.proofs.bounds.Costs.{Costs, both_cost, does_one, nothing, sized}
use Rattle.source_lowering.proofs.bounds.ValueCosts.{loads_costs, kept_costs, reach_costs}
use Rattle.source_lowering.proofs.bounds.PartCosts.{IsCheap, ArePassed}
use Rattle.source_lowering.proofs.bounds.PrefixCosts.{IsPointed}

-- a pointer leaves an operation more than one with its check: that to a member behind it
pub record IsReached (t p l n : ℕ) (code : List Statement) : Type 0 where
  pub operations : ℕ
  pub costs : Costs t p l operations code
  pub less : operations + 8 ≤ 8 * n

-- what stands on the left of a suffix, wherever it comes, by its nodes and tokens
pub record IsLeft (t p m l n : ℕ) (left : Left) : Type 0 where
  pub enough : 1 ≤ m
  pub pointer : (d : ℕ) → d + 4 * m ≤ t → IsReached t p l n (left.pointer d)
  pub value : (d : ℕ) → d + 4 * m ≤ t → IsCheap t p l n (left.value d)

pub more_left : {l l' : ℕ} (t p m n m' n' : ℕ) (left : Left) → m ≤ m' → n ≤ n' → l ≤ l' → IsLeft t p m l n left → IsLeft t p m' l' n' left
more_left t p m n m' n' left g h i one = record {
  enough = let e = one.enough in omega (arith, e, g);
  pointer = λ d f. let a = one.pointer d (omega (arith, f, g)) in let l = a.less in
      record { operations = a.operations; costs = sized a.costs i; less = omega (arith, l, h) };
  value = λ d f. let a = one.value d (omega (arith, f, g)) in let l = a.less in
      record { operations = a.operations; costs = sized a.costs i; less = omega (arith, l, h) };
}

-- a suffix has two tokens at least
pub member_left : {l : ℕ} (w : World) (s : Shape) (pointer : ℕ → List Statement) (cells bytes : ℕ) (f : List ℕ) (t p m n : ℕ) → 1 ≤ m
    → ((d : ℕ) → d + 4 * m ≤ t → ArePassed t p l n (pointer d)) → IsLeft t p (m + 1) l (n + 2) (member_at w s pointer cells bytes f)
member_left w s pointer cells bytes f t p m n enough c = record {
  enough = omega (arith, enough);
  pointer = λ d g. let a = c d (omega (arith, g)) in let l = a.less in record { operations = a.operations; costs = a.costs; less = omega (arith, l) };
  value = λ d g.
      let left : Left = member_at w s pointer cells bytes f in
      let a = c d (omega (arith, g)) in let l = a.less in
      record {
        operations = a.operations + 3;
        costs = sized (both_cost t p _ a.operations _ 3 (pointer d) _ a.costs (loads_costs left.shape t p d left.cells left.bytes (omega (arith, g))))
            (omega arith);
        less = omega (arith, l);
      };
}

-- a member of what has a place
pub dot_left : {l : ℕ} (w : World) (left : Left) (f : List ℕ) (t p m n : ℕ) → IsLeft t p m l n left
    → IsLeft t p (m + 1) l (n + 2) (member_at w left.shape left.pointer left.cells left.bytes f)
dot_left w left f t p m n one =
    member_left w left.shape left.pointer left.cells left.bytes f t p m n one.enough
    (λ d g. let a = one.pointer d g in let l = a.less in record { operations = a.operations; costs = a.costs; less = omega (arith, l) })

-- a member of what a value leads to
pub arrow_left : {l : ℕ} (w : World) (left : Left) (f : List ℕ) (t p m n : ℕ) → 1 ≤ m → ((d : ℕ) → d + 4 * m ≤ t → IsCheap t p l n (left.value d))
    → IsLeft t p (m + 1) l (n + 2) (member_behind w left f)
arrow_left w left f t p m n enough value =
    member_left w (pointee left.shape) (λ d. left.value d ++ reach_code w left.shape d) 0 0 f t p m n enough
    (λ d g. let a = value d g in let l = a.less in record {
      operations = a.operations + 4;
      costs = sized (both_cost t p _ a.operations _ 4 (left.value d) (reach_code w left.shape d) a.costs
          (reach_costs w left.shape t p d (omega (arith, g, enough)))) (omega arith);
      less = omega (arith, l);
    })

-- an element of what a value leads to
pub element_left : {l i : ℕ} (w : World) (from : Shape) (index value : ℕ → List Statement) (t p m n k j : ℕ) → 1 ≤ m
    → ((d : ℕ) → d + 4 * k ≤ t → IsCheap t p i j (index d)) → ((d : ℕ) → d + 4 * m ≤ t → IsCheap t p l n (value d))
    → IsLeft t p (m + (1 + k)) (i + l) (n + (2 + j)) (element_at w from index value)
element_left {l = l} {i = i} w from index value t p m n k j enough indexed valued = record {
  enough = omega (arith, enough);
  pointer = reached;
  value = λ d g.
      let a = reached d g in let l = a.less in
      record {
        operations = a.operations + 3;
        costs = sized (both_cost t p _ a.operations _ 3 (index d ++ (value (d + 1) ++ subscript_code w from d)) (loads_code (pointee from) d 0 0) a.costs
            (loads_costs (pointee from) t p d 0 0 (omega (arith, g, enough)))) (omega arith);
        less = omega (arith, l);
      };
}
  where
    reached : (d : ℕ) → d + 4 * (m + (1 + k)) ≤ t → IsReached t p (i + l) (n + (2 + j)) (index d ++ (value (d + 1) ++ subscript_code w from d))
    reached d g =
        let a = indexed d (omega (arith, g)) in let l = a.less in
        let b = valued (d + 1) (omega (arith, g)) in let r = b.less in
        record {
          operations = a.operations + (b.operations + 5);
          costs = sized (both_cost t p _ a.operations _ (b.operations + 5) (index d) _ a.costs
              (both_cost t p _ b.operations _ 5 (value (d + 1)) (subscript_code w from d) b.costs (subscript_costs w from t p d (omega (arith, g, enough)))))
              (omega arith);
          less = omega (arith, l, r);
        }

-- ---- what is done with it

offset_costs : (t p d cells bytes : ℕ) → suc d ≤ t → Costs t p 0 1 (offset_code d cells bytes)
offset_costs t p d zero zero h = nothing t p 1
offset_costs t p d zero (suc bytes) h = does_one t p _ (omega (arith, h))
offset_costs t p d (suc cells) bytes h = does_one t p _ (omega (arith, h))

-- a pointer to what suffixes lead to
pub pointed_left : {l : ℕ} (t p m n d : ℕ) (left : Left) → d + 4 * m ≤ t → IsLeft t p m l n left → IsPointed t p l n (pointer_to left d)
pointed_left t p m n d left g one =
    let a = one.pointer d g in let l = a.less in let e = one.enough in
    record {
      operations = a.operations + 1;
      costs = sized (both_cost t p _ a.operations _ 1 (left.pointer d) (offset_code d left.cells left.bytes) a.costs
          (offset_costs t p d left.cells left.bytes (omega (arith, g, e)))) (omega arith);
      less = omega (arith, l);
    }

-- a value is stored there
pub stored_left : {l : ℕ} (t p m n x d : ℕ) (left : Left) → x + 4 * m ≤ t → d + 3 ≤ t → IsLeft t p m l n left → IsCheap t p l n (store_to left x d)
stored_left t p m n x d left g h one =
    let a = one.pointer x g in let l = a.less in let e = one.enough in
    record {
      operations = a.operations + 3;
      costs = sized (both_cost t p _ a.operations _ 3 (left.pointer x) (stores_code left.shape x d left.cells left.bytes) a.costs
          (kept_costs left.shape t p x d left.cells left.bytes (omega (arith, g, e)) h)) (omega arith);
      less = omega (arith, l);
    }
