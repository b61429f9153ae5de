-- What stands around the code of values takes: structs and unions that are copied, members, and the requests of `new` and `rnew`.
use Rattle.std.proofs.Common.{ℕ, suc, ◌+◌, ◌*◌, ◌≤◌, List, [], ◌∷◌, ◌++◌, arith, length}
use Rattle.source_meaning.specs.Shapes.{Shape, StructShape, UnionShape, UnsignedShape}
use Rattle.source_meaning.specs.Steps.{World}
use Rattle.core_meaning.specs.Core.{Constant, Copy, Do, HeapHandle, Offset, OwnAddress, RegionAlloc, Statement, Add, Apply, Element, LessUnsigned, Put}
use Rattle.source_lowering.specs.Layouts.{layout_of, extent_of}
use Rattle.source_lowering.specs.Members.{words_in, tag_store}
use Rattle.source_lowering.specs.Lowered.{stores_code, copied_code, struct_member_code, word_member_code, member_code, request_code, new_code_by}
use Rattle.source_lowering.specs.Lowered.{array_code, element_by, elements_code, indexed_code, next_number, union_code, width_of}
use Rattle.source_lowering.specs.Lowerable.{TakesMember}
use Rattle.source_lowering.proofs.bounds.Costs.{Costs, at_most, block_costs, both_cost, does_one, does_then, sized, while_costs}
use Rattle.source_lowering.proofs.bounds.LocalWords.{word_words}
use Rattle.source_lowering.proofs.bounds.ValueCosts.{words_few, kept_costs, tag_store_costs, held_stores_costs}
use Rattle.source_lowering.proofs.bounds.PartCosts.{IsCheap, ArePassed, conversion_costs}
use Rattle.source_lowering.proofs.bounds.PrefixCosts.{IsPointed}
use Rattle.source_meaning.specs.Conversions.{cells_of}
use Rattle.std.proofs.Common.{Bool, true, false}
use Rattle.core_meaning.specs.Core.{UniqueAlloc}

-- a struct or a union leaves two operations to what is done with it
pub record IsWhole (t p l n : ℕ) (code : List Statement) : Type 0 where
  pub operations : ℕ
  pub costs : Costs t p l operations code
  pub less : operations + 2 ≤ 8 * n

-- what is made takes two operations more than its value's tokens have: those of `new` itself
pub record IsMade (t p l n : ℕ) (code : List Statement) : Type 0 where
  pub operations : ℕ
  pub costs : Costs t p l operations code
  pub less : operations ≤ 8 * n + 2

-- ---- places that are read whole

copied_costs : (w : World) (s : Shape) (t p d own : ℕ) → d + 2 ≤ t → Costs t p 0 3 (copied_code w s d own)
copied_costs w s t p d own h = both_cost t p 0 1 0 2 (Do (OwnAddress (d + 1) own) ∷ []) _ (does_one t p _ (omega (arith, h)))
    (both_cost t p 0 1 0 1 (Do (Copy (d + 1) d (layout_of w s)) ∷ []) _ (does_one t p _ (omega (arith, h))) (does_one t p _ (omega (arith, h))))

pub read_costs : {l : ℕ} (w : World) (s : Shape) (t p d own n : ℕ) (place : List Statement) → d + 2 ≤ t → IsPointed t p l n place
    → IsWhole t p l n (place ++ copied_code w s d own)
read_costs w s t p d own n place h a =
    let l = a.less in
    record {
      operations = a.operations + 3;
      costs = sized (both_cost t p _ a.operations _ 3 _ _ a.costs (copied_costs w s t p d own h)) (omega arith);
      less = omega (arith, l);
    }

-- ---- tagged unions that are made

-- the member's value is in the next temporaries
pub union_costs : {l : ℕ} (w : World) (s from : Shape) (t p d own number n : ℕ) (value : List Statement) → d + 1 + 4 ≤ t → IsCheap t p l n value
    → IsWhole t p l (5 + n) (Do (OwnAddress d own) ∷ (value ++ union_code w s from number d))
union_costs w s from t p d own number n value h a =
    let l = a.less in let few = words_few s in
    record {
      operations = 1 + (a.operations + (8 + (2 + 3)));
      costs = sized (both_cost t p _ 1 _ (a.operations + (8 + (2 + 3))) (Do (OwnAddress d own) ∷ []) _ (does_one t p _ (omega (arith, h)))
          (both_cost t p _ a.operations _ (8 + (2 + 3)) value _ a.costs
          (both_cost t p _ 8 _ (2 + 3) _ _ (conversion_costs w t p (d + 1) s from h)
          (both_cost t p _ 2 _ 3 (tag_store d (d + 1 + words_in s) number) _
          (tag_store_costs t p d (d + 1 + words_in s) number (omega (arith, h)) (omega (arith, h, few)))
          (held_stores_costs s t p d (d + 1) (omega (arith, h)) (omega (arith, h))))))) (omega arith);
      less = omega (arith, l);
    }

-- ---- members

pub member_costs : {l : ℕ} (w : World) (s from : Shape) (t p d cells bytes n : ℕ) (whole word : List Statement) (for_whole for_word : Type 0)
    → TakesMember s for_whole for_word → (for_whole → IsWhole t p l n whole) → (for_word → IsCheap t p l n word) → d + 1 + 4 ≤ t
    → ArePassed t p l (1 + n) (member_code w s from d cells bytes whole word)
member_costs {l = l} w s from t p d cells bytes n whole word for_whole for_word takes as_whole as_word h = by s takes
  where
    as_a_word : (of : Shape) → for_word → ArePassed t p l (1 + n) (word ++ word_member_code w of from d cells bytes)
    as_a_word of takes =
        let a = as_word takes in let l = a.less in
        record {
          operations = a.operations + (8 + 3);
          costs = sized (both_cost t p _ a.operations _ (8 + 3) _ _ a.costs (both_cost t p _ 8 _ 3 _ _ (conversion_costs w t p (d + 1) of from h)
              (kept_costs of t p d (d + 1) cells bytes (omega (arith, h)) (omega (arith, h))))) (omega arith);
          less = omega (arith, l);
        }

    as_a_whole : (of : Shape) → for_whole → ArePassed t p l (1 + n) (whole ++ struct_member_code w of d cells bytes)
    as_a_whole of takes =
        let a = as_whole takes in let l = a.less in
        record {
          operations = a.operations + (1 + 1);
          costs = sized (both_cost t p _ a.operations _ (1 + 1) _ _ a.costs (both_cost t p _ 1 _ 1 (Do (Offset (d + 2) d cells bytes) ∷ []) _
              (does_one t p _ (omega (arith, h))) (does_one t p _ (omega (arith, h))))) (omega arith);
          less = omega (arith, l);
        }

    by : (of : Shape) → TakesMember of for_whole for_word → ArePassed t p l (1 + n) (member_code w of from d cells bytes whole word)
    by (StructShape tag) takes = as_a_whole (StructShape tag) takes
    by (UnionShape tag) takes = as_a_whole (UnionShape tag) takes
    by of takes = as_a_word of takes

-- ---- what `new` and `rnew` make

-- the request counts twice
request_costs : (w : World) (unique : Bool) (s : Shape) (t p d count : ℕ) → suc d ≤ t → suc count ≤ t → Costs t p 0 3 (request_code w unique s d count)
request_costs w true s t p d count g h = at_most t p 1 3 _ (omega arith) (does_one t p (UniqueAlloc d (layout_of w s)) g)
request_costs w false s t p d count g h =
    does_then t p 2 (Constant count 1) _ (omega (arith, h)) (does_one t p (RegionAlloc d d count (layout_of w s)) (omega (arith, g, h)))

pub made_costs : {l : ℕ} (w : World) (unique : Bool) (s : Shape) (t p d n : ℕ) (whole word : List Statement) (for_whole for_word : Type 0)
    → TakesMember s for_whole for_word
    → (for_whole → IsWhole t p l n whole) → (for_word → IsCheap t p l n word) → d + 5 ≤ t → IsMade t p l n (new_code_by w unique s d whole word)
made_costs {l = l} w unique s t p d n whole word for_whole for_word takes as_whole as_word h = by s takes
  where
    as_a_word : (of : Shape) → for_word → IsMade t p l n (word ++ (request_code w unique of d (d + 1 + words_in of) ++ stores_code of d (d + 1) 0 0))
    as_a_word of takes =
        let a = as_word takes in let l = a.less in let few = words_few of in
        record {
          operations = a.operations + (3 + 3);
          costs = sized (both_cost t p _ a.operations _ (3 + 3) _ _ a.costs
              (both_cost t p _ 3 _ 3 _ _ (request_costs w unique of t p d (d + 1 + words_in of) (omega (arith, h)) (omega (arith, h, few)))
              (kept_costs of t p d (d + 1) 0 0 (omega (arith, h)) (omega (arith, h))))) (omega arith);
          less = omega (arith, l);
        }

    as_a_whole : (of : Shape) → for_whole → IsMade t p l n (whole ++ (request_code w unique of d (d + 2) ++ (Do (Copy d (d + 1) (layout_of w of)) ∷ [])))
    as_a_whole of takes =
        let a = as_whole takes in let l = a.less in
        record {
          operations = a.operations + (3 + 1);
          costs = sized (both_cost t p _ a.operations _ (3 + 1) _ _ a.costs
              (both_cost t p _ 3 _ 1 _ _ (request_costs w unique of t p d (d + 2) (omega (arith, h)) (omega (arith, h)))
              (does_one t p (Copy d (d + 1) (layout_of w of)) (omega (arith, h))))) (omega arith);
          less = omega (arith, l);
        }

    by : (of : Shape) → TakesMember of for_whole for_word → IsMade t p l n (new_code_by w unique of d whole word)
    by (StructShape tag) takes = as_a_whole (StructShape tag) takes
    by (UnionShape tag) takes = as_a_whole (UnionShape tag) takes
    by of takes = as_a_word of takes

-- the heap's handle comes first
pub heap_costs : {l : ℕ} (t p d n : ℕ) (code : List Statement) → suc d ≤ t → IsMade t p l n code → IsCheap t p l (1 + n) (Do (HeapHandle d) ∷ code)
heap_costs t p d n code h a =
    let l = a.less in
    record {
      operations = 1 + a.operations;
      costs = sized (both_cost t p _ 1 _ a.operations (Do (HeapHandle d) ∷ []) code (does_one t p _ h) a.costs) (omega arith);
      less = omega (arith, l);
    }

-- ---- arrays that are made

-- an element's value is stored
element_costs : {l : ℕ} (w : World) (s : Shape) (t p d n : ℕ) (whole word : List Statement) (for_whole for_word : Type 0) → TakesMember s for_whole for_word
    → (for_whole → IsWhole t p l n whole) → (for_word → IsCheap t p l n word) → d + 8 ≤ t → ArePassed t p l n (element_by w s d whole word)
element_costs {l = l} w s t p d n whole word for_whole for_word takes as_whole as_word h = by s takes
  where
    as_a_word : (of : Shape) → for_word
        → ArePassed t p l n (word ++ (Do (Element (d + 3 + words_in of) d (d + 2) (length (cells_of w of)) (extent_of w of).size) ∷
        stores_code of (d + 3 + words_in of) (d + 3) 0 0))
    as_a_word of takes =
        let a = as_word takes in let l = a.less in let few = words_few of in
        record {
          operations = a.operations + (1 + 3);
          costs = sized (both_cost t p _ a.operations _ (1 + 3) _ _ a.costs
              (does_then t p 3 (Element (d + 3 + words_in of) d (d + 2) (length (cells_of w of)) (extent_of w of).size) _ (omega (arith, h, few))
              (kept_costs of t p (d + 3 + words_in of) (d + 3) 0 0 (omega (arith, h, few)) (omega (arith, h))))) (omega arith);
          less = omega (arith, l);
        }

    as_a_whole : (of : Shape) → for_whole → ArePassed t p l n (whole ++ (Do (Element (d + 4) d (d + 2) (length (cells_of w of)) (extent_of w of).size) ∷
        Do (Copy (d + 4) (d + 3) (layout_of w of)) ∷ []))
    as_a_whole of takes =
        let a = as_whole takes in let l = a.less in
        record {
          operations = a.operations + (1 + 1);
          costs = sized (both_cost t p _ a.operations _ (1 + 1) _ _ a.costs
              (does_then t p 1 (Element (d + 4) d (d + 2) (length (cells_of w of)) (extent_of w of).size) _ (omega (arith, h))
              (does_one t p (Copy (d + 4) (d + 3) (layout_of w of)) (omega (arith, h))))) (omega arith);
          less = omega (arith, l);
        }

    by : (of : Shape) → TakesMember of for_whole for_word → ArePassed t p l n (element_by w of d whole word)
    by (StructShape tag) takes = as_a_whole (StructShape tag) takes
    by (UnionShape tag) takes = as_a_whole (UnionShape tag) takes
    by of takes = as_a_word of takes

-- its number becomes the next one's
next_costs : (t p d : ℕ) → d + 8 ≤ t → Costs t p 0 2 (next_number d)
next_costs t p d h =
    does_then t p 1 (Constant (d + 3) 1) _ (omega (arith, h)) (does_one t p (Apply Add (d + 2) (d + 2) (d + 3)) (omega (arith, h)))

-- each in its turn, behind its index
turns_costs : {l : ℕ} (t p d o : ℕ) (each : List Statement) → d + 8 ≤ t → Costs t p l o each → Costs t p l (1 + (1 + (1 + (o + 2)))) (elements_code d each)
turns_costs {l = l} t p d o each h c =
    let test = does_one t p (Apply LessUnsigned (d + 3) (d + 2) (d + 1)) (omega (arith, h)) in
    let last : Costs t p l (o + 2) (each ++ next_number d) = sized (both_cost t p l o 0 2 each (next_number d) c (next_costs t p d h)) (omega arith) in
    let turn = does_then t p (o + 2) (Put 0 0 (width_of UnsignedShape) (d + 2)) _ (omega (arith, h)) last in
    sized (while_costs t p (d + 3) 0 l 1 (1 + (o + 2)) _ _ (omega (arith, h)) test turn) (omega arith)

-- with the index, which is one word
indexed_costs : {l : ℕ} (w : World) (t p d o : ℕ) (each : List Statement) → d + 8 ≤ t → Costs t p l o each
    → Costs t p (1 + l) (1 + (1 + (1 + (1 + (1 + (1 + (o + 2))))))) (indexed_code w d each)
indexed_costs {l = l} w t p d o each h c =
    let one = word_words w UnsignedShape tt in
    block_costs t p (1 + l) l (1 + (1 + (1 + (1 + (1 + (o + 2)))))) w (UnsignedShape ∷ []) _ (omega (arith, one))
    (does_then t p (1 + (1 + (1 + (1 + (o + 2))))) (Constant (d + 2) 0) _ (omega (arith, h))
    (does_then t p (1 + (1 + (1 + (o + 2)))) (Put 0 0 (width_of UnsignedShape) (d + 2)) _ (omega (arith, h)) (turns_costs t p d o each h c)))

pub array_costs : {l k : ℕ} (w : World) (s : Shape) (t p d n m : ℕ) (count whole word : List Statement) (for_whole for_word : Type 0)
    → TakesMember s for_whole for_word → IsCheap t p l n count → (for_whole → IsWhole t p k m whole) → (for_word → IsCheap t p k m word) → d + 8 ≤ t
    → IsMade t p (l + suc k) (6 + (n + m)) (count ++ array_code w s d (element_by w s d whole word))
array_costs w s t p d n m count whole word for_whole for_word takes counts as_whole as_word h =
    let a = element_costs w s t p d m whole word for_whole for_word takes as_whole as_word h in
    let l = a.less in let c = counts.less in
    let o = 1 + (1 + (1 + (1 + (1 + (1 + (a.operations + 2)))))) in
    record {
      operations = counts.operations + (2 + (o + 1));
      costs = sized (both_cost t p _ counts.operations _ (2 + (o + 1)) _ _ counts.costs
          (does_then t p (o + 1) (RegionAlloc d d (d + 1) (layout_of w s)) _ (omega (arith, h))
          (both_cost t p _ o _ 1 (indexed_code w d (element_by w s d whole word)) (Do (Constant (d + 2) 0) ∷ [])
          (indexed_costs w t p d a.operations (element_by w s d whole word) h a.costs) (does_one t p (Constant (d + 2) 0) (omega (arith, h))))))
          (omega arith);
      less = omega (arith, l, c);
    }
