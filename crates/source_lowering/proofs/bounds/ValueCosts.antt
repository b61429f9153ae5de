-- What the code of values takes, of one word or of three: loads and stores, checks, conversions, operators and variables.
use Rattle.std.proofs.Common.{Bool, true, false, ℕ, suc, ◌+◌, ◌≤◌, [], ◌∷◌, length, Option, Some, arith, ◌%◌, ◌^◌}
use Rattle.cyc_words.specs.declared.faults.Kind.TheVariants.{ArrayBounds, NullException}
use Rattle.cyc_tree.specs.declared.expression.Operator.{Operator}
use Rattle.cyc_tree.specs.declared.expression.Operator.TheVariants as operator
use Rattle.std.specs.Prelude.{nat_eq, if◌then◌else◌}
use Rattle.source_lowering.specs.Operators.{enough_code, one_code, several_code}
use Rattle.source_meaning.specs.Shapes.{count_of, pointee, Reach, MayBeNull, NeverNull, Shape, ThinShape, FatShape, ArrayShape}
use Rattle.source_lowering.specs.Members.{bound_code, subscript_code, all_of, null_check, check_code, words_in, part_at, loads_code, stores_code, bounds_code}
use Rattle.source_lowering.specs.Members.{raised, element_code, reach_code, index_code, tag_load, tag_store, held_loads, held_stores}
use Rattle.source_meaning.specs.Memory.{Scalar, Wide}
use Rattle.source_meaning.specs.Steps.{World}
use Rattle.source_meaning.specs.Conversions.{cells_of}
use Rattle.core_meaning.specs.Core as core
use Rattle.core_meaning.specs.Core.{Do, If, Raise, Constant, Apply, LocalAddress, DataAddress, Element, Load, Store, NoStatements, MoreStatements}
use Rattle.source_lowering.specs.Layouts.{extent_of}
use Rattle.source_lowering.specs.Lowered.{stored_code, get_local, load_global, put_local, store_global, turned_code, to_fat_code, to_thin_code, compared_code}
use Rattle.source_lowering.specs.Lowered.{null_code, fat_code, count_code, text_code}
use Rattle.source_lowering.specs.Temporaries.{operation_temporaries}
use Rattle.core_meaning.specs.Bounds.{operation_count}
use Rattle.source_lowering.proofs.bounds.Costs.{Costs, one_costs, both_cost, does_one, does_then, does_few, at_most, nothing}

-- a value takes three words at most
pub words_few : (s : Shape) → words_in s ≤ 3
words_few (FatShape to) = omega arith
words_few _ = omega arith

-- ---- loads and stores

pub loads_costs : (s : Shape) (t p d cells bytes : ℕ) → d + 3 ≤ t → Costs t p 0 3 (loads_code s d cells bytes)
loads_costs (FatShape to) t p d cells bytes h =
    does_then t p 2 (Load (d + 2) d (part_at cells bytes 2)) _ (omega (arith, h))
    (does_then t p 1 (Load (d + 1) d (part_at cells bytes 1)) _ (omega (arith, h)) (does_one t p (Load d d (part_at cells bytes 0)) (omega (arith, h))))
loads_costs _ t p d cells bytes h = does_few t p 3 _ (omega (arith, h)) (omega arith)

pub kept_costs : (s : Shape) (t p x d cells bytes : ℕ) → suc x ≤ t → d + 3 ≤ t → Costs t p 0 3 (stores_code s x d cells bytes)
kept_costs (FatShape to) t p x d cells bytes g h =
    does_then t p 2 (Store x (part_at cells bytes 0) d) _ (omega (arith, g, h))
    (does_then t p 1 (Store x (part_at cells bytes 1) (d + 1)) _ (omega (arith, g, h))
    (does_one t p (Store x (part_at cells bytes 2) (d + 2)) (omega (arith, g, h))))
kept_costs _ t p x d cells bytes g h = does_few t p 3 _ (omega (arith, g, h)) (omega arith)

-- ---- tagged unions

pub tag_load_costs : (t p d x : ℕ) → suc d ≤ t → suc x ≤ t → Costs t p 0 1 (tag_load d x)
tag_load_costs t p d x g h = does_one t p (Load d x (part_at 0 0 0)) (omega (arith, g, h))

pub tag_store_costs : (t p x d number : ℕ) → suc x ≤ t → suc d ≤ t → Costs t p 0 2 (tag_store x d number)
tag_store_costs t p x d number g h = does_then t p 1 (Constant d number) _ h (does_one t p (Store x (part_at 0 0 0) d) (omega (arith, g, h)))

pub held_loads_costs : (s : Shape) (t p d : ℕ) → d + 3 ≤ t → Costs t p 0 3 (held_loads s d)
held_loads_costs (FatShape to) t p d h =
    does_then t p 2 (Load (d + 2) d (part_at 0 0 3)) _ (omega (arith, h))
    (does_then t p 1 (Load (d + 1) d (part_at 0 0 2)) _ (omega (arith, h)) (does_one t p (Load d d (part_at 0 0 1)) (omega (arith, h))))
held_loads_costs _ t p d h = does_few t p 3 _ (omega (arith, h)) (omega arith)

pub held_stores_costs : (s : Shape) (t p x d : ℕ) → suc x ≤ t → d + 3 ≤ t → Costs t p 0 3 (held_stores s x d)
held_stores_costs (FatShape to) t p x d g h =
    does_then t p 2 (Store x (part_at 0 0 1) d) _ (omega (arith, g, h))
    (does_then t p 1 (Store x (part_at 0 0 2) (d + 1)) _ (omega (arith, g, h)) (does_one t p (Store x (part_at 0 0 3) (d + 2)) (omega (arith, g, h))))
held_stores_costs _ t p x d g h = does_few t p 3 _ (omega (arith, g, h)) (omega arith)

-- ---- fat pointers

pub bounds_costs : (t p d count : ℕ) → d + 3 ≤ t → Costs t p 0 2 (bounds_code d count)
bounds_costs t p d count h = does_then t p 1 (Constant (d + 1) count) _ (omega (arith, h)) (does_one t p (Constant (d + 2) 0) (omega (arith, h)))

-- ---- what they lead to

-- NULL is checked for
check_one : (t p d : ℕ) → suc d ≤ t → Costs t p 0 1 (null_check d)
check_one t p d h =
    one_costs t p 0 1 (If d NoStatements (MoreStatements (Raise NullException) NoStatements)) (omega (arith, h)) (omega arith) (omega arith) (omega arith)

pub check_costs : (t p d : ℕ) (s : Shape) → suc d ≤ t → Costs t p 0 4 (check_code s d)
check_costs t p d (ThinShape (MayBeNull count) owner to) h = at_most t p 1 4 _ (omega arith) (check_one t p d h)
check_costs t p d (ThinShape (NeverNull count) owner to) h = nothing t p 4
check_costs t p d _ h = nothing t p 4

-- the choice between the exceptions is one, and each of them none
pub element_costs : (w : World) (to : Shape) (t p d x : ℕ) → suc d ≤ t → x + 3 ≤ t → Costs t p 0 4 (element_code w to d x)
element_costs w to t p d x g h =
    does_then t p 3 (Apply core.LessUnsigned (x + 1) (x + 2) (x + 1)) _ (omega (arith, h))
    (both_cost t p 0 2 0 1 (If (x + 1) NoStatements (all_of (If x (raised ArrayBounds) (raised NullException) ∷ [])) ∷ []) _
    (one_costs t p 0 2 (If (x + 1) NoStatements (all_of (If x (raised ArrayBounds) (raised NullException) ∷ []))) (omega (arith, h)) (omega arith)
    (omega arith) (omega arith))
    (does_one t p (Element d x (x + 2) (length (cells_of w to)) (extent_of w to).size) (omega (arith, g, h))))

pub reach_costs : (w : World) (s : Shape) (t p d : ℕ) → d + 4 ≤ t → Costs t p 0 4 (reach_code w s d)
reach_costs w (FatShape to) t p d h = element_costs w to t p d d (omega (arith, h)) (omega (arith, h))
reach_costs w s t p d h = check_costs t p d s (omega (arith, h))

pub index_costs : (w : World) (to : Shape) (t p d : ℕ) → d + 4 ≤ t → Costs t p 0 5 (index_code w to d)
index_costs w to t p d h =
    does_then t p 4 (Apply core.Add (d + 3) (d + 3) d) _ (omega (arith, h)) (element_costs w to t p d (d + 1) (omega (arith, h)) (omega (arith, h)))

pub bound_costs : (w : World) (bound : Reach) (to : Shape) (t p d : ℕ) → d + 4 ≤ t → Costs t p 0 4 (bound_code w bound to d)
bound_costs w bound to t p d h =
    does_then t p 3 (Constant (d + 2) (count_of bound)) _ (omega (arith, h)) (does_then t p 2 (Apply core.LessUnsigned (d + 2) d (d + 2)) _ (omega (arith, h))
    (both_cost t p 0 1 0 1 (If (d + 2) NoStatements (raised ArrayBounds) ∷ []) _
    (one_costs t p 0 1 (If (d + 2) NoStatements (raised ArrayBounds)) (omega (arith, h)) (omega arith) (omega arith) (omega arith))
    (does_one t p (Element d (d + 1) d (length (cells_of w to)) (extent_of w to).size) (omega (arith, h)))))

pub subscript_costs : (w : World) (s : Shape) (t p d : ℕ) → d + 4 ≤ t → Costs t p 0 5 (subscript_code w s d)
subscript_costs w (ThinShape (MayBeNull count) owner to) t p d h =
    both_cost t p 0 1 0 4 (null_check (d + 1)) _ (check_one t p (d + 1) (omega (arith, h))) (bound_costs w (MayBeNull count) to t p d h)
subscript_costs w (ThinShape (NeverNull count) owner to) t p d h = at_most t p 4 5 _ (omega arith) (bound_costs w (NeverNull count) to t p d h)
subscript_costs w s t p d h = index_costs w (pointee s) t p d h

-- ---- conversions

pub to_fat_costs : (from : Shape) (t p d : ℕ) → d + 3 ≤ t → Costs t p 0 4 (to_fat_code from d)
to_fat_costs (ThinShape (NeverNull count) owner to) t p d h = at_most t p 2 4 _ (omega arith) (bounds_costs t p d (count % 2 ^ 32) h)
to_fat_costs (ThinShape (MayBeNull count) owner to) t p d h =
    both_cost t p 0 3 0 1 (If d (all_of (Do (Constant (d + 1) (count % 2 ^ 32)) ∷ [])) (all_of (Do (Constant (d + 1) 0) ∷ [])) ∷ []) _
    (one_costs t p 0 3 (If d (all_of (Do (Constant (d + 1) (count % 2 ^ 32)) ∷ [])) (all_of (Do (Constant (d + 1) 0) ∷ []))) (omega (arith, h)) (omega arith)
    (omega arith) (omega arith))
    (does_one t p (Constant (d + 2) 0) (omega (arith, h)))
to_fat_costs _ t p d h = nothing t p 4

one_element_costs : (w : World) (to : Shape) (t p d : ℕ) → d + 4 ≤ t → Costs t p 0 3 (one_code w to d)
one_element_costs w to t p d h =
    does_then t p 2 (Apply core.LessUnsigned (d + 1) (d + 2) (d + 1)) _ (omega (arith, h))
    (both_cost t p 0 1 0 1 (If (d + 1) NoStatements (raised ArrayBounds) ∷ []) _
    (one_costs t p 0 1 (If (d + 1) NoStatements (raised ArrayBounds)) (omega (arith, h)) (omega arith) (omega arith) (omega arith))
    (does_one t p (Element d d (d + 2) (length (cells_of w to)) (extent_of w to).size) (omega (arith, h))))

several_costs : (w : World) (count : ℕ) (to : Shape) (t p d : ℕ) → d + 4 ≤ t → Costs t p 0 7 (several_code w count to d)
several_costs w count to t p d h =
    does_then t p 6 (Apply core.LessUnsigned (d + 3) (d + 2) (d + 1)) _ (omega (arith, h))
    (both_cost t p 0 1 0 5 (If (d + 3) NoStatements (raised ArrayBounds) ∷ []) _
    (one_costs t p 0 1 (If (d + 3) NoStatements (raised ArrayBounds)) (omega (arith, h)) (omega arith) (omega arith) (omega arith))
    (does_then t p 4 (Apply core.Subtract (d + 1) (d + 1) (d + 2)) _ (omega (arith, h)) (does_then t p 3 (Constant (d + 3) count) _ (omega (arith, h))
    (does_then t p 2 (Apply core.LessUnsigned (d + 1) (d + 1) (d + 3)) _ (omega (arith, h))
    (both_cost t p 0 1 0 1 (If (d + 1) (raised ArrayBounds) NoStatements ∷ []) _
    (one_costs t p 0 1 (If (d + 1) (raised ArrayBounds) NoStatements) (omega (arith, h)) (omega arith) (omega arith) (omega arith))
    (does_one t p (Element d d (d + 2) (length (cells_of w to)) (extent_of w to).size) (omega (arith, h))))))))

enough_costs : (w : World) (count : ℕ) (to : Shape) (t p d : ℕ) → d + 4 ≤ t → Costs t p 0 7 (enough_code w count to d)
enough_costs w count to t p d h = by (nat_eq count 1)
  where
    by : (x : Bool) → Costs t p 0 7 (if x then one_code w to d else several_code w count to d)
    by true = at_most t p 3 7 _ (omega arith) (one_element_costs w to t p d h)
    by false = several_costs w count to t p d h

pub to_thin_costs : (w : World) (may_be_null : Reach) (to : Shape) (t p d : ℕ) → d + 4 ≤ t → Costs t p 0 8 (to_thin_code w may_be_null to d)
to_thin_costs w (NeverNull count) to t p d h =
    both_cost t p 0 1 0 7 (null_check d) _ (check_one t p d (omega (arith, h))) (enough_costs w (count % 2 ^ 32) to t p d h)
to_thin_costs w (MayBeNull count) to t p d h = by (nat_eq (count % 2 ^ 32) 1)
  where
    least : ℕ
    least = count % 2 ^ 32

    by : (x : Bool) → Costs t p 0 8 (If d (all_of (if x then one_code w to d else several_code w least to d)) NoStatements ∷ [])
    by true = one_costs t p 0 8 (If d (all_of (one_code w to d)) NoStatements) (omega (arith, h)) (omega arith) (omega arith) (omega arith)
    by false = one_costs t p 0 8 (If d (all_of (several_code w least to d)) NoStatements) (omega (arith, h)) (omega arith) (omega arith) (omega arith)

-- ---- operators

-- 1 becomes 0, and 0 becomes 1
pub turned_costs : (t p d : ℕ) → d + 4 ≤ t → Costs t p 0 2 (turned_code d)
turned_costs t p d h = does_then t p 1 (Constant (d + 1) 0) _ (omega (arith, h)) (does_one t p (Apply core.Equal d d (d + 1)) (omega (arith, h)))

pub compared_costs : (o : Operator) (same : core.Operation) (t p d : ℕ) → d + 4 ≤ t → operation_temporaries same ≤ t → operation_count same ≤ 1
    → Costs t p 0 3 (compared_code o same d)
compared_costs operator.Equal same t p d h f g = does_few t p 3 same f (omega (arith, g))
compared_costs operator.NotEqual same t p d h f g =
    at_most t p (operation_count same + 2) 3 _ (omega (arith, g)) (does_then t p 2 same (turned_code d) f (turned_costs t p d h))
compared_costs _ same t p d h f g = nothing t p 3

pub null_costs : (o : Operator) (t p d x : ℕ) → d + 4 ≤ t → suc x ≤ t → Costs t p 0 3 (null_code o d x)
null_costs o t p d x g h = compared_costs o (core.IsNull d x) t p d g (omega (arith, g, h)) (omega arith)

pub moved_costs : (o : Operator) (t p d : ℕ) → d + 4 ≤ t → Costs t p 0 3 (fat_code o d)
moved_costs operator.Add t p d h = does_few t p 3 (Apply core.Add (d + 2) (d + 2) (d + 3)) (omega (arith, h)) (omega arith)
moved_costs operator.Subtract t p d h = does_few t p 3 (Apply core.Subtract (d + 2) (d + 2) (d + 3)) (omega (arith, h)) (omega arith)
moved_costs o t p d h = null_costs o t p d d (omega (arith, h)) (omega (arith, h))

pub count_costs : (t p d : ℕ) → d + 3 ≤ t → Costs t p 0 3 (count_code d)
count_costs t p d h =
    does_then t p 2 (Apply core.LessUnsigned d (d + 2) (d + 1)) _ (omega (arith, h))
    (does_then t p 1 (Apply core.Subtract (d + 1) (d + 1) (d + 2)) _ (omega (arith, h)) (does_one t p (Apply core.Multiply d d (d + 1)) (omega (arith, h))))

-- ---- strings

pub text_costs : (t p d : ℕ) (found : Option Scalar) → d + 3 ≤ t → Costs t p 0 3 (text_code found d)
text_costs t p d (Some (Wide (Some s))) h =
    does_then t p 2 (DataAddress d s.first.object) _ (omega (arith, h))
    (does_then t p 1 (Constant (d + 1) s.count) _ (omega (arith, h)) (does_one t p (Constant (d + 2) s.index) (omega (arith, h))))
text_costs t p d _ h = nothing t p 3

-- ---- variables

pub local_costs : (s : Shape) (t p d out index : ℕ) → d + 4 ≤ t → Costs t p 0 4 (get_local s d out index)
local_costs (ArrayShape count of) t p d out index h =
    at_most t p 3 4 _ (omega arith)
    (does_then t p 2 (LocalAddress d out index) (bounds_code d count) (omega (arith, h)) (bounds_costs t p d count (omega (arith, h))))
local_costs (FatShape to) t p d out index h =
    does_then t p 3 (LocalAddress d out index) (loads_code (FatShape to) d 0 0) (omega (arith, h)) (loads_costs (FatShape to) t p d 0 0 (omega (arith, h)))
local_costs _ t p d out index h = does_few t p 4 _ (omega (arith, h)) (omega arith)

pub global_costs : (s : Shape) (t p d object : ℕ) → d + 4 ≤ t → Costs t p 0 4 (load_global s d object)
global_costs (ArrayShape count of) t p d object h =
    at_most t p 3 4 _ (omega arith)
    (does_then t p 2 (DataAddress d object) (bounds_code d count) (omega (arith, h)) (bounds_costs t p d count (omega (arith, h))))
global_costs s t p d object h =
    does_then t p 3 (DataAddress d object) (loads_code s d 0 0) (omega (arith, h)) (loads_costs s t p d 0 0 (omega (arith, h)))

pub stored_costs : (s : Shape) (t p address d out index : ℕ) → suc address ≤ t → d + words_in s ≤ t → Costs t p 0 4 (stored_code s address d out index)
stored_costs (FatShape to) t p address d out index g h =
    does_then t p 3 (LocalAddress address out index) (stores_code (FatShape to) address d 0 0) g (kept_costs (FatShape to) t p address d 0 0 g h)
stored_costs _ t p address d out index g h = does_few t p 4 _ (omega (arith, h)) (omega arith)

pub put_local_costs : (s : Shape) (t p d out index : ℕ) → d + 4 ≤ t → Costs t p 0 4 (put_local s d out index)
put_local_costs s t p d out index h =
    let few = words_few s in stored_costs s t p (d + words_in s) d out index (omega (arith, h, few)) (omega (arith, h, few))

pub put_global_costs : (s : Shape) (t p d object : ℕ) → d + 4 ≤ t → Costs t p 0 4 (store_global s d object)
put_global_costs s t p d object h =
    let few = words_few s in
    does_then t p 3 (DataAddress (d + words_in s) object) (stores_code s (d + words_in s) d 0 0) (omega (arith, h, few))
    (kept_costs s t p (d + words_in s) d 0 0 (omega (arith, h, few)) (omega (arith, h)))
