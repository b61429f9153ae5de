-- What the parts of an expression's code take, from a temporary with three behind it.
use Rattle.std.proofs.Common.{◌≡◌, ℕ, zero, suc, ◌+◌, ◌*◌, ◌≤◌, List, [], ◌∷◌, length, Bool, true, false, Option, Some, None, refl, ap, arith}
use Rattle.std.proofs.lemmas.Bool.{false≢true}
use Rattle.std.specs.Prelude.{bytes_eq, codes, if◌then◌else◌}
use Rattle.cyc_tree.specs.declared.expression.Operator.{Operator}
use Rattle.cyc_tree.specs.declared.expression.Operator.TheVariants as operator
use Rattle.source_meaning.specs.Shapes.{Reach, MayBeNull, NeverNull, Shape, IntShape, CharShape, VoidShape, ThinShape, FatShape, StructShape, has_tag}
use Rattle.source_meaning.specs.Memory.{IntegerType}
use Rattle.source_meaning.specs.Steps.{Entity, Variable, World, Routine}
use Rattle.source_meaning.specs.Calls.{function_of}
use Rattle.core_meaning.specs.Core as core
use Rattle.core_meaning.specs.Core.{Statement, Do, Call, Constant, Narrow, Apply, Getchar, Putchar}
use Rattle.source_lowering.specs.Lowered.{Named, number_of, get_by, put_by, address_by, thinned_code, narrow_code, conversion_code, type_of, applied_to, Home}
use Rattle.source_lowering.specs.Lowered.{InBlock, get_home, put_home, home_address, operator_code, turned_code, pointers_code, truth_code, word_code, not_code}
use Rattle.source_lowering.specs.Lowered.{result_shape, call_shape, makes_struct, from_on, results_in, function_call, call_code}
use Rattle.source_lowering.specs.Temporaries.{last_of, operation_temporaries}
use Rattle.core_meaning.specs.Bounds.{operation_count}
use Rattle.source_lowering.proofs.bounds.Nodes.{result_count}
use Rattle.source_lowering.proofs.bounds.Costs.{Costs, one_costs, does_one, does_then, does_few, at_most, nothing}
use Rattle.source_lowering.proofs.bounds.ValueCosts.{check_costs, to_fat_costs, to_thin_costs, turned_costs, compared_costs, null_costs, moved_costs}
use Rattle.source_lowering.proofs.bounds.ValueCosts.{local_costs, global_costs, put_local_costs, put_global_costs}

-- an expression takes less than eight operations a token: four are left; its locals are indices
pub record IsCheap (t p l n : ℕ) (code : List Statement) : Type 0 where
  pub operations : ℕ
  pub costs : Costs t p l operations code
  pub less : operations + 4 ≤ 8 * n

-- operands with their operators, members with their stores
pub record ArePassed (t p l n : ℕ) (code : List Statement) : Type 0 where
  pub operations : ℕ
  pub costs : Costs t p l operations code
  pub less : operations ≤ 8 * n

-- ---- parts of expressions

pub get_costs : (t p d : ℕ) (l : Option Named) (e : Option Entity) → d + 4 ≤ t → Costs t p 0 4 (get_by l e d)
get_costs t p d (Some l) e h = by l.home
  where
    by : (home : Home) → Costs t p 0 4 (get_home l.shape home d)
    by (InBlock out index) = local_costs l.shape t p d out index h
get_costs t p d None (Some (Variable s at)) h = global_costs s t p d at.object h
get_costs t p d None None h = nothing t p 4

pub put_costs : (t p d : ℕ) (l : Option Named) (e : Option Entity) → d + 4 ≤ t → Costs t p 0 4 (put_by l e d)
put_costs t p d (Some l) e h = by l.home
  where
    by : (home : Home) → Costs t p 0 4 (put_home l.shape home d)
    by (InBlock out index) = put_local_costs l.shape t p d out index h
put_costs t p d None (Some (Variable s at)) h = put_global_costs s t p d at.object h
put_costs t p d None None h = nothing t p 4

narrow_costs : (t p d : ℕ) (from : Shape) → d + 4 ≤ t → Costs t p 0 1 (narrow_code from d)
narrow_costs t p d CharShape h = nothing t p 1
narrow_costs t p d _ h = does_one t p (Narrow d d) (omega (arith, h))

thinned_costs : (w : World) (may_be_null : Reach) (to from : Shape) (t p d : ℕ) → d + 4 ≤ t → Costs t p 0 8 (thinned_code w may_be_null to from d)
thinned_costs w may_be_null to (FatShape of) t p d h = to_thin_costs w may_be_null to t p d (omega (arith, h))
thinned_costs w (NeverNull count) to from t p d h = at_most t p 4 8 _ (omega arith) (check_costs t p d from (omega (arith, h)))
thinned_costs w (MayBeNull count) to from t p d h = nothing t p 8

pub conversion_costs : (w : World) (t p d : ℕ) (to from : Shape) → d + 4 ≤ t → Costs t p 0 8 (conversion_code w to from d)
conversion_costs w t p d CharShape from h = at_most t p 1 8 _ (omega arith) (narrow_costs t p d from h)
conversion_costs w t p d (ThinShape may_be_null owner to) from h = thinned_costs w may_be_null to from t p d h
conversion_costs w t p d (FatShape to) from h = at_most t p 4 8 _ (omega arith) (to_fat_costs from t p d (omega (arith, h)))
conversion_costs w t p d _ from h = nothing t p 8

applied_small : (o : Operator) (s u : IntegerType) (d t : ℕ) → d + 4 ≤ t → operation_temporaries (applied_to o s u d d (d + 1)) ≤ t
applied_small operator.BitOr s u d t h = omega (arith, h)
applied_small _ s u d t h = omega (arith, h)

applied_one : (o : Operator) (s u : IntegerType) (d : ℕ) → operation_count (applied_to o s u d d (d + 1)) ≤ 1
applied_one operator.BitOr s u d = omega arith
applied_one _ s u d = omega arith

pointers_costs : (t p d : ℕ) (o : Operator) → d + 4 ≤ t → Costs t p 0 3 (pointers_code o d)
pointers_costs t p d o h = compared_costs o (core.SamePlace d d (d + 1)) t p d h (omega (arith, h)) (omega arith)

word_costs : (t p d : ℕ) (o : Operator) (s u : Shape) → d + 4 ≤ t → Costs t p 0 3 (Do (applied_to o (type_of s) (type_of u) d d (d + 1)) ∷ [])
word_costs t p d o s u h =
    let one = applied_one o (type_of s) (type_of u) d in
    does_few t p 3 (applied_to o (type_of s) (type_of u) d d (d + 1)) (applied_small o (type_of s) (type_of u) d t h) (omega (arith, one))

pub operator_costs : (t p d : ℕ) (o : Operator) (s u : Shape) → d + 4 ≤ t → Costs t p 0 3 (operator_code o s u d)
operator_costs t p d o (FatShape to) u h = moved_costs o t p d h
operator_costs t p d o (ThinShape may_be_null owner to) (FatShape of) h = null_costs o t p d (d + 1) h (omega (arith, h))
operator_costs t p d o (ThinShape may_be_null owner to) u h = pointers_costs t p d o h
operator_costs t p d o s u h = word_costs t p d o s u h

pub truth_costs : (t p d : ℕ) → d + 4 ≤ t → Costs t p 0 2 (truth_code d)
truth_costs t p d h = does_then t p 1 (Constant (d + 1) 0) _ (omega (arith, h)) (does_one t p (Apply core.NotEqual d d (d + 1)) (omega (arith, h)))

-- an operand of a test becomes a word
pub tested_word : (t p d : ℕ) (s : Shape) → d + 4 ≤ t → Costs t p 0 3 (word_code s d)
tested_word t p d (ThinShape may_be_null owner to) h = does_then t p 2 (core.IsNull d d) (turned_code d) (omega (arith, h)) (turned_costs t p d h)
tested_word t p d (FatShape to) h = does_then t p 2 (core.IsNull d d) (turned_code d) (omega (arith, h)) (turned_costs t p d h)
tested_word t p d _ h = nothing t p 3

not_two : (t p d : ℕ) → d + 4 ≤ t → Costs t p 0 2 (Do (Constant d 0) ∷ Do (Apply core.Equal d (d + 1) d) ∷ [])
not_two t p d h = does_then t p 1 (Constant d 0) _ (omega (arith, h)) (does_one t p (Apply core.Equal d (d + 1) d) (omega (arith, h)))

pub not_costs : (t p d : ℕ) (s : Shape) → d + 4 ≤ t → Costs t p 0 2 (not_code s d)
not_costs t p d (ThinShape may_be_null owner to) h = does_few t p 2 (core.IsNull d (d + 1)) (omega (arith, h)) (omega arith)
not_costs t p d (FatShape to) h = does_few t p 2 (core.IsNull d (d + 1)) (omega (arith, h)) (omega arith)
not_costs t p d _ h = not_two t p d h

-- a pointer to a variable
pub address_costs : (t p d : ℕ) (l : Option Named) (e : Option Entity) → suc d ≤ t → Costs t p 0 1 (address_by l e d)
address_costs t p d (Some l) e h = by l.home
  where
    by : (home : Home) → Costs t p 0 1 (home_address home d)
    by (InBlock out index) = does_one t p _ h
address_costs t p d None (Some (Variable s at)) h = does_one t p _ h
address_costs t p d None None h = nothing t p 1

-- ---- calls

from_last : (d n : ℕ) → last_of (from_on d n) ≤ d + n
from_last d zero = omega arith
from_last d (suc n) = let h = from_last (d + 1) n in omega (arith, h)

from_many : (d n : ℕ) → length (from_on d n) ≡ n
from_many d zero = refl
from_many d (suc n) = ap suc (from_many (d + 1) n)

pub results_few : (s : Shape) → result_count s ≤ 1
results_few VoidShape = omega arith
results_few _ = omega arith

pub results_last : (s : Shape) (d : ℕ) → last_of (results_in s d) ≤ d + 1 + 2 * result_count s
results_last VoidShape d = omega arith
results_last _ d = omega arith

pub results_many : (s : Shape) (d : ℕ) → length (results_in s d) ≤ 3
results_many VoidShape d = omega arith
results_many _ d = omega arith

-- a struct is a value
pub made_result : (w : World) (name : List ℕ) → makes_struct w name ≡ true → result_count (call_shape w name) ≡ 1
made_result w name is = by (bytes_eq name (codes "getchar")) (bytes_eq name (codes "putchar")) (has_tag w.structs name) is
  where
    by : (reads writes tagged : Bool) → (if reads then false else (if writes then false else tagged)) ≡ true
        → result_count (if reads then IntShape else (if writes then IntShape else (if tagged then StructShape name
        else result_shape (function_of w.functions name)))) ≡ 1
    by true writes tagged is = refl
    by false true tagged is = refl
    by false false true is = refl
    by false false false is = absurd (false≢true is)

pub call_costs : (w : World) (name : List ℕ) (t p d count : ℕ) → d + 1 + 2 * result_count (call_shape w name) ≤ t → d + count ≤ t → count ≤ p
    → Costs t p 0 (4 + count) (call_code w name count d)
call_costs w name t p d count f g h =
    by (bytes_eq name (codes "getchar")) (bytes_eq name (codes "putchar")) (has_tag w.structs name) (function_of w.functions name) f
  where
    number : ℕ
    number = number_of w.functions name

    of : (r : Routine) → d + 1 + 2 * result_count r.result ≤ t → Costs t p 0 (4 + count) (function_call (Some r) number count d)
    of r f =
        let a = results_last r.result d in
        let b = from_last d count in
        let e = from_many d count in
        let k = results_many r.result d in
        one_costs t p 0 (4 + count) (Call (results_in r.result d) number (from_on d count)) (omega (arith, a, b, f, g)) (omega (arith, e, h))
        (omega arith) (omega (arith, e, k))

    by : (reads writes tagged : Bool) (r : Option Routine)
        → d + 1 + 2 * result_count (if reads then IntShape else (if writes then IntShape else (if tagged then StructShape name else result_shape r))) ≤ t
        → Costs t p 0 (4 + count) (if reads then Do (Getchar d) ∷ [] else (if writes then Do (Putchar d d) ∷ [] else function_call r number count d))
    by true writes tagged r f = does_few t p (4 + count) (Getchar d) (omega (arith, f)) (omega arith)
    by false true tagged r f = does_few t p (4 + count) (Putchar d d) (omega (arith, f)) (omega arith)
    by false false tagged None f = nothing t p (4 + count)
    by false false true (Some r) f = let few = results_few r.result in of r (omega (arith, f, few))
    by false false false (Some r) f = of r f
