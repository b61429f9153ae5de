-- Pieces of code without blocks that take no local's address: values of one word and of three, conversions, operators, members, elements, requests,
-- exchanges.
use Rattle.std.proofs.Common.{Bool, true, false, ℕ, zero, suc, ◌+◌, ◌%◌, ◌^◌, List, [], ◌∷◌, ◌++◌, Option, Some, None, refl}
use Rattle.std.specs.Prelude.{bytes_eq, codes, nat_eq, if◌then◌else◌, length}
use Rattle.cyc_tree.specs.declared.expression.Operator.{Operator}
use Rattle.cyc_tree.specs.declared.expression.Operator.TheVariants as operator
use Rattle.cyc_tree.specs.Tree as tree
use Rattle.cyc_tree.specs.Tree.{Declaration}
use Rattle.source_meaning.specs.Memory.{IntegerType, Scalar, Wide}
use Rattle.source_meaning.specs.Shapes.{Reach, MayBeNull, NeverNull, Shape, IntShape, UnsignedShape, CharShape, VoidShape, ThinShape, FatShape, HandleShape}
use Rattle.source_meaning.specs.Shapes.{KeyShape, StructShape, UnionShape, ArrayShape}
use Rattle.source_meaning.specs.Steps.{Routine, World}
use Rattle.source_meaning.specs.Calls.{function_of}
use Rattle.core_meaning.specs.Core.{NoStatements, Do, If, Getchar, Putchar, IsNull, SamePlace}
use Rattle.source_lowering.specs.Layouts.{cell_pieces}
use Rattle.source_lowering.specs.Members.{bound_code, element_code, null_check, subscript_code, words_in}
use Rattle.source_lowering.specs.Operators.{enough_code, one_code, several_code}
use Rattle.source_lowering.specs.Lowered.{
  all_of,
  loads_code,
  stores_code,
  held_loads,
  held_stores,
  tag_store,
  check_code,
  reach_code,
  offset_code,
  narrow_code,
  to_fat_code,
  to_thin_code,
  thinned_code,
  conversion_code,
  type_of,
  applied_to,
  compared_code,
  fat_code,
  operator_code,
  word_code,
  not_code,
  text_code,
  number_of,
  function_call,
  call_code,
  load_global,
  request_code,
  union_code,
}
use Rattle.source_lowering.specs.Programs.{Side, ByName, ByPlace, end_code, ending_code, exchange_code, leaving_code, side_read, side_written, value_exchange}
use Rattle.source_lowering.specs.Programs.{words_read, words_written}
use Rattle.home_proof.proofs.Codes.{IsPlain, both_plain, plain}

-- ---- values in memory

pub loads_plain : (s : Shape) (d cells bytes : ℕ) → IsPlain (loads_code s d cells bytes)
loads_plain (FatShape to) d cells bytes = plain refl (λ o i. refl)
loads_plain _ d cells bytes = plain refl (λ o i. refl)

pub stores_plain : (s : Shape) (p d cells bytes : ℕ) → IsPlain (stores_code s p d cells bytes)
stores_plain (FatShape to) p d cells bytes = plain refl (λ o i. refl)
stores_plain _ p d cells bytes = plain refl (λ o i. refl)

pub held_plain : (s : Shape) (d : ℕ) → IsPlain (held_loads s d)
held_plain (FatShape to) d = plain refl (λ o i. refl)
held_plain _ d = plain refl (λ o i. refl)

pub given_plain : (s : Shape) (p d : ℕ) → IsPlain (held_stores s p d)
given_plain (FatShape to) p d = plain refl (λ o i. refl)
given_plain _ p d = plain refl (λ o i. refl)

pub offset_plain : (d cells bytes : ℕ) → IsPlain (offset_code d cells bytes)
offset_plain d zero zero = plain refl (λ o i. refl)
offset_plain d zero (suc bytes) = plain refl (λ o i. refl)
offset_plain d (suc cells) bytes = plain refl (λ o i. refl)

pub global_plain : (s : Shape) (d object : ℕ) → IsPlain (load_global s d object)
global_plain (ArrayShape count of) d object = plain refl (λ o i. refl)
global_plain (FatShape to) d object = plain refl (λ o i. refl)
global_plain _ d object = plain refl (λ o i. refl)

-- ---- elements

pub check_plain : (s : Shape) (d : ℕ) → IsPlain (check_code s d)
check_plain (ThinShape (MayBeNull count) owner to) d = plain refl (λ o i. refl)
check_plain (ThinShape (NeverNull count) owner to) d = plain refl (λ o i. refl)
check_plain IntShape d = plain refl (λ o i. refl)
check_plain UnsignedShape d = plain refl (λ o i. refl)
check_plain CharShape d = plain refl (λ o i. refl)
check_plain VoidShape d = plain refl (λ o i. refl)
check_plain (FatShape to) d = plain refl (λ o i. refl)
check_plain HandleShape d = plain refl (λ o i. refl)
check_plain KeyShape d = plain refl (λ o i. refl)
check_plain (StructShape tag) d = plain refl (λ o i. refl)
check_plain (UnionShape tag) d = plain refl (λ o i. refl)
check_plain (ArrayShape count of) d = plain refl (λ o i. refl)

pub element_plain : (w : World) (to : Shape) (t p : ℕ) → IsPlain (element_code w to t p)
element_plain w to t p = plain refl (λ o i. refl)

pub reach_plain : (w : World) (s : Shape) (d : ℕ) → IsPlain (reach_code w s d)
reach_plain w (FatShape to) d = element_plain w to d d
reach_plain w s d = check_plain s d

pub subscript_plain : (w : World) (s : Shape) (d : ℕ) → IsPlain (subscript_code w s d)
subscript_plain w (ThinShape bound owner to) d =
    both_plain (check_code (ThinShape bound owner to) (d + 1)) (bound_code w bound to d) (check_plain (ThinShape bound owner to) (d + 1))
    (plain refl (λ o i. refl))
subscript_plain w _ d = plain refl (λ o i. refl)

enough_plain : (w : World) (count : ℕ) (to : Shape) (d : ℕ) → IsPlain (enough_code w count to d)
enough_plain w count to d = by (nat_eq count 1)
  where
    by : (x : Bool) → IsPlain (if x then one_code w to d else several_code w count to d)
    by true = plain refl (λ o i. refl)
    by false = plain refl (λ o i. refl)

-- ---- conversions

narrow_plain : (from : Shape) (d : ℕ) → IsPlain (narrow_code from d)
narrow_plain CharShape d = plain refl (λ o i. refl)
narrow_plain _ d = plain refl (λ o i. refl)

to_fat_plain : (from : Shape) (d : ℕ) → IsPlain (to_fat_code from d)
to_fat_plain (ThinShape (NeverNull count) owner to) d = plain refl (λ o i. refl)
to_fat_plain (ThinShape (MayBeNull count) owner to) d = plain refl (λ o i. refl)
to_fat_plain _ d = plain refl (λ o i. refl)

to_thin_plain : (w : World) (bound : Reach) (to : Shape) (d : ℕ) → IsPlain (to_thin_code w bound to d)
to_thin_plain w (NeverNull count) to d =
    both_plain (null_check d) (enough_code w (count % 2 ^ 32) to d) (plain refl (λ o i. refl)) (enough_plain w (count % 2 ^ 32) to d)
to_thin_plain w (MayBeNull count) to d = by (nat_eq (count % 2 ^ 32) 1)
  where
    by : (x : Bool) → IsPlain (If d (all_of (if x then one_code w to d else several_code w (count % 2 ^ 32) to d)) NoStatements ∷ [])
    by true = plain refl (λ o i. refl)
    by false = plain refl (λ o i. refl)

thinned_plain : (w : World) (bound : Reach) (to from : Shape) (d : ℕ) → IsPlain (thinned_code w bound to from d)
thinned_plain w bound to (FatShape of) d = to_thin_plain w bound to d
thinned_plain w (NeverNull count) to from d = check_plain from d
thinned_plain w (MayBeNull count) to from d = plain refl (λ o i. refl)

pub conversion_plain : (w : World) (to from : Shape) (d : ℕ) → IsPlain (conversion_code w to from d)
conversion_plain w CharShape from d = narrow_plain from d
conversion_plain w (ThinShape bound owner to) from d = thinned_plain w bound to from d
conversion_plain w (FatShape to) from d = to_fat_plain from d
conversion_plain w _ from d = plain refl (λ o i. refl)

-- ---- operators

applied_plain : (o : Operator) (s u : IntegerType) (d x y : ℕ) → IsPlain (Do (applied_to o s u d x y) ∷ [])
applied_plain operator.BitOr s u d x y = plain refl (λ o i. refl)
applied_plain operator.BitXor s u d x y = plain refl (λ o i. refl)
applied_plain operator.BitAnd s u d x y = plain refl (λ o i. refl)
applied_plain operator.Equal s u d x y = plain refl (λ o i. refl)
applied_plain operator.NotEqual s u d x y = plain refl (λ o i. refl)
applied_plain operator.Less s u d x y = plain refl (λ o i. refl)
applied_plain operator.LessEqual s u d x y = plain refl (λ o i. refl)
applied_plain operator.Greater s u d x y = plain refl (λ o i. refl)
applied_plain operator.GreaterEqual s u d x y = plain refl (λ o i. refl)
applied_plain operator.ShiftLeft s u d x y = plain refl (λ o i. refl)
applied_plain operator.ShiftRight s u d x y = plain refl (λ o i. refl)
applied_plain operator.Add s u d x y = plain refl (λ o i. refl)
applied_plain operator.Subtract s u d x y = plain refl (λ o i. refl)
applied_plain operator.Multiply s u d x y = plain refl (λ o i. refl)
applied_plain operator.Divide s u d x y = plain refl (λ o i. refl)
applied_plain operator.Remainder s u d x y = plain refl (λ o i. refl)

is_null_compared : (o : Operator) (d x : ℕ) → IsPlain (compared_code o (IsNull d x) d)
is_null_compared operator.Equal d x = plain refl (λ o i. refl)
is_null_compared operator.NotEqual d x = plain refl (λ o i. refl)
is_null_compared _ d x = plain refl (λ o i. refl)

same_compared : (o : Operator) (d : ℕ) → IsPlain (compared_code o (SamePlace d d (d + 1)) d)
same_compared operator.Equal d = plain refl (λ o i. refl)
same_compared operator.NotEqual d = plain refl (λ o i. refl)
same_compared _ d = plain refl (λ o i. refl)

fat_plain : (o : Operator) (d : ℕ) → IsPlain (fat_code o d)
fat_plain operator.Add d = plain refl (λ o i. refl)
fat_plain operator.Subtract d = plain refl (λ o i. refl)
fat_plain o d = is_null_compared o d d

pub operator_plain : (o : Operator) (s u : Shape) (d : ℕ) → IsPlain (operator_code o s u d)
operator_plain o (FatShape to) u d = fat_plain o d
operator_plain o (ThinShape bound owner to) (FatShape of) d = is_null_compared o d (d + 1)
operator_plain o (ThinShape bound owner to) u d = same_compared o d
operator_plain o s u d = applied_plain o (type_of s) (type_of u) d d (d + 1)

pub word_plain : (s : Shape) (d : ℕ) → IsPlain (word_code s d)
word_plain (ThinShape bound owner to) d = plain refl (λ o i. refl)
word_plain (FatShape to) d = plain refl (λ o i. refl)
word_plain _ d = plain refl (λ o i. refl)

pub not_plain : (s : Shape) (d : ℕ) → IsPlain (not_code s d)
not_plain (ThinShape bound owner to) d = plain refl (λ o i. refl)
not_plain (FatShape to) d = plain refl (λ o i. refl)
not_plain _ d = plain refl (λ o i. refl)

-- ---- strings, calls and requests

pub text_plain : (o : Option Scalar) (d : ℕ) → IsPlain (text_code o d)
text_plain (Some (Wide (Some s))) d = plain refl (λ o i. refl)
text_plain _ d = plain refl (λ o i. refl)

pub call_plain : (w : World) (name : List ℕ) (count d : ℕ) → IsPlain (call_code w name count d)
call_plain w name count d = by (bytes_eq name (codes "getchar")) (bytes_eq name (codes "putchar")) (function_of w.functions name)
  where
    by : (reads writes : Bool) (r : Option Routine) → IsPlain (if reads then Do (Getchar d) ∷ [] else
        (if writes then Do (Putchar d d) ∷ [] else function_call r (number_of w.functions name) count d))
    by true writes r = plain refl (λ o i. refl)
    by false true r = plain refl (λ o i. refl)
    by false false None = plain refl (λ o i. refl)
    by false false (Some r) = plain refl (λ o i. refl)

pub request_plain : (w : World) (unique : Bool) (s : Shape) (d count : ℕ) → IsPlain (request_code w unique s d count)
request_plain w true s d count = plain refl (λ o i. refl)
request_plain w false s d count = plain refl (λ o i. refl)

-- a union gets a member, whose value is there
pub union_plain : (w : World) (s from : Shape) (number d : ℕ) → IsPlain (union_code w s from number d)
union_plain w s from number d =
    both_plain (conversion_code w s from (d + 1)) (tag_store d (d + 1 + words_in s) number ++ held_stores s d (d + 1)) (conversion_plain w s from (d + 1))
    (both_plain (tag_store d (d + 1 + words_in s) number) (held_stores s d (d + 1)) (plain refl (λ o i. refl)) (given_plain s d (d + 1)))

-- ---- regions

pub ending_plain : (declared : Declaration) (d : ℕ) → IsPlain (ending_code declared d)
ending_plain (tree.Local of name initializer) d = plain refl (λ o i. refl)
ending_plain (tree.Region at region handle) d = plain refl (λ o i. refl)
ending_plain (tree.Open at region handle key) d = plain refl (λ o i. refl)
ending_plain (tree.Alias at region of alias pointer) d = plain refl (λ o i. refl)
ending_plain (tree.NewKey at region key) d = plain refl (λ o i. refl)

pub leaving_plain : (opened : List Bool) (all count : ℕ) → IsPlain (leaving_code opened all count)
leaving_plain opened all zero = plain refl (λ o i. refl)
leaving_plain [] all (suc count) = plain refl (λ o i. refl)
leaving_plain (o ∷ os) zero (suc count) = plain refl (λ o i. refl)
leaving_plain (true ∷ os) (suc all) (suc count) = let h = leaving_plain os all count in plain h.flags h.free
leaving_plain (false ∷ os) (suc all) (suc count) = let h = leaving_plain os all count in plain h.flags h.free

pub end_plain : (s : Shape) → IsPlain (end_code s)
end_plain VoidShape = plain refl (λ o i. refl)
end_plain _ = plain refl (λ o i. refl)

-- ---- exchanges

read_plain : (a : Side) (s : Shape) (p d : ℕ) → IsPlain (side_read a s p d)
read_plain (ByName out index width) s p d = plain refl (λ o i. refl)
read_plain ByPlace s p d = let h = loads_plain s d 0 0 in plain h.flags h.free

written_plain : (a : Side) (s : Shape) (p d : ℕ) → IsPlain (side_written a s p d)
written_plain (ByName out index width) s p d = plain refl (λ o i. refl)
written_plain ByPlace s p d = stores_plain s p d 0 0

value_plain : (a b : Side) (s : Shape) (d : ℕ) → IsPlain (value_exchange a b s d)
value_plain a b s d =
    let e = d + 2 + words_in s in
    both_plain _ _ (read_plain a s d (d + 2))
    (both_plain _ _ (read_plain b s (d + 1) e) (both_plain _ _ (written_plain a s d e) (written_plain b s (d + 1) (d + 2))))

reads_plain : (count word t p : ℕ) → IsPlain (words_read count word t p)
reads_plain zero word t p = plain refl (λ o i. refl)
reads_plain (suc count) word t p = let h = reads_plain count (suc word) (suc t) p in plain h.flags h.free

writes_plain : (count word p t : ℕ) → IsPlain (words_written count word p t)
writes_plain zero word p t = plain refl (λ o i. refl)
writes_plain (suc count) word p t = let h = writes_plain count (suc word) p (suc t) in plain h.flags h.free

pub exchange_plain : (w : World) (a b : Side) (s : Shape) (d : ℕ) → IsPlain (exchange_code w a b s d)
exchange_plain w a b (UnionShape tag) d =
    let count = length (cell_pieces w.unions (UnionShape tag)) in
    both_plain _ _ (reads_plain count 0 (d + 2) d)
    (both_plain _ _ (reads_plain count 0 (d + 2 + count) (d + 1))
    (both_plain _ _ (writes_plain count 0 d (d + 2 + count)) (writes_plain count 0 (d + 1) (d + 2))))
exchange_plain w a b s d = value_plain a b s d
