-- Operators on objects, `NULL` and nothing: what they give is a word and no place, or they have a fault.
use Rattle.std.proofs.Common.{◌≡◌, ℕ, Bool, true, false, List, refl, sym, subst}
use Rattle.std.specs.Prelude.{length, nat_lt, ◌&&◌, ◌||◌, ◌++◌}
use Rattle.std.proofs.lemmas.Bool.{and_parts}
use Rattle.cyc_tree.specs.declared.expression.Operator.{Operator}
use Rattle.cyc_tree.specs.declared.expression.Operator.TheVariants.{ShiftLeft}
use Rattle.source_meaning.specs.Memory.{IntegerType}
use Rattle.type_proof.specs.Entries.{IsObjectType}
use Rattle.source_typing.specs.Named.{TypeBelow}
use Rattle.source_typing.specs.Converts.{IsInteger}
use Rattle.source_typing.specs.Faults.{outlives_rule, region_rule, test}
use Rattle.source_typing.specs.Operators.{
  applied_to,
  compared,
  compared_thin,
  counted,
  fat_moved,
  if_equality,
  integers_joined,
  is_equality,
  is_fat,
  is_move,
  on_integers,
  promoted,
  signed,
  string,
  string_sized,
  tested,
  tested_both,
}
use Rattle.source_typing.specs.Regions.{Region}
use Rattle.source_typing.specs.Scope.{Env, Value, is_live, outlives, value}
use Rattle.source_typing.specs.Types.{
  Char,
  Fat,
  Handle,
  Int,
  Key,
  Null,
  StaticType,
  Struct,
  Thin,
  Union,
  Unique,
  Unsigned,
  Void,
  integer_type,
  is_integer,
  is_null,
  is_pointer,
  is_same,
  is_testable,
}
use Rattle.source_typing.specs.Verdicts.{after, if_fits}
use Rattle.type_proof.proofs.Entries.{object_plain}
use Rattle.type_proof.proofs.expressions.Integers.{integer_is, on_integers_is, joined_integer}
use Rattle.type_proof.proofs.expressions.Words.{integer_below, integer_object}
use Rattle.accepted_proof.specs.Good.{IsValueType, Surely}
use Rattle.accepted_proof.proofs.good.Names.{IsGoodResult, plain_value}
use Rattle.accepted_proof.proofs.Sure.{surely_fits, surely_unless}

pub object_value : (t : StaticType) → IsObjectType t → IsValueType t
object_value t h = plain_value t (object_plain t h)

-- ---- integers

pub integer_judged : (count at : ℕ) (t : StaticType) → IsInteger t → Surely (λ v. IsGoodResult count v) (value at t)
integer_judged count at t h = record { type = object_value t (integer_object t h); below = integer_below count t h; nowhere = refl }

-- a test, and then an integer
fitting_judged : (count : ℕ) (b : Bool) (at place : ℕ) (t : StaticType) → (b ≡ true → IsInteger t)
    → Surely (λ v. IsGoodResult count v) (after (if_fits b at t) (value place))
fitting_judged count b at place t h = surely_fits (λ v. IsGoodResult count v) b at t (value place) (λ e. integer_judged count place t (h e))

promoted_integer : (t : StaticType) → IsInteger t → IsInteger (promoted t)
promoted_integer t h = joined_integer ShiftLeft t Int h refl

-- ---- one operand, and tests

pub signed_judged : (count at : ℕ) (a : Value) → Surely (λ v. IsGoodResult count v) (signed at a)
signed_judged count at a = fitting_judged count (is_integer a.type) at at (promoted a.type) (λ e. promoted_integer a.type e)

pub tested_judged : (count at : ℕ) (a : Value) → Surely (λ v. IsGoodResult count v) (tested at a)
tested_judged count at a = fitting_judged count (is_testable a.type) at at Int (λ e. refl)

pub both_tested_judged : (count : ℕ) (a b : Value) → Surely (λ v. IsGoodResult count v) (tested_both a b)
both_tested_judged count a b = fitting_judged count (is_testable a.type && is_testable b.type) a.at a.at Int (λ e. refl)

pub counted_judged : (count at : ℕ) (a : Value) → Surely (λ v. IsGoodResult count v) (counted at a)
counted_judged count at a = fitting_judged count (is_fat a.type) at at Unsigned (λ e. refl)

-- a string is a fat pointer into the heap, or too long
pub string_judged : (count at : ℕ) (bytes : List ℕ) → Surely (λ v. IsGoodResult count v) (string at bytes)
string_judged count at bytes = by (nat_lt (length bytes) 4096)
  where
    by : (b : Bool) → Surely (λ v. IsGoodResult count v) (string_sized b at)
    by true = record { type = tt; below = (tt, tt); nowhere = refl }
    by false = tt

-- ---- comparisons

module _ (count : ℕ) (g : Env) where
  thin_judged : (b : Bool) (at : ℕ) (r q : Region) → Surely (λ v. IsGoodResult count v) (compared_thin g at b r q)
  thin_judged true at r q =
      surely_unless (λ v. IsGoodResult count v) (test (outlives g r q || outlives g q r) outlives_rule at ++ test (is_live g r && is_live g q) region_rule at)
      (value at Int) (λ e. integer_judged count at Int refl)
  thin_judged false at r q = tt

  -- a pointer and `NULL`
  null_judged : (b : Bool) (at : ℕ) → Surely (λ v. IsGoodResult count v) (after (if_fits b at Int) (value at))
  null_judged b at = fitting_judged count b at at Int (λ e. refl)

  compared_judged : (at : ℕ) (t u : StaticType) → IsValueType t → IsValueType u → Surely (λ v. IsGoodResult count v) (compared g at t u)
  compared_judged at Int u h k = null_judged ((is_pointer Int && is_null u) || (is_null Int && is_pointer u)) at
  compared_judged at Unsigned u h k = null_judged ((is_pointer Unsigned && is_null u) || (is_null Unsigned && is_pointer u)) at
  compared_judged at Char u h k = null_judged ((is_pointer Char && is_null u) || (is_null Char && is_pointer u)) at
  compared_judged at Void u h k = null_judged ((is_pointer Void && is_null u) || (is_null Void && is_pointer u)) at
  compared_judged at Null u h k = null_judged ((is_pointer Null && is_null u) || (is_null Null && is_pointer u)) at
  compared_judged at (Thin n r t) (Thin m q u) h k = thin_judged (is_same t u) at r q
  compared_judged at (Thin n r t) Null h k = integer_judged count at Int refl
  compared_judged at (Thin n r t) Int h k = tt
  compared_judged at (Thin n r t) Unsigned h k = tt
  compared_judged at (Thin n r t) Char h k = tt
  compared_judged at (Thin n r t) Void h k = tt
  compared_judged at (Thin n r t) (Fat q u) h k = tt
  compared_judged at (Thin n r t) (Unique m u) h k = tt
  compared_judged at (Thin n r t) (Handle q) h k = tt
  compared_judged at (Thin n r t) (Key q) h k = tt
  compared_judged at (Thin n r t) (Struct tag qs) h k = tt
  compared_judged at (Thin n r t) (Union tag qs) h k = tt
  compared_judged at (Fat r t) u h k = null_judged ((is_pointer (Fat r t) && is_null u) || (is_null (Fat r t) && is_pointer u)) at
  compared_judged at (Unique n t) u h k = null_judged ((is_pointer (Unique n t) && is_null u) || (is_null (Unique n t) && is_pointer u)) at
  compared_judged at (Handle r) u h k = null_judged ((is_pointer (Handle r) && is_null u) || (is_null (Handle r) && is_pointer u)) at
  compared_judged at (Key r) u h k = null_judged ((is_pointer (Key r) && is_null u) || (is_null (Key r) && is_pointer u)) at
  compared_judged at (Struct tag rs) u h k =
      null_judged ((is_pointer (Struct tag rs) && is_null u) || (is_null (Struct tag rs) && is_pointer u)) at
  compared_judged at (Union tag rs) u h k =
      null_judged ((is_pointer (Union tag rs) && is_null u) || (is_null (Union tag rs) && is_pointer u)) at

  equality_judged : (b : Bool) (at : ℕ) (t u : StaticType) → IsValueType t → IsValueType u → Surely (λ v. IsGoodResult count v) (if_equality b g at t u)
  equality_judged true at t u h k = compared_judged at t u h k
  equality_judged false at t u h k = tt

  -- ---- two operands

  joined_judged : (b : Bool) (o : Operator) (at : ℕ) (t u : StaticType) → (is_integer t && is_integer u ≡ b) → IsValueType t → IsValueType u
      → Surely (λ v. IsGoodResult count v) (integers_joined b g o at t u)
  joined_judged true o at t u e h k =
      let i : (is_integer t ≡ true) × (is_integer u ≡ true) = and_parts (is_integer t) (is_integer u) e in
      integer_judged count at (on_integers o t u) (joined_integer o t u i.0 i.1)
  joined_judged false o at t u e h k = equality_judged (is_equality o) at t u h k

  -- a fat pointer that is moved, or compared
  fat_judged : (b : Bool) (o : Operator) (at : ℕ) (t u : StaticType) → IsValueType t → TypeBelow count t → IsValueType u
      → Surely (λ v. IsGoodResult count v) (fat_moved b g o at t u)
  fat_judged true o at t u h b k = record { type = h; below = b; nowhere = refl }
  fat_judged false o at t u h b k = equality_judged (is_equality o) at t u h k

  pub applied_judged : (o : Operator) (at : ℕ) (t u : StaticType) → IsValueType t → TypeBelow count t → IsValueType u
      → Surely (λ v. IsGoodResult count v) (applied_to g o at t u)
  applied_judged o at Int u h b k = joined_judged (is_integer Int && is_integer u) o at Int u refl h k
  applied_judged o at Unsigned u h b k = joined_judged (is_integer Unsigned && is_integer u) o at Unsigned u refl h k
  applied_judged o at Char u h b k = joined_judged (is_integer Char && is_integer u) o at Char u refl h k
  applied_judged o at Void u h b k = joined_judged (is_integer Void && is_integer u) o at Void u refl h k
  applied_judged o at Null u h b k = joined_judged (is_integer Null && is_integer u) o at Null u refl h k
  applied_judged o at (Thin n r t) u h b k = joined_judged (is_integer (Thin n r t) && is_integer u) o at (Thin n r t) u refl h k
  applied_judged o at (Fat r t) u h b k = fat_judged (is_move o && is_integer u) o at (Fat r t) u h b k
  applied_judged o at (Unique n t) u h b k = joined_judged (is_integer (Unique n t) && is_integer u) o at (Unique n t) u refl h k
  applied_judged o at (Handle r) u h b k = joined_judged (is_integer (Handle r) && is_integer u) o at (Handle r) u refl h k
  applied_judged o at (Key r) u h b k = joined_judged (is_integer (Key r) && is_integer u) o at (Key r) u refl h k
  applied_judged o at (Struct tag rs) u h b k = joined_judged (is_integer (Struct tag rs) && is_integer u) o at (Struct tag rs) u refl h k
  applied_judged o at (Union tag rs) u h b k = joined_judged (is_integer (Union tag rs) && is_integer u) o at (Union tag rs) u refl h k
