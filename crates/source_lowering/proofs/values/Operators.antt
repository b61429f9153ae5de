-- What an operator gives of two integers, in the source and in Core.
use Rattle.std.proofs.Common.{◌≡◌, ℕ, ◌+◌, ◌-◌, ◌*◌, ◌/◌, ◌%◌, ◌^◌, ◌<◌, ◌≤◌, Bool, true, false, not, nat_eq, nat_lt, nat_le, refl, sym, ap, ◌∙◌, subst, arith}
use Rattle.std.specs.Prelude.{bit_and, bit_or, bit_xor}
use Rattle.std.proofs.lemmas.Nat.{and_le_l, or_of_32, xor_of_32}
use Rattle.std.proofs.Math.Nat.{div-le_self, mod-le}
use Rattle.cyc_tree.specs.declared.expression.Operator.{Operator}
use Rattle.cyc_tree.specs.declared.expression.Operator.TheVariants as operator
use Rattle.cyc_words.specs.Words.{sum_of, difference_of, product_of, quotient, unsigned_quotient, remainder, unsigned_remainder, shifted_left, shifted_right}
use Rattle.cyc_words.specs.Words.{shifted_right_signed}
use Rattle.source_meaning.specs.Memory.{IntegerType, AsInt, AsUnsigned, AsChar, Integer}
use Rattle.source_meaning.specs.Operators.{truth_value, promoted, common, by_type, below, integers, common_shape, promoted_shape, operator_shape}
use Rattle.source_meaning.specs.Programs.{integer_shape}
use Rattle.core_meaning.specs.Memory.{Word}
use Rattle.core_meaning.specs.Core as core
use Rattle.core_meaning.specs.Core.{Binary, Operation, Apply}
use Rattle.core_meaning.specs.Words.{truth, two}
use Rattle.core_meaning.specs.Steps.{Config, Step, with_temp}
use Rattle.core_meaning.specs.Operations.{does}
use Rattle.core_meaning.proofs.Results.{word_below, truth_below, either_below}
use Rattle.source_lowering.specs.Lowered.{applied_to}
use Rattle.source_lowering.proofs.values.Integers.{limit}

-- ---- results are words

pub modulo_small : (x : ℕ) → x % 2 ^ 32 < 2 ^ 32
modulo_small x = omega arith

below_both : (x y : ℕ) → x ≤ y → y < 2 ^ 32 → x < 2 ^ 32
below_both x y f g = omega (arith, f, g)

all_ones : 2 ^ 32 - 1 < 2 ^ 32
all_ones = omega arith

-- ---- the two operands' types

common_is : (s t : IntegerType) → common_shape (integer_shape s) (integer_shape t) ≡ integer_shape (common s t)
common_is AsInt AsInt = refl
common_is AsInt AsUnsigned = refl
common_is AsInt AsChar = refl
common_is AsUnsigned AsInt = refl
common_is AsUnsigned AsUnsigned = refl
common_is AsUnsigned AsChar = refl
common_is AsChar AsInt = refl
common_is AsChar AsUnsigned = refl
common_is AsChar AsChar = refl

promoted_is : (s : IntegerType) → promoted_shape (integer_shape s) ≡ integer_shape (promoted s)
promoted_is AsInt = refl
promoted_is AsUnsigned = refl
promoted_is AsChar = refl

-- a result's limit is that of a word
record IsWide (t : IntegerType) : Type 0 where
  is : limit t ≡ 2 ^ 32

promoted_wide : (s : IntegerType) → IsWide (promoted s)
promoted_wide AsInt = record { is = refl }
promoted_wide AsUnsigned = record { is = refl }
promoted_wide AsChar = record { is = refl }

common_wide : (s t : IntegerType) → IsWide (common s t)
common_wide AsInt t = promoted_wide t
common_wide AsUnsigned t = record { is = refl }
common_wide AsChar t = promoted_wide t

-- ---- what Core's operation gives

-- an operation on two temporaries gives this word
abbrev Does : Operation → ℕ → ℕ → ℕ → ℕ → ℕ → ℕ → Type 0
Does o d a b x y r = (c : Config) (next : Config → Step) → c.temps a ≡ Word x → c.temps b ≡ Word y → does o next c ≡ next (with_temp d (Word r) c)

apply_two : (op : Binary) (d a b x y : ℕ) → Does (Apply op d a b) d a b x y (two op x y)
apply_two op d a b x y c next e f = rw (e, f) refl

apply_turned : (op : Binary) (d a b x y : ℕ) → Does (Apply op d b a) d a b x y (two op y x)
apply_turned op d a b x y c next e f = rw (f, e) refl

does_same : (o : Operation) (d a b x y r q : ℕ) → r ≡ q → Does o d a b x y r → Does o d a b x y q
does_same o d a b x y r q e h = subst (λ z. Does o d a b x y z) e h

-- the result of an operator: its type and word, in the source and in Core
pub record IsOperated (o : Operator) (s : IntegerType) (x : ℕ) (t : IntegerType) (y d a b : ℕ) : Type 0 where
  pub type : IntegerType
  pub word : ℕ
  pub gives : integers o s x t y ≡ Integer type word
  pub shape : operator_shape o (integer_shape s) (integer_shape t) ≡ integer_shape type
  pub small : word < limit type
  pub does : Does (applied_to o s t d a b) d a b x y word

pub truth_is : (b : Bool) → truth_value b ≡ Integer AsInt (truth b)
truth_is true = refl
truth_is false = refl

-- ---- comparisons by type

less_is : (u : IntegerType) (x y : ℕ) → two (by_type u core.Less core.LessUnsigned) x y ≡ truth (below u x y)
less_is AsInt x y = refl
less_is AsUnsigned x y = refl
less_is AsChar x y = refl

not_less : (x y : ℕ) → nat_le x y ≡ not (nat_lt y x)
not_less x y = by (nat_le x y) (nat_lt y x) refl refl
  where
    by : (a b : Bool) → nat_le x y ≡ a → nat_lt y x ≡ b → nat_le x y ≡ not (nat_lt y x)
    by true false e f = rw (e, f) refl
    by false true e f = rw (e, f) refl
    by true true e f = absurd (grind (arith, e, f))
    by false false e f = absurd (grind (arith, e, f))

less_equal_is : (u : IntegerType) (x y : ℕ) → two (by_type u core.LessEqual core.LessEqualUnsigned) x y ≡ truth (not (below u y x))
less_equal_is AsInt x y = refl
less_equal_is AsUnsigned x y = ap truth (not_less x y)
less_equal_is AsChar x y = refl

-- ---- numbers by type

by_small : (u : IntegerType) (a b : ℕ) → a < 2 ^ 32 → b < 2 ^ 32 → by_type u a b < 2 ^ 32
by_small AsInt a b f g = f
by_small AsUnsigned a b f g = g
by_small AsChar a b f g = f

divide_is : (u : IntegerType) (x y : ℕ) → two (by_type u core.Divide core.DivideUnsigned) x y ≡ by_type u (quotient x y) (unsigned_quotient x y)
divide_is AsInt x y = refl
divide_is AsUnsigned x y = refl
divide_is AsChar x y = refl

remainder_is : (u : IntegerType) (x y : ℕ) → two (by_type u core.Remainder core.RemainderUnsigned) x y ≡ by_type u (remainder x y) (unsigned_remainder x y)
remainder_is AsInt x y = refl
remainder_is AsUnsigned x y = refl
remainder_is AsChar x y = refl

shift_is : (u : IntegerType) (x y : ℕ) → two (by_type u core.ShiftRight core.ShiftRightUnsigned) x y ≡ by_type u (shifted_right_signed x y) (shifted_right x y)
shift_is AsInt x y = refl
shift_is AsUnsigned x y = refl
shift_is AsChar x y = refl

wide : (t : IntegerType) (x : ℕ) → IsWide t → x < 2 ^ 32 → x < limit t
wide t x w h = subst (λ z. x < z) (sym w.is) h

-- ---- each operator

-- a comparison
compared : (o : Operator) (s : IntegerType) (x : ℕ) (t : IntegerType) (y d a b : ℕ) (r : Bool) → integers o s x t y ≡ truth_value r
    → operator_shape o (integer_shape s) (integer_shape t) ≡ integer_shape AsInt → Does (applied_to o s t d a b) d a b x y (truth r)
    → IsOperated o s x t y d a b
compared o s x t y d a b r gives shape h = record { type = AsInt; word = truth r; gives = gives ∙ truth_is r; shape = shape; small = truth_below r; does = h }

-- a number of both operands' type
counted : (o : Operator) (s : IntegerType) (x : ℕ) (t : IntegerType) (y d a b r : ℕ) → integers o s x t y ≡ Integer (common s t) r
    → operator_shape o (integer_shape s) (integer_shape t) ≡ common_shape (integer_shape s) (integer_shape t) → r < 2 ^ 32
    → Does (applied_to o s t d a b) d a b x y r → IsOperated o s x t y d a b
counted o s x t y d a b r gives shape small h = record {
  type = common s t;
  word = r;
  gives = gives;
  shape = shape ∙ common_is s t;
  small = wide (common s t)
      r (common_wide s t) small;
  does = h;
}

-- a number of the left operand's type
shifted : (o : Operator) (s : IntegerType) (x : ℕ) (t : IntegerType) (y d a b r : ℕ) → integers o s x t y ≡ Integer (promoted s) r
    → operator_shape o (integer_shape s) (integer_shape t) ≡ promoted_shape (integer_shape s) → r < 2 ^ 32 → Does (applied_to o s t d a b) d a b x y r
    → IsOperated o s x t y d a b
shifted o s x t y d a b r gives shape small h = record {
  type = promoted s;
  word = r;
  gives = gives;
  shape = shape ∙ promoted_is s;
  small = wide (promoted s)
      r (promoted_wide s) small;
  does = h;
}

pub operated : (o : Operator) (s : IntegerType) (x : ℕ) (t : IntegerType) (y d a b : ℕ) → x < 2 ^ 32 → y < 2 ^ 32 → IsOperated o s x t y d a b
operated operator.BitOr s x t y d a b f g = counted operator.BitOr s x t y d a b (bit_or x y) refl refl (or_of_32 x y f g) (apply_two core.Or d a b x y)
operated operator.BitXor s x t y d a b f g = counted operator.BitXor s x t y d a b (bit_xor x y) refl refl (xor_of_32 x y f g) (apply_two core.Xor d a b x y)
operated operator.BitAnd s x t y d a b f g = counted operator.BitAnd s x t y d a b (bit_and x y) refl refl (below_both (bit_and x y) x (and_le_l x y) f)
    (apply_two core.And d a b x y)
operated operator.Equal s x t y d a b f g = compared operator.Equal s x t y d a b (nat_eq x y) refl refl (apply_two core.Equal d a b x y)
operated operator.NotEqual s x t y d a b f g = compared operator.NotEqual s x t y d a b (not (nat_eq x y)) refl refl (apply_two core.NotEqual d a b x y)
operated operator.Less s x t y d a b f g =
    compared operator.Less s x t y d a b (below (common s t) x y) refl refl
    (does_same (applied_to operator.Less s t d a b) d a b x y _ _ (less_is (common s t) x y) (apply_two (by_type (common s t) core.Less core.LessUnsigned) d a
    b x y))
operated operator.LessEqual s x t y d a b f g =
    compared operator.LessEqual s x t y d a b (not (below (common s t) y x)) refl refl
    (does_same (applied_to operator.LessEqual s t d a b) d a b x y _ _ (less_equal_is (common s t) x y) (apply_two
    (by_type (common s t) core.LessEqual core.LessEqualUnsigned) d a b x y))
operated operator.Greater s x t y d a b f g =
    compared operator.Greater s x t y d a b (below (common s t) y x) refl refl
    (does_same (applied_to operator.Greater s t d a b) d a b x y _ _ (less_is (common s t) y x) (apply_turned (by_type (common s t) core.Less
    core.LessUnsigned) d a b x y))
operated operator.GreaterEqual s x t y d a b f g =
    compared operator.GreaterEqual s x t y d a b (not (below (common s t) x y)) refl refl
    (does_same (applied_to operator.GreaterEqual s t d a b) d a b x y _ _ (less_equal_is (common s t) y x) (apply_turned
    (by_type (common s t) core.LessEqual core.LessEqualUnsigned) d a b x y))
operated operator.ShiftLeft s x t y d a b f g = shifted operator.ShiftLeft s x t y d a b (shifted_left x y) refl refl (modulo_small (x * 2 ^ (y % 32)))
    (apply_two core.ShiftLeft d a b x y)
operated operator.ShiftRight s x t y d a b f g =
    shifted operator.ShiftRight s x t y d a b (by_type s (shifted_right_signed x y) (shifted_right x y)) refl refl
    (by_small s (shifted_right_signed x y) (shifted_right x y) (word_below _) (below_both (x / 2 ^ (y % 32)) x (div-le_self x (2 ^ (y % 32))) f))
    (does_same (applied_to operator.ShiftRight s t d a b) d a b x y _ _ (shift_is s x y) (apply_two (by_type s core.ShiftRight core.ShiftRightUnsigned) d a b
    x y))
operated operator.Add s x t y d a b f g = counted operator.Add s x t y d a b (sum_of x y) refl refl (modulo_small (x + y)) (apply_two core.Add d a b x y)
operated operator.Subtract s x t y d a b f g = counted operator.Subtract s x t y d a b (difference_of x y) refl refl (modulo_small (x + 2 ^ 32 - y))
    (apply_two core.Subtract d a b x y)
operated operator.Multiply s x t y d a b f g = counted operator.Multiply s x t y d a b (product_of x y) refl refl (modulo_small (x * y))
    (apply_two core.Multiply d a b x y)
operated operator.Divide s x t y d a b f g =
    counted operator.Divide s x t y d a b (by_type (common s t) (quotient x y) (unsigned_quotient x y)) refl refl
    (by_small (common s t) (quotient x y) (unsigned_quotient x y) (either_below (nat_eq y 0) _ _ all_ones (word_below _))
    (either_below (nat_eq y 0) _ _ all_ones (below_both (x / y) x (div-le_self x y) f)))
    (does_same (applied_to operator.Divide s t d a b) d a b x y _ _ (divide_is (common s t) x y) (apply_two (by_type (common s t) core.Divide
    core.DivideUnsigned) d a b x y))
operated operator.Remainder s x t y d a b f g =
    counted operator.Remainder s x t y d a b (by_type (common s t) (remainder x y) (unsigned_remainder x y)) refl refl
    (by_small (common s t) (remainder x y) (unsigned_remainder x y) (either_below (nat_eq y 0) _ _ f (word_below _))
    (either_below (nat_eq y 0) _ _ f (below_both (x % y) x (mod-le x y) f)))
    (does_same (applied_to operator.Remainder s t d a b) d a b x y _ _ (remainder_is (common s t) x y) (apply_two
    (by_type (common s t) core.Remainder core.RemainderUnsigned) d a b x y))
