-- Believed: what operators give. A char operand becomes int, and if one operand is unsigned, both are.
use Rattle.std.specs.Prelude.{ℕ, Bool, true, false, not, ◌&&◌, Option, Some, None, nat_eq, nat_lt, int_lt, bit_and, bit_or, bit_xor, is_some, option_and_then}
use Rattle.std.specs.Prelude.{if◌then◌else◌}
use Rattle.cyc_tree.specs.declared.expression.Operator.{Operator}
use Rattle.cyc_tree.specs.declared.expression.Operator.TheVariants.{BitOr, BitXor, BitAnd, Equal, NotEqual, Less, LessEqual, Greater, GreaterEqual, ShiftLeft}
use Rattle.cyc_tree.specs.declared.expression.Operator.TheVariants.{ShiftRight, Add, Subtract, Multiply, Divide, Remainder}
use Rattle.cyc_words.specs.Words.{signed, sum_of, difference_of, product_of, quotient, unsigned_quotient, remainder, unsigned_remainder, shifted_left}
use Rattle.cyc_words.specs.Words.{shifted_right, shifted_right_signed}
use Rattle.source_meaning.specs.Shapes.{Shape, IntShape, UnsignedShape, FatShape}
use Rattle.source_meaning.specs.Memory.{IntegerType, AsInt, AsUnsigned, AsChar, Spot, Span, Scalar, Integer, Thin, Wide, Memory, is_live, same_spot}

-- ---- integers

abbrev pub truth_value : Bool → Scalar
truth_value true = Integer AsInt 1
truth_value false = Integer AsInt 0

-- one operand alone: the type of a shift is its left operand's
abbrev pub promoted : IntegerType → IntegerType
promoted AsUnsigned = AsUnsigned
promoted AsInt = AsInt
promoted AsChar = AsInt

-- two operands
abbrev pub common : IntegerType → IntegerType → IntegerType
common AsUnsigned b = AsUnsigned
common AsInt b = promoted b
common AsChar b = promoted b

-- the one for signed numbers, or the one for unsigned
abbrev pub by_type : {A : Type 0} → IntegerType → A → A → A
by_type AsUnsigned on_signed on_unsigned = on_unsigned
by_type AsInt on_signed on_unsigned = on_signed
by_type AsChar on_signed on_unsigned = on_signed

-- order: of signed numbers, or of words where an operand is unsigned
abbrev pub below : IntegerType → ℕ → ℕ → Bool
below t x y = by_type t (int_lt (signed x) (signed y)) (nat_lt x y)

-- Numbers wrap. Shifts use the count modulo 32; a right shift of a signed number keeps the sign. x / 0 is all ones, and x % 0 is x.
abbrev pub integers : Operator → IntegerType → ℕ → IntegerType → ℕ → Scalar
integers BitOr s x t y = Integer (common s t) (bit_or x y)
integers BitXor s x t y = Integer (common s t) (bit_xor x y)
integers BitAnd s x t y = Integer (common s t) (bit_and x y)
integers Equal s x t y = truth_value (nat_eq x y)
integers NotEqual s x t y = truth_value (not (nat_eq x y))
integers Less s x t y = truth_value (below (common s t) x y)
integers LessEqual s x t y = truth_value (not (below (common s t) y x))
integers Greater s x t y = truth_value (below (common s t) y x)
integers GreaterEqual s x t y = truth_value (not (below (common s t) x y))
integers ShiftLeft s x t y = Integer (promoted s) (shifted_left x y)
integers ShiftRight s x t y = Integer (promoted s) (by_type s (shifted_right_signed x y) (shifted_right x y))
integers Add s x t y = Integer (common s t) (sum_of x y)
integers Subtract s x t y = Integer (common s t) (difference_of x y)
integers Multiply s x t y = Integer (common s t) (product_of x y)
integers Divide s x t y = Integer (common s t) (by_type (common s t) (quotient x y) (unsigned_quotient x y))
integers Remainder s x t y = Integer (common s t) (by_type (common s t) (remainder x y) (unsigned_remainder x y))

-- ---- pointers

-- two thin pointers: the regions of both have to be live; where either is NULL, none has to be
abbrev pub same_thin : Memory → Option Spot → Option Spot → Option Bool
same_thin m None None = Some true
same_thin m None (Some t) = Some false
same_thin m (Some s) None = Some false
same_thin m (Some s) (Some t) = (if is_live m s.region && is_live m t.region then Some (same_spot s t) else None)

-- two pointers; a fat one is compared with NULL alone
abbrev pub same_pointer : Memory → Scalar → Scalar → Option Bool
same_pointer m (Thin p) (Thin q) = same_thin m p q
same_pointer m (Wide p) (Thin None) = Some (not (is_some p))
same_pointer m (Thin None) (Wide q) = Some (not (is_some q))
same_pointer m a b = None

-- pointers are compared by == and != alone
abbrev pub equality : Operator → Bool → Option Scalar
equality Equal b = Some (truth_value b)
equality NotEqual b = Some (truth_value (not b))
equality o b = None

-- a fat pointer with another index; NULL stays NULL
abbrev pub with_index : Option Span → (ℕ → ℕ) → Option Span
with_index None f = None
with_index (Some s) f = Some (record s { index = f s.index })

-- p + e and p - e wrap the index, and NULL stays NULL
abbrev pub moved_by : Operator → Option Span → ℕ → Option Scalar
moved_by Add p e = Some (Wide (with_index p (λ i. sum_of i e)))
moved_by Subtract p e = Some (Wide (with_index p (λ i. difference_of i e)))
moved_by o p e = None

-- ---- all operators

abbrev pub operated : Memory → Operator → Scalar → Scalar → Option Scalar
operated m o (Integer s x) (Integer t y) = Some (integers o s x t y)
operated m o (Wide p) (Integer t y) = moved_by o p y
operated m o a b = option_and_then (equality o) (same_pointer m a b)

-- whether a value counts as true: an integer that isn't 0, a pointer that isn't NULL
abbrev pub is_true : Scalar → Option Bool
is_true (Integer t x) = Some (not (nat_eq x 0))
is_true (Thin p) = Some (is_some p)
is_true (Wide p) = Some (is_some p)
is_true v = None

-- the shape of one operand that is an integer
abbrev pub promoted_shape : Shape → Shape
promoted_shape UnsignedShape = UnsignedShape
promoted_shape s = IntShape

-- the shape of two operands: a fat pointer stays one
abbrev pub common_shape : Shape → Shape → Shape
common_shape (FatShape to) b = FatShape to
common_shape UnsignedShape b = UnsignedShape
common_shape a b = promoted_shape b

-- the shape of what an operator gives: a comparison gives an int
abbrev pub operator_shape : Operator → Shape → Shape → Shape
operator_shape Equal a b = IntShape
operator_shape NotEqual a b = IntShape
operator_shape Less a b = IntShape
operator_shape LessEqual a b = IntShape
operator_shape Greater a b = IntShape
operator_shape GreaterEqual a b = IntShape
operator_shape ShiftLeft a b = promoted_shape a
operator_shape ShiftRight a b = promoted_shape a
operator_shape o a b = common_shape a b
