-- Believed: what the operations on two words give. A word is a number below 2^32, read as two's complement where the sign counts.
use Rattle.std.specs.Prelude.{ℕ, Bool, true, false, not, nat_eq, nat_lt, nat_le, int_lt, bit_and, bit_or, bit_xor}
use Rattle.cyc_words.specs.Words.{
  signed,
  sum_of,
  difference_of,
  product_of,
  quotient,
  remainder,
  unsigned_quotient,
  unsigned_remainder,
  shifted_left,
  shifted_right,
  shifted_right_signed,
}
use Rattle.core_meaning.specs.Core.{
  Binary,
  Add,
  Subtract,
  Multiply,
  Divide,
  DivideUnsigned,
  Remainder,
  RemainderUnsigned,
  And,
  Or,
  Xor,
  ShiftLeft,
  ShiftRight,
  ShiftRightUnsigned,
  Equal,
  NotEqual,
  Less,
  LessEqual,
  LessUnsigned,
  LessEqualUnsigned,
}

abbrev pub truth : Bool → ℕ
truth true = 1
truth false = 0

abbrev pub is_less : ℕ → ℕ → Bool
is_less x y = int_lt (signed x) (signed y)

abbrev pub two : Binary → ℕ → ℕ → ℕ
two Add x y = sum_of x y
two Subtract x y = difference_of x y
two Multiply x y = product_of x y
two Divide x y = quotient x y
two DivideUnsigned x y = unsigned_quotient x y
two Remainder x y = remainder x y
two RemainderUnsigned x y = unsigned_remainder x y
two And x y = bit_and x y
two Or x y = bit_or x y
two Xor x y = bit_xor x y
two ShiftLeft x y = shifted_left x y
two ShiftRight x y = shifted_right_signed x y
two ShiftRightUnsigned x y = shifted_right x y
two Equal x y = truth (nat_eq x y)
two NotEqual x y = truth (not (nat_eq x y))
two Less x y = truth (is_less x y)
two LessEqual x y = truth (not (is_less y x))
two LessUnsigned x y = truth (nat_lt x y)
two LessEqualUnsigned x y = truth (nat_le x y)
