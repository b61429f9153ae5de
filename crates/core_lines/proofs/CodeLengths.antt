-- How long lines are: those of numbers and of comparisons.
use Rattle.std.specs.Prelude.{nat_eq, ◌&&◌}
use Rattle.std.proofs.Common.{ℕ, zero, suc, ◌%◌, ◌^◌, arith}
use Rattle.core_lines.specs.declared.comparison.Condition.{Condition}
use Rattle.core_lines.specs.declared.comparison.Condition.TheVariants as condition
use Rattle.core_lines.specs.declared.comparison.Comparison.{Comparison}
use Rattle.core_lines.specs.declared.comparison.NumberComparison.{NumberComparison}
use Rattle.core_lines.specs.Comparisons.{verdict_on, verdict_code}
use Rattle.core_lines.specs.Frames.{is_short, word_code}
use Rattle.core_lines.specs.Numbered.{has_room, short_on}
use Rattle.core_lines.specs.Operands.{number_code, numbered_code}
use Rattle.core_lines.proofs.Within.{IsWithin, both_within, less_within, if_within}

-- ---- numbers and comparisons

pub number_within : (to w : ℕ) → IsWithin 8 (number_code to w)
number_within to w =
    if_within 8 (is_short w) _ _ (record { is = omega arith })
    (if_within 8 (nat_eq (w % 2 ^ 12) 0) _ (word_code to w) (record { is = omega arith }) (record { is = omega arith }))

verdict_on_within : (c : Condition) (to left right : ℕ) → IsWithin 8 (verdict_on c to left right)
verdict_on_within condition.Equal to left zero = record { is = omega arith }
verdict_on_within condition.Equal to left (suc right) = record { is = omega arith }
verdict_on_within condition.NotEqual to left zero = record { is = omega arith }
verdict_on_within condition.NotEqual to left (suc right) = record { is = omega arith }
verdict_on_within condition.Less to left right = record { is = omega arith }
verdict_on_within condition.NotLess to left right = record { is = omega arith }
verdict_on_within condition.LessUnsigned to left right = record { is = omega arith }
verdict_on_within condition.NotLessUnsigned to left right = record { is = omega arith }

pub verdict_within : (to : ℕ) (c : Comparison) → IsWithin 8 (verdict_code to c)
verdict_within to c = verdict_on_within c.condition to c.left c.right

short_within : (c : Condition) (to left n : ℕ) → IsWithin 8 (short_on c to left n)
short_within condition.Equal to left n = record { is = omega arith }
short_within condition.NotEqual to left n = record { is = omega arith }
short_within condition.Less to left n = record { is = omega arith }
short_within condition.NotLess to left n = record { is = omega arith }
short_within condition.LessUnsigned to left n = record { is = omega arith }
short_within condition.NotLessUnsigned to left n = record { is = omega arith }

pub numbered_within : (to : ℕ) (n : NumberComparison) → IsWithin 16 (numbered_code to n)
numbered_within to n =
    if_within 16 (nat_eq n.comparison.right 7 && has_room n.comparison.condition n.number) _ _
    (less_within 8 16 _ (omega arith) (short_within n.comparison.condition to n.comparison.left n.number))
    (both_within 8 8 (number_code 7 n.number) (verdict_code to n.comparison) (number_within 7 n.number) (verdict_within to n.comparison))
