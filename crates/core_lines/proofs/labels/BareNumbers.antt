-- The lines that put a number into a register, and those that make a word of a comparison with one, neither place a label nor are conditional jumps.
use Rattle.std.proofs.Common.{◌≡◌, ℕ, ◌%◌, ◌^◌, true, nat_eq, ◌++◌, refl}
use Rattle.std.specs.Prelude.{◌&&◌}
use Rattle.core_lines.specs.declared.comparison.Condition.{Condition}
use Rattle.core_lines.specs.declared.comparison.Condition.TheVariants.{Equal, NotEqual, Less, NotLess, LessUnsigned, NotLessUnsigned}
use Rattle.core_lines.specs.declared.comparison.NumberComparison.{NumberComparison}
use Rattle.core_lines.specs.Comparisons.{verdict_code}
use Rattle.core_lines.specs.Frames.{is_short}
use Rattle.core_lines.specs.Numbered.{has_room, short_on}
use Rattle.core_lines.specs.Operands.{number_code, numbered_code}
use Rattle.core_lines.proofs.labels.BareLines.{are_bare, two, either, verdict_bare}

pub number_bare : (to w : ℕ) → are_bare (number_code to w) ≡ true
number_bare to w = either (is_short w) _ _ refl (either (nat_eq (w % 2 ^ 12) 0) _ _ refl refl)

short_bare : (c : Condition) (to left n : ℕ) → are_bare (short_on c to left n) ≡ true
short_bare Equal to left n = refl
short_bare NotEqual to left n = refl
short_bare Less to left n = refl
short_bare NotLess to left n = refl
short_bare LessUnsigned to left n = refl
short_bare NotLessUnsigned to left n = refl

pub numbered_bare : (to : ℕ) (n : NumberComparison) → are_bare (numbered_code to n) ≡ true
numbered_bare to n =
    let first = number_code 7 n.number in
    let second = verdict_code to n.comparison in
    either (nat_eq n.comparison.right 7 && has_room n.comparison.condition n.number)
    (short_on n.comparison.condition to n.comparison.left n.number) (first ++ second)
    (short_bare n.comparison.condition to n.comparison.left n.number) (two first second (number_bare 7 n.number) (verdict_bare to n.comparison))
