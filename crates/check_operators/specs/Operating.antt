-- View of code: operators by what their operands are.
use Rattle.std.specs.Prelude.{Bool, false, true, ℕ, ◌&&◌}
use Rattle.cyc_tree.specs.declared.expression.Operator.{Operator}
use Rattle.source_typing.specs.Faults.{outlives_rule, region_rule}
use Rattle.source_typing.specs.Operators.{if_equality, is_equality, is_fat, is_move, on_integers}
use Rattle.source_typing.specs.Scope.{Env, Value, value}
use Rattle.source_typing.specs.Types.{Int, StaticType, is_integer}
use Rattle.source_typing.specs.Verdicts.{Verdict, refuse}

-- whether a fat pointer is moved by an integer
abbrev pub moves : Operator → StaticType → StaticType → Bool
moves o a b = is_fat a && is_move o && is_integer b

abbrev pub are_integers : StaticType → StaticType → Bool
are_integers a b = is_integer a && is_integer b

-- by whether a fat pointer is moved, and whether both operands are integers
abbrev pub applied_by : Bool → Bool → Env → Operator → ℕ → StaticType → StaticType → Verdict Value
applied_by true integers g o at a b = value at a
applied_by false true g o at a b = value at (on_integers o a b)
applied_by false false g o at a b = if_equality (is_equality o) g at a b

-- of two thin pointers that are compared, by whether their regions are ordered, and live: Region is the earlier rule
abbrev pub compared_by : Bool → Bool → ℕ → Verdict Value
compared_by ordered false at = refuse region_rule at
compared_by false true at = refuse outlives_rule at
compared_by true true at = value at Int
