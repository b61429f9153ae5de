-- Believed: operators. Arithmetic, bits, shifts and order take integers; `+` and `-` also a fat pointer and an integer. Else Type.
use Rattle.std.specs.Prelude.{Bool, List, false, length, nat_lt, true, ℕ, ◌&&◌, ◌||◌, ◌++◌}
use Rattle.cyc_tree.specs.declared.expression.Operator.{Operator}
use Rattle.cyc_tree.specs.declared.expression.Operator.TheVariants.{Add, Equal, Greater, GreaterEqual, Less, LessEqual, NotEqual, ShiftLeft, ShiftRight}
use Rattle.cyc_tree.specs.declared.expression.Operator.TheVariants.{Subtract}
use Rattle.cyc_tree.specs.declared.expression.Prefix.{Prefix}
use Rattle.cyc_tree.specs.declared.expression.Prefix.TheVariants.{AddressOf, Complement, Dereference, Negate, Not}
use Rattle.source_typing.specs.Faults.{outlives_rule, region_rule, size_rule, test, type_rule}
use Rattle.source_typing.specs.Places.{address, contents}
use Rattle.source_typing.specs.Regions.{Region, TheHeap}
use Rattle.source_typing.specs.Scope.{Env, Value, is_live, outlives, value}
use Rattle.source_typing.specs.Types.{Char, Fat, Int, StaticType, Thin, Unsigned, is_integer, is_null, is_pointer, is_same, is_testable}
use Rattle.source_typing.specs.Verdicts.{Verdict, after, if_fits, refuse, unless_faulty}

-- a `char` becomes an `int`
abbrev pub promoted : StaticType → StaticType
promoted Char = Int
promoted t = t

-- if one operand is unsigned, both are
abbrev pub common : StaticType → StaticType → StaticType
common Unsigned b = Unsigned
common a Unsigned = Unsigned
common a b = Int

-- comparisons give an `int`, and shifts have the left operand's type
abbrev pub on_integers : Operator → StaticType → StaticType → StaticType
on_integers Equal a b = Int
on_integers NotEqual a b = Int
on_integers Less a b = Int
on_integers LessEqual a b = Int
on_integers Greater a b = Int
on_integers GreaterEqual a b = Int
on_integers ShiftLeft a b = promoted a
on_integers ShiftRight a b = promoted a
on_integers o a b = common a b

abbrev pub is_equality : Operator → Bool
is_equality Equal = true
is_equality NotEqual = true
is_equality o = false

abbrev pub is_move : Operator → Bool
is_move Add = true
is_move Subtract = true
is_move o = false

-- Two thin pointers that are compared have one pointee type, and regions that are equal or ordered, else Outlives, and live, else Region.
abbrev pub compared_thin : Env → ℕ → Bool → Region → Region → Verdict Value
compared_thin g at true r q =
    unless_faulty (test (outlives g r q || outlives g q r) outlives_rule at ++ test (is_live g r && is_live g q) region_rule at) (value at Int)
compared_thin g at false r q = refuse type_rule at

-- `==` and `!=` on pointers take two thin ones that aren't unique, or a pointer and `NULL`.
abbrev pub compared : Env → ℕ → StaticType → StaticType → Verdict Value
compared g at (Thin n r t) (Thin m q u) = compared_thin g at (is_same t u) r q
compared g at a b = after (if_fits ((is_pointer a && is_null b) || (is_null a && is_pointer b)) at Int) (value at)

abbrev pub if_equality : Bool → Env → ℕ → StaticType → StaticType → Verdict Value
if_equality true g at a b = compared g at a b
if_equality false g at a b = refuse type_rule at

abbrev pub fat_moved : Bool → Env → Operator → ℕ → StaticType → StaticType → Verdict Value
fat_moved true g o at a b = value at a
fat_moved false g o at a b = if_equality (is_equality o) g at a b

abbrev pub integers_joined : Bool → Env → Operator → ℕ → StaticType → StaticType → Verdict Value
integers_joined true g o at a b = value at (on_integers o a b)
integers_joined false g o at a b = if_equality (is_equality o) g at a b

abbrev pub applied_to : Env → Operator → ℕ → StaticType → StaticType → Verdict Value
applied_to g o at (Fat r t) b = fat_moved (is_move o && is_integer b) g o at (Fat r t) b
applied_to g o at a b = integers_joined (is_integer a && is_integer b) g o at a b

abbrev pub applied : Env → Operator → Value → Value → Verdict Value
applied g o a b = applied_to g o a.at a.type b.type

-- `&&`, `||` and `!` take integers and pointers.
abbrev pub tested_both : Value → Value → Verdict Value
tested_both a b = after (if_fits (is_testable a.type && is_testable b.type) a.at Int) (value a.at)

abbrev pub tested : ℕ → Value → Verdict Value
tested at e = after (if_fits (is_testable e.type) at Int) (value at)

-- `-` and `~` take integers.
abbrev pub signed : ℕ → Value → Verdict Value
signed at e = after (if_fits (is_integer e.type) at (promoted e.type)) (value at)

abbrev pub prefixed : Env → ℕ → Prefix → Value → Verdict Value
prefixed g at Negate e = signed at e
prefixed g at Complement e = signed at e
prefixed g at Not e = tested at e
prefixed g at Dereference e = contents g at e
prefixed g at AddressOf e = address at e

-- `numelts` takes a fat pointer.
abbrev pub is_fat : StaticType → Bool
is_fat (Fat r t) = true
is_fat t = false

abbrev pub counted : ℕ → Value → Verdict Value
counted at e = after (if_fits (is_fat e.type) at Unsigned) (value at)

-- A string is a fat pointer to its bytes and a final 0, at most 4,096 together; else Size at the string.
abbrev pub string_sized : Bool → ℕ → Verdict Value
string_sized true at = value at (Fat TheHeap Char)
string_sized false at = refuse size_rule at

abbrev pub string : ℕ → List ℕ → Verdict Value
string at bytes = string_sized (nat_lt (length bytes) 4096) at
