-- View of code: what is answered of makings, by what is answered of their parts.
use Rattle.std.specs.Prelude.{Bool, false, not, true, ℕ, ◌||◌}
use Rattle.cyc_tree.specs.Tree.{Array, Made, One}
use Rattle.source_typing.specs.Expressions.{judge}
use Rattle.source_typing.specs.Faults.{fault, type_rule}
use Rattle.source_typing.specs.Making.{Goal, NoHandle, To, ToUnique, array_made, elements, handled, made, with_counter}
use Rattle.source_typing.specs.Scope.{Enclosing, Env, InRegion, InUnique, NotKnown, Value}
use Rattle.source_typing.specs.Types.{StaticType, is_integer, is_makeable}
use Rattle.check_operators.specs.Values.{value_of}
use Rattle.check_operators.specs.declared.value.Value as code
use Rattle.check_faults.specs.Verdicts.{Is, NotJudged, Short, Wrong, short_after, short_both, shortened}

-- the `rnew` around what is made
abbrev pub enclosed_short : Short Goal → Enclosing
enclosed_short (Is (To r)) = InRegion r
enclosed_short (Is ToUnique) = InUnique
enclosed_short (Is NoHandle) = NotKnown
enclosed_short (Wrong f) = NotKnown
enclosed_short NotJudged = NotKnown

-- what is answered of a making that isn't checked, since a part of it isn't, by whether a part that is known is of no such making
abbrev pub short_by_parts : ℕ → Bool → Short Value → Short Value
short_by_parts at misfits (Is v) = Is v
short_by_parts at misfits (Wrong f) = Wrong f
short_by_parts at true NotJudged = Wrong (fault type_rule at)
short_by_parts at false NotJudged = NotJudged

-- a handle that is none, where it is judged
abbrev pub is_short_no_handle : Short Goal → Bool
is_short_no_handle (Is NoHandle) = true
is_short_no_handle (Is (To r)) = false
is_short_no_handle (Is ToUnique) = false
is_short_no_handle (Wrong f) = false
is_short_no_handle NotJudged = false

-- where no array is made, if that is judged
abbrev pub is_short_no_place : Short Goal → Bool
is_short_no_place (Is NoHandle) = true
is_short_no_place (Is (To r)) = false
is_short_no_place (Is ToUnique) = true
is_short_no_place (Wrong f) = false
is_short_no_place NotJudged = false

-- a value that is judged, and isn't of such a type
abbrev pub is_short_other : (StaticType → Bool) → Short Value → Bool
is_short_other fits (Is v) = not (fits v.type)
is_short_other fits (Wrong f) = false
is_short_other fits NotJudged = false

abbrev pub one_misfits : Short Goal → Short Value → Bool
one_misfits s v = is_short_no_handle s || is_short_other is_makeable v

abbrev pub any_misfits : Short Goal → Short Value → Short Value → Bool
any_misfits s n e = is_short_no_place s || (is_short_other is_integer n || is_short_other is_makeable e)

-- what is answered of one value that is made, by what is answered of where and of it
abbrev pub short_one : ℕ → Short Goal → Short Value → Short Value
short_one at s v = short_by_parts at (one_misfits s v) (short_both s v (λ a b. shortened (made at a b)))

-- where a handle makes, by whether it is `unique_region` and by what is answered of it
abbrev pub short_goal : Bool → Env → Short Value → Short Goal
short_goal true g s = Is ToUnique
short_goal false g s = short_after s (λ h. shortened (handled g h))

-- the count and the element of an array in code, as the rules say them
abbrev pub both_values : code.Value × code.Value → Value × Value
both_values p = (value_of p.0, value_of p.1)

-- what is answered of an array that is made, by what is answered of where, of its count and of its element
abbrev pub short_array : ℕ → Short Goal → Short Value → Short Value → Short Value
short_array at s n e =
    short_by_parts at (any_misfits s n e) (short_both s (short_both n e (λ a b. shortened (elements a b))) (λ a b. shortened (array_made at a b)))

-- what is answered of what is made, by what is answered of where
abbrev pub short_made : Env → ℕ → Short Goal → Made → Short Value
short_made g at s (One e) = short_one at s (shortened (judge g e))
short_made g at s (Array x n e) = short_array at s (shortened (judge g n)) (shortened (judge (with_counter x g) e))
