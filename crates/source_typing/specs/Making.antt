-- Believed: making: `new` in the heap, and `rnew` in the region of a handle or in the unique region.
use Rattle.std.specs.Prelude.{Bool, false, not, true, ℕ, ◌&&◌, ◌||◌, ◌∷◌}
use Rattle.source_typing.specs.Faults.{region_rule, type_rule}
use Rattle.source_typing.specs.Regions.{Region}
use Rattle.source_typing.specs.Scope.{Enclosing, Env, InRegion, InUnique, NotKnown, Value, is_live, value}
use Rattle.source_typing.specs.Tables.{Counter}
use Rattle.source_meaning.specs.Shapes.{NeverNull}
use Rattle.source_typing.specs.Types.{Fat, Handle, StaticType, Thin, Unique, is_integer, is_makeable}
use Rattle.source_typing.specs.Verdicts.{Faulty, Of, Unjudged, Verdict, after, both, if_fits, refuse}
use Rattle.cyc_tree.specs.Tree as tree

-- where a value is made
pub data Goal : Type 0 where
  To : Region → Goal
  ToUnique : Goal
  -- the handle is none
  NoHandle : Goal

-- The handle's region must be live, else Region at the handle.
abbrev pub live_goal : Bool → ℕ → Region → Verdict Goal
live_goal true at r = Of (To r)
live_goal false at r = refuse region_rule at

abbrev pub handled_of : Env → ℕ → StaticType → Verdict Goal
handled_of g at (Handle r) = live_goal (is_live g r) at r
handled_of g at t = Of NoHandle

abbrev pub handled : Env → Value → Verdict Goal
handled g h = handled_of g h.at h.type

-- `unique_region` is the handle of an `rnew` alone, also in parentheses
abbrev pub goal_of : Bool → Env → Verdict Value → Verdict Goal
goal_of true g h = Of ToUnique
goal_of false g h = after h (handled g)

-- the region that a call in the operand takes for region variables that nothing fixes
abbrev pub enclosed : Verdict Goal → Enclosing
enclosed (Of (To r)) = InRegion r
enclosed (Of ToUnique) = InUnique
enclosed v = NotKnown

-- the operand of an `rnew`
abbrev pub inside : Verdict Goal → Env → Env
inside goal g = record g { enclosing = enclosed goal }

-- an element, with its index
abbrev pub with_counter : tree.Name → Env → Env
with_counter index g = record g { locals = record { name = index.text; what = Counter; block = g.block } ∷ g.locals }

-- A making that isn't checked, since a part of it isn't, is Type all the same where a part that is known is of no such making.
abbrev pub by_parts : ℕ → Bool → Verdict Value → Verdict Value
by_parts at misfits (Faulty f fs) = Faulty f fs
by_parts at true Unjudged = refuse type_rule at
by_parts at false Unjudged = Unjudged
by_parts at misfits (Of v) = Of v

-- a handle that is none, where it is judged
abbrev pub is_no_handle : Verdict Goal → Bool
is_no_handle (Of NoHandle) = true
is_no_handle (Of (To r)) = false
is_no_handle (Of ToUnique) = false
is_no_handle (Faulty f fs) = false
is_no_handle Unjudged = false

-- where no array is made, if that is judged: in the unique region, and by a handle that is none
abbrev pub is_no_place_of_arrays : Verdict Goal → Bool
is_no_place_of_arrays (Of NoHandle) = true
is_no_place_of_arrays (Of (To r)) = false
is_no_place_of_arrays (Of ToUnique) = true
is_no_place_of_arrays (Faulty f fs) = false
is_no_place_of_arrays Unjudged = false

-- a value that is judged, and isn't of such a type
abbrev pub is_other : (StaticType → Bool) → Verdict Value → Bool
is_other fits (Of v) = not (fits v.type)
is_other fits (Faulty f fs) = false
is_other fits Unjudged = false

-- `new e` and `rnew(h) e` take a value of any type but a key, and give a pointer that is never NULL. Else Type at the making.
abbrev pub made_to : ℕ → Goal → StaticType → Verdict Value
made_to at (To r) t = value at (Thin (NeverNull 1) r t)
made_to at ToUnique t = value at (Unique false t)
made_to at NoHandle t = refuse type_rule at

abbrev pub made : ℕ → Goal → Value → Verdict Value
made at goal e = after (if_fits (is_makeable e.type) at e.type) (made_to at goal)

-- The array form takes an integer and an element, and gives a fat pointer; it isn't made in the unique region.
abbrev pub elements : Value → Value → Verdict (Value × Value)
elements count e = Of (count, e)

abbrev pub array_to : ℕ → Goal → StaticType → Verdict Value
array_to at (To r) t = value at (Fat r t)
array_to at ToUnique t = refuse type_rule at
array_to at NoHandle t = refuse type_rule at

abbrev pub array_made : ℕ → Goal → Value × Value → Verdict Value
array_made at goal (count, e) = after (if_fits (is_integer count.type && is_makeable e.type) at e.type) (array_to at goal)

-- ---- the whole phrase, by its parts

abbrev pub made_of : ℕ → Verdict Goal → Verdict Value → Verdict Value
made_of at goal e = by_parts at (is_no_handle goal || is_other is_makeable e) (both goal e (made at))

abbrev pub array_misfits : Verdict Goal → Verdict Value → Verdict Value → Bool
array_misfits goal count e = is_no_place_of_arrays goal || (is_other is_integer count || is_other is_makeable e)

abbrev pub array_of : ℕ → Verdict Goal → Verdict Value → Verdict Value → Verdict Value
array_of at goal count e = by_parts at (array_misfits goal count e) (both goal (both count e elements) (array_made at))
