-- Believed: how the forms of expressions use locals that can't be copied.
use Rattle.std.specs.Prelude.{Bool, List, None, Option, Some, false, not, true, ℕ, ◌&&◌, ◌||◌, [], ◌∷◌, ◌++◌}
use Rattle.cyc_tree.specs.declared.expression.Prefix.{Prefix}
use Rattle.cyc_tree.specs.declared.expression.Prefix.TheVariants.{AddressOf, Complement, Dereference, Negate, Not}
use Rattle.source_typing.specs.Faults.{copy_rule, fault}
use Rattle.source_typing.specs.Places.{contents, variable}
use Rattle.source_typing.specs.Scope.{Env, InBlock, Local, Seat, Value}
use Rattle.source_typing.specs.States.{Gone, Held, Passed, Plain, States, loop_head, meet_all, need_held, need_unlent, passed, then_passed, used_to}
use Rattle.source_typing.specs.Tables.{Arrayed, Counter, Stored, Unknown, What, find, is_copyable}
use Rattle.source_typing.specs.Types.{is_unique}
use Rattle.source_typing.specs.Verdicts.{Of, Verdict, after}
use Rattle.cyc_tree.specs.Tree as tree

-- what an expression does to the states, by how it is used
pub record Use : Type 0 where
  -- given away, as initializers, assignments, arguments, results, made values and expression statements do
  pub value : States → Passed
  -- looked at, as operators, conditions, dereferences, uses of members and exchanges do
  pub look : States → Passed
  -- pointed to by `&`
  pub place : States → Passed
  -- assigned as a whole
  pub target : States → Passed
  -- a noncopyable local by its name
  pub whole : Bool
  -- a noncopyable local, a part of one, or an element of a local array of such
  pub own : Bool

abbrev pub nothing : States → Passed
nothing s = passed [] s

-- an expression that is no place
abbrev pub value_use : (States → Passed) → Use
value_use act = record { value = act; look = act; place = act; target = act; whole = false; own = false }

-- What can't be copied would be: Copy.
abbrev pub copy_if : Bool → ℕ → States → Passed
copy_if true at s = passed (fault copy_rule at ∷ []) s
copy_if false at s = passed [] s

-- a place that is no local: a noncopyable value isn't moved out of it, else Copy at the place
abbrev pub place_use : ℕ → Bool → Bool → (States → Passed) → Use
place_use at moves own act =
    record { value = λ s. then_passed (act s) (copy_if moves at); look = act; place = act; target = act; whole = false; own = own }

-- whether a value would be moved
abbrev pub is_moved : Env → Verdict Value → Bool
is_moved g (Of v) = not (is_copyable g.tables v.type)
is_moved g v = false

-- ---- names

-- A noncopyable local: moved where it is given away, held where it is looked at, held again once it is assigned. `&` needs no state of it, and is Copy.
abbrev pub local_use : List Local → tree.Name → Use
local_use ls x = record {
  value = used_to ls x need_held Gone;
  look = used_to ls x need_held Held;
  place = nothing;
  target = used_to ls x need_unlent Held;
  whole = true;
  own = true;
}

-- A local array of noncopyable elements is Copy at its name, wherever it is used.
abbrev pub array_use : ℕ → Use
array_use at = record (value_use (copy_if true at)) { own = true }

abbrev pub if_moved : Bool → Use → Use
if_moved true u = u
if_moved false u = value_use nothing

abbrev pub use_of_local : Env → tree.Name → What → Use
use_of_local g x (Stored t r) = if_moved (not (is_copyable g.tables t)) (local_use g.locals x)
use_of_local g x (Arrayed t r) = if_moved (not (is_copyable g.tables t)) (array_use x.at)
use_of_local g x Counter = value_use nothing
use_of_local g x (Unknown sound) = value_use nothing

-- a global is a place that is no local
abbrev pub use_of_name : Env → tree.Name → Option Local → Use
use_of_name g x (Some l) = use_of_local g x l.what
use_of_name g x None = place_use x.at (is_moved g (variable x.at (find g.tables x.text))) false nothing

-- ---- places

abbrev pub is_unique_value : Verdict Value → Bool
is_unique_value (Of v) = is_unique v.type
is_unique_value v = false

abbrev pub place_at : ℕ → Verdict Value → ℕ
place_at at (Of v) = v.at
place_at at v = at

-- A unique pointer is dereferenced through a local alone, else Copy at the dereference.
abbrev pub pointed_use : ℕ → Verdict Value → Use → States → Passed
pointed_use at v e s = then_passed (e.look s) (copy_if (is_unique_value v && not e.whole) at)

-- `*e`
abbrev pub contents_use : Env → ℕ → Verdict Value → Use → Use
contents_use g at v e = place_use at (is_moved g (after v (contents g at))) false (pointed_use at v e)

-- `a[b]`: b goes before a. What a unique pointer leads to is no part of the local that has the pointer.
abbrev pub indexed_use : ℕ → Bool → Verdict Value → Use → Use → Use
indexed_use at moves v a b = place_use at moves (a.own && not (is_unique_value v)) (λ s. then_passed (b.look s) (pointed_use at v a))

-- `e.f`
abbrev pub member_use : ℕ → Bool → Use → Use
member_use at moves e = place_use at moves e.own e.look

-- `e->f`
abbrev pub arrow_use : ℕ → Bool → Verdict Value → Use → Use
arrow_use at moves v e = place_use at moves false (pointed_use at v e)

abbrev pub in_block : Verdict Value → Bool
in_block (Of v) = is_in_block v.seat
  where
    is_in_block : Seat → Bool
    is_in_block InBlock = true
    is_in_block s = false
in_block v = false

-- `&e` is Copy at `&` where e is a noncopyable local or a part of one, or a place in the block of a unique pointer.
abbrev pub address_use : ℕ → Verdict Value → Use → Use
address_use at v e = value_use (λ s. then_passed (e.place s) (copy_if (e.own || in_block v) at))

abbrev pub prefixed_use : Env → ℕ → Prefix → Verdict Value → Use → Use
prefixed_use g at Negate v e = value_use e.look
prefixed_use g at Not v e = value_use e.look
prefixed_use g at Complement v e = value_use e.look
prefixed_use g at Dereference v e = contents_use g at v e
prefixed_use g at AddressOf v e = address_use at v e

-- ---- the others

-- operands from the left
abbrev pub applied_use : Use → Use → Use
applied_use a b = value_use (λ s. then_passed (a.look s) b.look)

-- The value goes before its place.
abbrev pub assigned_use : Use → Use → Use
assigned_use to from = value_use (λ s. then_passed (from.value s) to.target)

-- `&&` and `||`: the second operand may be evaluated or not
abbrev pub maybe : Passed → (States → Passed) → Passed
maybe p next = passed (p.faults ++ (next p.states).faults) (meet_all p.states (next p.states).states)

abbrev pub tested_use : Use → Use → Use
tested_use a b = value_use (λ s. maybe (a.look s) b.look)

-- The elements of an array are a loop, in which the index is a local. After it the states are those of its head.
abbrev pub without_first : States → States
without_first [] = []
without_first (s ∷ ss) = ss

abbrev pub elements_from : (States → Passed) → States → Passed
elements_from element head = passed (element (Plain ∷ head)).faults head

abbrev pub elements_passed : (States → Passed) → States → Passed
elements_passed element s = elements_from element (loop_head s (λ h. Some (without_first (element (Plain ∷ h)).states)))
