-- Believed, for this crate's laws: how the forms of expressions use locals that can't be copied.
use Rattle.std.specs.Prelude.{Bool, List, None, Option, Some, bytes_eq, false, length, not, true, ℕ, ◌&&◌, ◌||◌, [], ◌∷◌, if◌then◌else◌}
use Rattle.cyc_tree.specs.declared.expression.Prefix.{Prefix}
use Rattle.cyc_tree.specs.declared.expression.Prefix.TheVariants.{AddressOf, Complement, Dereference, Negate, Not}
use Rattle.source_typing.specs.Moves.{in_block, is_moved, is_unique_value}
use Rattle.source_typing.specs.Places.{contents, variable}
use Rattle.source_typing.specs.Scope.{Env, Local, Value}
use Rattle.source_typing.specs.Tables.{Arrayed, Counter, Stored, Unknown, What, find, is_copyable}
use Rattle.source_typing.specs.Verdicts.{Verdict, after}
use Rattle.flow_summaries.specs.Passages.{Passage, assigned, copied_if, in_turn, in_turn_or_not, looked_at, moved, unchanged}
use Rattle.cyc_tree.specs.Tree as tree

-- what an expression does, by how it is used
pub record Uses : Type 0 where
  -- given away
  pub value : Passage
  -- looked at
  pub look : Passage
  -- pointed to by `&`
  pub place : Passage
  -- assigned as a whole
  pub target : Passage
  -- a noncopyable local by its name
  pub whole : Bool
  -- a noncopyable local, a part of one, or an element of a local array of such
  pub own : Bool

-- an expression that is no place
abbrev pub uses_as_value : Passage → Uses
uses_as_value p = record { value = p; look = p; place = p; target = p; whole = false; own = false }

-- a place that is no local: a noncopyable value isn't moved out of it
abbrev pub uses_as_place : ℕ → Bool → Bool → Passage → Uses
uses_as_place at moves own p =
    record { value = in_turn p (copied_if moves at); look = p; place = p; target = p; whole = false; own = own }

-- ---- names

-- the number of the innermost local of a name
abbrev pub number_of : List Local → List ℕ → Option ℕ
number_of [] x = None
number_of (l ∷ ls) x = (if bytes_eq l.name x then Some (length ls) else number_of ls x)

-- A noncopyable local: moved where it is given away, held where it is looked at, held again once it is assigned.
abbrev pub uses_of_own : List Local → tree.Name → Uses
uses_of_own ls x = record {
  value = moved x.at (number_of ls x.text);
  look = looked_at x.at (number_of ls x.text);
  place = unchanged;
  target = assigned x.at (number_of ls x.text);
  whole = true;
  own = true;
}

-- a local array of noncopyable elements
abbrev pub uses_of_array : ℕ → Uses
uses_of_array at = record (uses_as_value (copied_if true at)) { own = true }

abbrev pub uses_if : Bool → Uses → Uses
uses_if true u = u
uses_if false u = uses_as_value unchanged

abbrev pub uses_of_local : Env → tree.Name → What → Uses
uses_of_local g x (Stored t r) = uses_if (not (is_copyable g.tables t)) (uses_of_own g.locals x)
uses_of_local g x (Arrayed t r) = uses_if (not (is_copyable g.tables t)) (uses_of_array x.at)
uses_of_local g x Counter = uses_as_value unchanged
uses_of_local g x (Unknown sound) = uses_as_value unchanged

-- a global is a place that is no local
abbrev pub uses_of_name : Env → tree.Name → Option Local → Uses
uses_of_name g x (Some l) = uses_of_local g x l.what
uses_of_name g x None = uses_as_place x.at (is_moved g (variable x.at (find g.tables x.text))) false unchanged

-- ---- places

-- a unique pointer is dereferenced through a local alone
abbrev pub pointed_uses : ℕ → Verdict Value → Uses → Passage
pointed_uses at v e = in_turn e.look (copied_if (is_unique_value v && not e.whole) at)

-- `*e`
abbrev pub contents_uses : Env → ℕ → Verdict Value → Uses → Uses
contents_uses g at v e = uses_as_place at (is_moved g (after v (contents g at))) false (pointed_uses at v e)

-- `a[b]`: b goes before a
abbrev pub indexed_uses : ℕ → Bool → Verdict Value → Uses → Uses → Uses
indexed_uses at moves v a b = uses_as_place at moves (a.own && not (is_unique_value v)) (in_turn b.look (pointed_uses at v a))

-- `e.f`
abbrev pub member_uses : ℕ → Bool → Uses → Uses
member_uses at moves e = uses_as_place at moves e.own e.look

-- `e->f`
abbrev pub arrow_uses : ℕ → Bool → Verdict Value → Uses → Uses
arrow_uses at moves v e = uses_as_place at moves false (pointed_uses at v e)

-- `&e`
abbrev pub address_uses : ℕ → Verdict Value → Uses → Uses
address_uses at v e = uses_as_value (in_turn e.place (copied_if (e.own || in_block v) at))

abbrev pub prefixed_uses : Env → ℕ → Prefix → Verdict Value → Uses → Uses
prefixed_uses g at Negate v e = uses_as_value e.look
prefixed_uses g at Not v e = uses_as_value e.look
prefixed_uses g at Complement v e = uses_as_value e.look
prefixed_uses g at Dereference v e = contents_uses g at v e
prefixed_uses g at AddressOf v e = address_uses at v e

-- ---- the others

-- operands from the left
abbrev pub applied_uses : Uses → Uses → Uses
applied_uses a b = uses_as_value (in_turn a.look b.look)

-- the value goes before its place
abbrev pub assigned_uses : Uses → Uses → Uses
assigned_uses to from = uses_as_value (in_turn from.value to.target)

-- `&&` and `||`
abbrev pub tested_uses : Uses → Uses → Uses
tested_uses a b = uses_as_value (in_turn_or_not a.look b.look)
