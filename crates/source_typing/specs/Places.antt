-- Believed: names and places. Places are variables other than arrays and the index of a `for`, `*e`, `e->f`, `e[e]`, and a member `.f` of a place; also in
-- parentheses.
use Rattle.std.specs.Prelude.{Bool, List, None, Option, Some, false, true, ℕ}
use Rattle.source_typing.specs.Conversions.{converts}
use Rattle.source_typing.specs.Faults.{name_rule, region_rule, type_rule}
use Rattle.source_typing.specs.Regions.{Region}
use Rattle.source_typing.specs.Scope.{Env, In, InBlock, Nowhere, Seat, Value, is_live, is_place, seated, value}
use Rattle.source_typing.specs.Tables.{Arrayed, Counter, Entry, OfBuiltin, OfFunction, OfOther, OfTag, OfValue, Part, Stored, Unknown, argument, is_copyable}
use Rattle.source_typing.specs.Tables.{part_in, parts_in}
use Rattle.source_meaning.specs.Shapes.{NeverNull}
use Rattle.source_typing.specs.Types.{Fat, StaticType, Struct, Thin, Union, Unique, Unsigned, Void, is_integer, renamed}
use Rattle.source_typing.specs.Verdicts.{Unjudged, Verdict, other_kind, refuse, unless_faulty}
use Rattle.cyc_tree.specs.Tree as tree

-- A name as a value: an unknown one is Name at it, one of another kind Type at it. An array's name is a fat pointer to its first element.
abbrev pub variable : ℕ → Option Entry → Verdict Value
variable at None = refuse name_rule at
variable at (Some (OfValue (Stored t r))) = seated at t (In r)
variable at (Some (OfValue (Arrayed t r))) = value at (Fat r t)
variable at (Some (OfValue Counter)) = value at Unsigned
variable at (Some (OfValue (Unknown sound))) = Unjudged
variable at (Some (OfTag t)) = other_kind t.sound at
variable at (Some (OfFunction s)) = other_kind s.sound at
variable at (Some (OfBuiltin n)) = refuse type_rule at
variable at (Some OfOther) = Unjudged

-- a place in a region that has to be live, else Region
abbrev pub in_live : Bool → ℕ → StaticType → Region → Verdict Value
in_live true at t r = seated at t (In r)
in_live false at t r = refuse region_rule at

-- `*e` takes a pointer, whose region has to be live; a unique pointer's is judged by flow.
abbrev pub contents_of : Env → ℕ → StaticType → Verdict Value
contents_of g at (Thin n r t) = in_live (is_live g r) at t r
contents_of g at (Fat r t) = in_live (is_live g r) at t r
contents_of g at (Unique n t) = seated at t InBlock
contents_of g at t = refuse type_rule at

abbrev pub contents : Env → ℕ → Value → Verdict Value
contents g at e = contents_of g at e.type

-- A subscript takes a pointer or an array, whose region has to be live, and an integer; a unique pointer's region is judged by flow.
abbrev pub indexed_of : Env → ℕ → StaticType → Bool → Verdict Value
indexed_of g at (Fat r t) true = in_live (is_live g r) at t r
indexed_of g at (Thin n r t) true = in_live (is_live g r) at t r
indexed_of g at (Unique n t) true = seated at t InBlock
indexed_of g at t i = refuse type_rule at

abbrev pub indexed : Env → Value → Value → Verdict Value
indexed g a b = indexed_of g a.at a.type (is_integer b.type)

-- A member, with the struct's region arguments in its type; an unknown one is Name at the member.
abbrev pub part_typed : ℕ → Seat → List Region → Option StaticType → Verdict Value
part_typed at s rs None = Unjudged
part_typed at s rs (Some t) = seated at (renamed (argument rs) t) s

abbrev pub part_found : ℕ → Seat → List Region → ℕ → Option Part → Verdict Value
part_found at s rs f None = refuse name_rule f
part_found at s rs f (Some p) = part_typed at s rs p.type

abbrev pub part_of : Env → ℕ → Seat → List ℕ → List Region → tree.Name → Verdict Value
part_of g at s tag rs f = part_found at s rs f.at (part_in (parts_in g.tables tag) f.text)

-- `e.f` takes a place of struct type.
abbrev pub member_of : Env → tree.Name → ℕ → StaticType → Seat → Verdict Value
member_of g f at t Nowhere = refuse type_rule at
member_of g f at (Struct tag rs) s = part_of g at s tag rs f
member_of g f at t s = refuse type_rule at

abbrev pub member : Env → tree.Name → Value → Verdict Value
member g f e = member_of g f e.at e.type e.seat

-- `e->f` takes a pointer to a struct, whose region has to be live.
abbrev pub arrow_live : Bool → Env → tree.Name → ℕ → Region → List ℕ → List Region → Verdict Value
arrow_live true g f at r tag rs = part_of g at (In r) tag rs f
arrow_live false g f at r tag rs = refuse region_rule at

abbrev pub arrow_of : Env → tree.Name → ℕ → StaticType → Verdict Value
arrow_of g f at (Thin n r (Struct tag rs)) = arrow_live (is_live g r) g f at r tag rs
arrow_of g f at (Fat r (Struct tag rs)) = arrow_live (is_live g r) g f at r tag rs
arrow_of g f at (Unique n (Struct tag rs)) = part_of g at InBlock tag rs f
arrow_of g f at t = refuse type_rule at

abbrev pub arrow : Env → tree.Name → Value → Verdict Value
arrow g f e = arrow_of g f e.at e.type

-- `&e` takes a place, and gives a pointer that is never NULL, in the place's region.
abbrev pub address_of : ℕ → StaticType → Seat → Verdict Value
address_of at t Nowhere = refuse type_rule at
address_of at t (In r) = value at (Thin (NeverNull 1) r t)
address_of at t InBlock = value at (Unique false t)

abbrev pub address : ℕ → Value → Verdict Value
address at e = address_of at e.type e.seat

-- An assignment takes a place. Its value is the stored one; of a struct, union or noncopyable type it has none.
abbrev pub if_copyable : Bool → StaticType → StaticType
if_copyable true t = t
if_copyable false t = Void

abbrev pub assigned_type : Env → StaticType → StaticType
assigned_type g (Struct tag rs) = Void
assigned_type g (Union tag rs) = Void
assigned_type g t = if_copyable (is_copyable g.tables t) t

abbrev pub assigned_in : Bool → Env → Value → Value → Verdict Value
assigned_in true g to from = unless_faulty (converts g from to.type) (value to.at (assigned_type g to.type))
assigned_in false g to from = refuse type_rule to.at

abbrev pub assigned : Env → Value → Value → Verdict Value
assigned g to from = assigned_in (is_place to.seat) g to from

-- parentheses change nothing but the first token
abbrev pub grouped : ℕ → Value → Verdict Value
grouped at e = seated at e.type e.seat
