-- Believed: calls, and the making of structs and union values.
use Rattle.std.specs.Prelude.{Bool, List, None, Option, Some, false, length, map, nat_eq, replicate, true, ℕ, ◌&&◌, if◌then◌else◌, [], ◌∷◌, ◌++◌}
use Rattle.source_typing.specs.Conversions.{converts}
use Rattle.source_typing.specs.Faults.{Fault, effect_rule, name_rule, outlives_rule, test, type_rule}
use Rattle.source_typing.specs.Fixing.{all_fits, all_regions, fixed_from, fixed_known, is_known}
use Rattle.source_typing.specs.Regions.{Region}
use Rattle.source_typing.specs.Scope.{Env, Value, is_live, outlives, value}
use Rattle.source_typing.specs.Tables.{Entry, OfBuiltin, OfFunction, OfOther, OfTag, OfValue, Part, Signature, Tag, Unknown, What, argument, or_heap, part_in}
use Rattle.source_typing.specs.Types.{Int, StaticType, Struct, Union, renamed}
use Rattle.source_typing.specs.Verdicts.{Faulty, Of, Unjudged, Verdict, after, other_kind, refuse, unless_faulty}
use Rattle.source_typing.specs.Written.{if_sound}
use Rattle.cyc_tree.specs.Tree as tree

-- ---- what is called

pub data Target : Type 0 where
  ToBuiltin : ℕ → Target
  ToStruct : Tag → Target
  ToFunction : Signature → Target

-- A variable can't be called, whatever its type is; one whose declaration has a fault isn't checked.
abbrev pub target_of_value : What → ℕ → Verdict Target
target_of_value (Unknown sound) at = other_kind sound at
target_of_value w at = refuse type_rule at

abbrev pub target_of_tag : Bool → Tag → ℕ → Verdict Target
target_of_tag true t at = other_kind t.sound at
target_of_tag false t at = if_sound t.sound (Of (ToStruct t))

-- An unknown name is Name at it; a name that can't be called is Type at it.
abbrev pub target : ℕ → Option Entry → Verdict Target
target at None = refuse name_rule at
target at (Some (OfBuiltin n)) = Of (ToBuiltin n)
target at (Some (OfFunction s)) = if_sound s.sound (Of (ToFunction s))
target at (Some (OfTag t)) = target_of_tag t.is_union t at
target at (Some (OfValue w)) = target_of_value w at
target at (Some OfOther) = Unjudged

-- ---- arguments

abbrev pub all_convert : Env → List Region → List (Option StaticType) → List Value → List Fault
all_convert g rs (Some p ∷ ps) (v ∷ vs) = converts g v (renamed (argument rs) p) ++ all_convert g rs ps vs
all_convert g rs (None ∷ ps) (v ∷ vs) = all_convert g rs ps vs
all_convert g rs ps vs = []

abbrev pub all_known : List (Option StaticType) → Bool
all_known [] = true
all_known (Some t ∷ ts) = all_known ts
all_known (None ∷ ts) = false

abbrev pub if_all_known : Bool → List Region → Verdict (List Region)
if_all_known true rs = Of rs
if_all_known false rs = Unjudged

-- Where a region variable of a parameter's type isn't known, a conversion is looked at without regions: Type is its only fault.
abbrev pub only_types : List Fault → List Fault
only_types [] = []
only_types (f ∷ fs) = (if nat_eq f.kind type_rule then f ∷ only_types fs else only_types fs)

abbrev pub if_regions_known : Bool → List Fault → List Fault
if_regions_known true fs = fs
if_regions_known false fs = only_types fs

abbrev pub partly_convert : Env → List (Option Region) → List (Option StaticType) → List Value → List Fault
partly_convert g rs (Some p ∷ ps) (v ∷ vs) =
    if_regions_known (all_regions (is_known rs) p) (converts g v (renamed (argument (map or_heap rs)) p)) ++ partly_convert g rs ps vs
partly_convert g rs (None ∷ ps) (v ∷ vs) = partly_convert g rs ps vs
partly_convert g rs ps vs = []

-- Each argument converts to its parameter's type, in which the region variables stand for these; where one of them has a fault, for those that are known.
abbrev pub arguments_converted : Env → List (Option Region) → List (Option StaticType) → List Value → Verdict (List Region) → Verdict (List Region)
arguments_converted g some ps vs (Of rs) = unless_faulty (all_convert g rs ps vs) (if_all_known (all_known ps) rs)
arguments_converted g some ps vs (Faulty f fs) = Faulty f (fs ++ partly_convert g some ps vs)
arguments_converted g some ps vs Unjudged = unless_faulty (partly_convert g some ps vs) Unjudged

-- A wrong count of arguments is Type at the call, and found before any conversion.
abbrev pub arguments_counted : Bool → Env → ℕ → ℕ → List (Option StaticType) → List Value → Verdict (List Region)
arguments_counted true g at n ps vs =
    arguments_converted g (fixed_known g.enclosing at (all_fits ps vs) 0 n) ps vs (fixed_from g.enclosing at (all_fits ps vs) 0 n)
arguments_counted false g at n ps vs = refuse type_rule at

-- the arguments fit the parameters, which have n region variables: what these stand for
abbrev pub arguments_fit : Env → ℕ → ℕ → List (Option StaticType) → List Value → Verdict (List Region)
arguments_fit g at n ps vs = arguments_counted (nat_eq (length ps) (length vs)) g at n ps vs

-- ---- effects and bounds

abbrev pub all_live : Env → List Region → List Region → Bool
all_live g rs [] = true
all_live g rs (r ∷ effect) = is_live g (argument rs r) && all_live g rs effect

abbrev pub all_ordered : Env → List Region → List (Region × Region) → Bool
all_ordered g rs [] = true
all_ordered g rs ((a, b) ∷ bounds) = outlives g (argument rs a) (argument rs b) && all_ordered g rs bounds

abbrev pub typed_result : ℕ → List Region → Option StaticType → Verdict Value
typed_result at rs None = Unjudged
typed_result at rs (Some t) = value at (renamed (argument rs) t)

-- A call needs its effect live, else Effect, and its bounds in order, else Outlives, at the callee's name.
abbrev pub call_entered : Env → ℕ → Signature → List Region → Verdict Value
call_entered g at s rs =
    unless_faulty (test (all_live g rs s.effect) effect_rule at ++ test (all_ordered g rs s.bounds) outlives_rule at) (typed_result at rs s.result)

-- the parameters of a function that every program has
abbrev pub builtin_parameters : ℕ → List (Option StaticType)
builtin_parameters n = replicate n (Some Int)

abbrev pub part_types : List Part → List (Option StaticType)
part_types ps = map (λ p. p.type) ps

-- `S(e1, .., en)` makes a struct from its members in order.
abbrev pub called : Env → ℕ → Target → List Value → Verdict Value
called g at (ToBuiltin n) vs = after (arguments_fit g at 0 (builtin_parameters n) vs) (λ rs. value at Int)
called g at (ToStruct t) vs = after (arguments_fit g at t.regions (part_types t.parts) vs) (λ rs. value at (Struct t.text rs))
called g at (ToFunction s) vs = after (arguments_fit g at s.regions s.parameters vs) (call_entered g at s)

-- ---- union values

-- `U.M(e)`: an unknown union or member is Name at it, a name that is no union's Type at it.
abbrev pub union_member : tree.Name → Tag → Option Part → Verdict (Tag × Part)
union_member f t None = refuse name_rule f.at
union_member f t (Some p) = Of (t, p)

abbrev pub if_union : Bool → tree.Name → tree.Name → Tag → Verdict (Tag × Part)
if_union true tag f t = union_member f t (part_in t.parts f.text)
if_union false tag f t = refuse type_rule tag.at

abbrev pub union_tag : tree.Name → tree.Name → Option Entry → Verdict (Tag × Part)
union_tag tag f None = refuse name_rule tag.at
union_tag tag f (Some (OfTag t)) = if_sound t.sound (if_union t.is_union tag f t)
union_tag tag f (Some (OfValue (Unknown sound))) = other_kind sound tag.at
union_tag tag f (Some (OfFunction s)) = other_kind s.sound tag.at
union_tag tag f (Some e) = refuse type_rule tag.at

abbrev pub union_made : Env → ℕ → Tag × Part → Value → Verdict Value
union_made g at (t, p) v = after (arguments_fit g at t.regions (p.type ∷ []) (v ∷ [])) (λ rs. value at (Union t.text rs))
