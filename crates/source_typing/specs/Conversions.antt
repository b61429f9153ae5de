-- Believed: conversions: of initializers, assigned values, arguments, results and members. Integers convert to each other, and pointers to pointers into
-- regions that theirs outlive, with equal pointees, thin ones to no more elements than theirs; else the types are equal. Types that differ in regions alone,
-- and regions that aren't in order, are Outlives; a unique pointer to or from another region is Region; any other pair is Type.
use Rattle.std.specs.Prelude.{Bool, List, None, Option, Some, false, nat_le, true, ℕ, [], ◌∷◌}
use Rattle.source_meaning.specs.Shapes.{count_of, may_be_null}
use Rattle.source_typing.specs.Faults.{Fault, fault, outlives_rule, region_rule, type_rule}
use Rattle.source_typing.specs.Regions.{Regions}
use Rattle.source_typing.specs.Scope.{Env, Value}
use Rattle.source_typing.specs.Types.{ByRegions, Char, Differs, Equals, Fat, Handle, Int, Key, Match, Null, StaticType, Struct, Thin, Union, Unique, Unsigned}
use Rattle.source_typing.specs.Types.{Void, compare, is_integer}

-- None: it converts; else the rule that it breaks
abbrev pub ordered : Bool → Option ℕ
ordered true = None
ordered false = Some outlives_rule

-- by how two types match: equal, different in regions alone, or different
abbrev pub unless_differs : Match → Option ℕ → Option ℕ → Option ℕ
unless_differs Equals same other = same
unless_differs ByRegions same other = other
unless_differs Differs same other = Some type_rule

abbrev pub equal_types : Match → Option ℕ
equal_types m = unless_differs m None (Some outlives_rule)

-- `NULL` converts to pointers that may be NULL
abbrev pub nullable : Bool → Option ℕ
nullable true = None
nullable false = Some type_rule

abbrev pub if_integer : Bool → Option ℕ
if_integer true = None
if_integer false = Some type_rule

-- a pointer to a number of elements converts to one to no more
abbrev pub if_enough : Bool → Option ℕ → Option ℕ
if_enough true o = o
if_enough false o = Some type_rule

abbrev pub conversion : Regions → StaticType → StaticType → Option ℕ
conversion g Int u = if_integer (is_integer u)
conversion g Unsigned u = if_integer (is_integer u)
conversion g Char u = if_integer (is_integer u)
conversion g Void u = Some type_rule
conversion g Null (Thin n r t) = nullable (may_be_null n)
conversion g Null (Fat r t) = None
conversion g Null (Unique n t) = nullable n
conversion g Null u = Some type_rule
conversion g (Thin n r t) (Thin m q u) = if_enough (nat_le (count_of m) (count_of n))
    (unless_differs (compare t u) (ordered (g.order r q)) (Some outlives_rule))
conversion g (Thin n r t) (Fat q u) = unless_differs (compare t u) (ordered (g.order r q)) (Some outlives_rule)
conversion g (Thin n r t) (Unique m u) = unless_differs (compare t u) (Some region_rule) (Some region_rule)
conversion g (Thin n r t) u = Some type_rule
conversion g (Fat r t) (Thin m q u) = unless_differs (compare t u) (ordered (g.order r q)) (Some outlives_rule)
conversion g (Fat r t) (Fat q u) = unless_differs (compare t u) (ordered (g.order r q)) (Some outlives_rule)
conversion g (Fat r t) (Unique m u) = unless_differs (compare t u) (Some region_rule) (Some region_rule)
conversion g (Fat r t) u = Some type_rule
conversion g (Unique n t) (Unique m u) = unless_differs (compare t u) None (Some outlives_rule)
conversion g (Unique n t) (Thin m q u) = if_enough (nat_le (count_of m) 1) (unless_differs (compare t u) (Some region_rule) (Some region_rule))
conversion g (Unique n t) (Fat q u) = unless_differs (compare t u) (Some region_rule) (Some region_rule)
conversion g (Unique n t) u = Some type_rule
conversion g (Handle r) u = equal_types (compare (Handle r) u)
conversion g (Key r) u = equal_types (compare (Key r) u)
conversion g (Struct tag rs) u = equal_types (compare (Struct tag rs) u)
conversion g (Union tag rs) u = equal_types (compare (Union tag rs) u)

-- a conversion's fault stands at the converted expression
abbrev pub broken : ℕ → Option ℕ → List Fault
broken at None = []
broken at (Some rule) = fault rule at ∷ []

abbrev pub converts : Env → Value → StaticType → List Fault
converts g v u = broken v.at (conversion g.regions v.type u)
