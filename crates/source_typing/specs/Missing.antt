-- Believed: missing regions of a type: each is the region at the same place of another type, from the outermost pointer inwards; where there is none, the heap.
use Rattle.std.specs.Prelude.{Bool, List, None, Option, Some, bytes_eq, false, nat_eq, true, ℕ, if◌then◌else◌, [], ◌∷◌}
use Rattle.source_meaning.specs.Shapes.{Reach, may_be_null, number_of}
use Rattle.source_typing.specs.Faults.{type_rule}
use Rattle.source_typing.specs.Regions.{Region, TheHeap}
use Rattle.source_typing.specs.Tables.{or_heap}
use Rattle.source_typing.specs.Types.{Char, Fat, Handle, Int, Key, Null, PartialType, StaticType, Struct, Thin, Union, Unique, Unsigned, Void}
use Rattle.source_typing.specs.Verdicts.{Of, Verdict, refuse}
use Rattle.source_typing.specs.Written.{Found, Is, IsUnique, Missing}

-- what a pointer leads to
abbrev pub pointee_of : Option StaticType → Option StaticType
pointee_of (Some (Thin n r t)) = Some t
pointee_of (Some (Fat r t)) = Some t
pointee_of (Some (Unique n t)) = Some t
pointee_of t = None

-- the region of the outermost pointer
abbrev pub outer_region : Option StaticType → Found
outer_region (Some (Thin n r t)) = Is r
outer_region (Some (Fat r t)) = Is r
outer_region (Some (Unique n t)) = IsUnique
outer_region t = Missing

-- the region arguments of a struct or union; of another tag there are none at the same place
abbrev pub arguments_of : Bool → List ℕ → Option StaticType → List Region
arguments_of false tag (Some (Struct other rs)) = (if bytes_eq tag other then rs else [])
arguments_of true tag (Some (Union other rs)) = (if bytes_eq tag other then rs else [])
arguments_of u tag t = []

abbrev pub filled_arguments : List (Option Region) → List Region → List Region
filled_arguments [] others = []
filled_arguments (Some r ∷ rs) [] = r ∷ filled_arguments rs []
filled_arguments (None ∷ rs) [] = TheHeap ∷ filled_arguments rs []
filled_arguments (Some r ∷ rs) (o ∷ others) = r ∷ filled_arguments rs others
filled_arguments (None ∷ rs) (o ∷ others) = o ∷ filled_arguments rs others

-- a pointer that would be unique leads to one element; None: another bound
abbrev pub alone_with : Bool → Reach → StaticType → Option StaticType
alone_with true n t = Some (Unique (may_be_null n) t)
alone_with false n t = None

abbrev pub thin_with : Reach → Found → Option StaticType → Option StaticType
thin_with n f None = None
thin_with n (Is r) (Some t) = Some (Thin n r t)
thin_with n IsUnique (Some t) = alone_with (nat_eq (number_of n) 1) n t
thin_with n Missing (Some t) = Some (Thin n TheHeap t)

abbrev pub fat_with : Found → Option StaticType → Option StaticType
fat_with f None = None
fat_with (Is r) (Some t) = Some (Fat r t)
fat_with IsUnique (Some t) = None
fat_with Missing (Some t) = Some (Fat TheHeap t)

abbrev pub unique_with : Bool → Option StaticType → Option StaticType
unique_with n None = None
unique_with n (Some t) = Some (Unique n t)

abbrev pub or_found : Option Region → Found → Found
or_found (Some r) f = Is r
or_found None f = f

-- The type with its missing regions from another one. None: a fat pointer, or one to more elements, that would be unique.
abbrev pub filled_from : PartialType → Option StaticType → Option StaticType
filled_from Int s = Some Int
filled_from Unsigned s = Some Unsigned
filled_from Char s = Some Char
filled_from Void s = Some Void
filled_from Null s = Some Null
filled_from (Thin n r t) s = thin_with n (or_found r (outer_region s)) (filled_from t (pointee_of s))
filled_from (Fat r t) s = fat_with (or_found r (outer_region s)) (filled_from t (pointee_of s))
filled_from (Unique n t) s = unique_with n (filled_from t (pointee_of s))
filled_from (Handle r) s = Some (Handle (or_heap r))
filled_from (Key r) s = Some (Key (or_heap r))
filled_from (Struct tag rs) s = Some (Struct tag (filled_arguments rs (arguments_of false tag s)))
filled_from (Union tag rs) s = Some (Union tag (filled_arguments rs (arguments_of true tag s)))

abbrev pub as_type : ℕ → Option StaticType → Verdict StaticType
as_type at (Some t) = Of t
as_type at None = refuse type_rule at

abbrev pub settled : ℕ → PartialType → Option StaticType → Verdict StaticType
settled at p s = as_type at (filled_from p s)
