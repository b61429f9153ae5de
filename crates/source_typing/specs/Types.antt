-- Believed: types with their regions, and when two of them are equal.
use Rattle.std.specs.Prelude.{Bool, List, Option, bytes_eq, false, map, not, true, ℕ, ◌&&◌, ◌||◌, [], ◌∷◌}
use Rattle.source_meaning.specs.Memory.{AsChar, AsInt, AsUnsigned, IntegerType}
use Rattle.source_meaning.specs.Shapes.{Alone, Reach, MayBeNull, same_bound, single, CharShape, FatShape, HandleShape, IntShape, KeyShape, Shape, Shared}
use Rattle.source_meaning.specs.Shapes.{StructShape, ThinShape, UnionShape}
use Rattle.source_meaning.specs.Shapes.{UnsignedShape, VoidShape}
use Rattle.source_typing.specs.Regions.{Region, same_id}

-- In a type that a text has, a region is a name. A unique pointer is a type of its own: its region has no name that another pointer could have.
pub data TypeIn (R : Type 0) : Type 0 where
  Int : TypeIn R
  Unsigned : TypeIn R
  Char : TypeIn R
  Void : TypeIn R
  -- the literal `NULL` alone
  Null : TypeIn R
  Thin : (bound : Reach) (region : R) (to : TypeIn R) → TypeIn R
  Fat : (region : R) (to : TypeIn R) → TypeIn R
  Unique : (may_be_null : Bool) (to : TypeIn R) → TypeIn R
  Handle : (region : R) → TypeIn R
  Key : (region : R) → TypeIn R
  Struct : (tag : List ℕ) (regions : List R) → TypeIn R
  Union : (tag : List ℕ) (regions : List R) → TypeIn R

abbrev pub StaticType : Type 0
StaticType = TypeIn Region

-- a type whose missing regions aren't found yet
abbrev pub PartialType : Type 0
PartialType = TypeIn (Option Region)

-- other regions in place of a type's
abbrev pub renamed : {R S : Type 0} → (R → S) → TypeIn R → TypeIn S
renamed f Int = Int
renamed f Unsigned = Unsigned
renamed f Char = Char
renamed f Void = Void
renamed f Null = Null
renamed f (Thin n r t) = Thin n (f r) (renamed f t)
renamed f (Fat r t) = Fat (f r) (renamed f t)
renamed f (Unique n t) = Unique n (renamed f t)
renamed f (Handle r) = Handle (f r)
renamed f (Key r) = Key (f r)
renamed f (Struct tag rs) = Struct tag (map f rs)
renamed f (Union tag rs) = Union tag (map f rs)

-- a type without its regions
abbrev pub shape_of : {R : Type 0} → TypeIn R → Shape
shape_of Int = IntShape
shape_of Unsigned = UnsignedShape
shape_of Char = CharShape
shape_of Void = VoidShape
shape_of Null = ThinShape (MayBeNull 1) Shared VoidShape
shape_of (Thin n r t) = ThinShape n Shared (shape_of t)
shape_of (Fat r t) = FatShape (shape_of t)
shape_of (Unique n t) = ThinShape (single n) Alone (shape_of t)
shape_of (Handle r) = HandleShape
shape_of (Key r) = KeyShape
shape_of (Struct tag rs) = StructShape tag
shape_of (Union tag rs) = UnionShape tag

abbrev pub integer_type : IntegerType → StaticType
integer_type AsInt = Int
integer_type AsUnsigned = Unsigned
integer_type AsChar = Char

-- ---- kinds of types

abbrev pub is_integer : StaticType → Bool
is_integer Int = true
is_integer Unsigned = true
is_integer Char = true
is_integer t = false

abbrev pub is_pointer : StaticType → Bool
is_pointer (Thin n r t) = true
is_pointer (Fat r t) = true
is_pointer (Unique n t) = true
is_pointer t = false

-- what a condition may be
abbrev pub is_testable : StaticType → Bool
is_testable t = is_integer t || is_pointer t

abbrev pub is_null : StaticType → Bool
is_null Null = true
is_null t = false

-- integers, pointers, handles, keys and unions
abbrev pub is_scalar : StaticType → Bool
is_scalar Void = false
is_scalar Null = false
is_scalar (Struct tag rs) = false
is_scalar t = true

abbrev pub is_union : StaticType → Bool
is_union (Union tag rs) = true
is_union t = false

abbrev pub is_key : StaticType → Bool
is_key (Key r) = true
is_key t = false

abbrev pub is_unique : StaticType → Bool
is_unique (Unique n t) = true
is_unique t = false

abbrev pub is_void : StaticType → Bool
is_void Void = true
is_void t = false

-- what `new` and `rnew` take: a value of any type but a key
abbrev pub is_makeable : StaticType → Bool
is_makeable Void = false
is_makeable Null = false
is_makeable (Key r) = false
is_makeable t = true

-- what an array may be of: scalars other than keys, and structs
abbrev pub is_element : StaticType → Bool
is_element Void = false
is_element (Key r) = false
is_element t = true

-- ---- equal types

-- equal, or different in regions alone, or different
pub data Match : Type 0 where
  Equals : Match
  ByRegions : Match
  Differs : Match

abbrev pub by_regions : Match → Match
by_regions Equals = ByRegions
by_regions ByRegions = ByRegions
by_regions Differs = Differs

-- where the regions are these, equal or not
abbrev pub matched : Bool → Match → Match
matched true m = m
matched false m = by_regions m

abbrev pub same_ids : List Region → List Region → Bool
same_ids [] [] = true
same_ids (r ∷ rs) (q ∷ qs) = same_id r q && same_ids rs qs
same_ids _ _ = false

abbrev pub same_bool : Bool → Bool → Bool
same_bool true b = b
same_bool false b = not b

abbrev pub only : Bool → Match → Match
only true m = m
only false m = Differs

abbrev pub compare : StaticType → StaticType → Match
compare Int Int = Equals
compare Unsigned Unsigned = Equals
compare Char Char = Equals
compare Void Void = Equals
compare Null Null = Equals
compare (Thin n r t) (Thin m q u) = only (same_bound n m) (matched (same_id r q) (compare t u))
compare (Thin n r t) (Unique m u) = only (same_bound n (single m)) (by_regions (compare t u))
compare (Unique n t) (Thin m q u) = only (same_bound (single n) m) (by_regions (compare t u))
compare (Unique n t) (Unique m u) = only (same_bool n m) (compare t u)
compare (Fat r t) (Fat q u) = matched (same_id r q) (compare t u)
compare (Handle r) (Handle q) = matched (same_id r q) Equals
compare (Key r) (Key q) = matched (same_id r q) Equals
compare (Struct a rs) (Struct b qs) = only (bytes_eq a b) (matched (same_ids rs qs) Equals)
compare (Union a rs) (Union b qs) = only (bytes_eq a b) (matched (same_ids rs qs) Equals)
compare _ _ = Differs

abbrev pub are_equal : Match → Bool
are_equal Equals = true
are_equal ByRegions = false
are_equal Differs = false

abbrev pub is_same : StaticType → StaticType → Bool
is_same t u = are_equal (compare t u)
