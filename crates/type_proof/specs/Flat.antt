-- Believed: the scalars of which a value of a type is made, one a cell, with their regions.
use Rattle.std.specs.Prelude.{ℕ, Option, Some, None, List, [], ◌∷◌, ◌++◌, map, slice_get, bytes_eq, if◌then◌else◌}
use Rattle.source_typing.specs.Regions as names
use Rattle.source_typing.specs.Types.{TypeIn, Int, Unsigned, Char, Void, Null, Thin, Fat, Unique, Handle, Key, Struct, Union, renamed}

-- a struct or union: its tag and its members' types, in which a level is one of its arguments
pub record Declared : Type 0 where
  pub tag : List ℕ
  pub parts : List (TypeIn names.Region)

-- the latest struct first
pub record Tables : Type 0 where
  pub structs : List Declared
  pub unions : List Declared

-- a region that is there, or else this one
abbrev pub or_region : {R : Type 0} → R → Option R → R
or_region r None = r
or_region r (Some q) = q

-- a region of a declaration, where these are the heap and the arguments
abbrev pub filled : {R : Type 0} → R → List R → names.Region → R
filled heap rs names.TheHeap = heap
filled heap rs (names.Level k) = or_region heap (slice_get rs k)

-- the scalars of a type, where those of a struct are given
abbrev pub flat_by : {R : Type 0} → (List ℕ → List R → List (TypeIn R)) → TypeIn R → List (TypeIn R)
flat_by of_struct (Struct tag rs) = of_struct tag rs
flat_by of_struct Void = []
flat_by of_struct Null = Null ∷ []
flat_by of_struct Int = Int ∷ []
flat_by of_struct Unsigned = Unsigned ∷ []
flat_by of_struct Char = Char ∷ []
flat_by of_struct (Thin n r t) = Thin n r t ∷ []
flat_by of_struct (Fat r t) = Fat r t ∷ []
flat_by of_struct (Unique n t) = Unique n t ∷ []
flat_by of_struct (Handle r) = Handle r ∷ []
flat_by of_struct (Key r) = Key r ∷ []
flat_by of_struct (Union tag rs) = Union tag rs ∷ []

-- those of several types, one after another
abbrev pub flat_all : {R : Type 0} → (TypeIn R → List (TypeIn R)) → List (TypeIn R) → List (TypeIn R)
flat_all flat [] = []
flat_all flat (t ∷ ts) = flat t ++ flat_all flat ts

-- the latest struct comes first, and is made of earlier ones
abbrev pub struct_flat : {R : Type 0} → R → List Declared → List ℕ → List R → List (TypeIn R)
struct_flat heap [] tag rs = []
struct_flat heap (d ∷ earlier) tag rs =
    (if bytes_eq d.tag tag then flat_all (flat_by (struct_flat heap earlier)) (map (renamed (filled heap rs)) d.parts) else struct_flat heap earlier tag rs)

-- the scalars of a type
abbrev pub flat : {R : Type 0} → R → Tables → TypeIn R → List (TypeIn R)
flat heap d t = flat_by (struct_flat heap d.structs) t

-- the members of a union
abbrev pub union_parts : {R : Type 0} → R → List Declared → List ℕ → List R → List (TypeIn R)
union_parts heap [] tag rs = []
union_parts heap (d ∷ ds) tag rs = (if bytes_eq d.tag tag then map (renamed (filled heap rs)) d.parts else union_parts heap ds tag rs)
