-- Believed: what the names of a program mean: variables, arrays, functions that take such values, structs, unions, and the two functions that every program
-- has.
use Rattle.std.specs.Prelude.{◌≡◌, ℕ, true, false, ◌⊎◌, Some, List, [], ◌∷◌, map, bytes_eq, codes}
use Rattle.source_meaning.specs.Shapes.{part_shapes, has_tag}
use Rattle.source_meaning.specs.Steps.{Routine, World}
use Rattle.source_meaning.specs.Calls.{function_of}
use Rattle.source_typing.specs.Tables as typing
use Rattle.source_typing.specs.Tables.{Entry, OfValue, OfTag, OfFunction, OfBuiltin, Stored, Arrayed, Signature, Tag, find}
use Rattle.source_typing.specs.Types.{StaticType, Int, Unsigned, Char, Void, Thin, Fat, Unique, Handle, Key, Struct, Union, shape_of}

-- What a variable may be of: an integer, a pointer to what a variable may be of, a unique one too, a handle, a key, a struct, or a union.
abbrev pub IsObjectType : StaticType → Type 0
IsObjectType Int = Unit {0}
IsObjectType Unsigned = Unit {0}
IsObjectType Char = Unit {0}
IsObjectType (Thin n r t) = IsObjectType t
IsObjectType (Fat r t) = IsObjectType t
IsObjectType (Unique n t) = IsObjectType t
IsObjectType (Handle r) = Unit {0}
IsObjectType (Key r) = Unit {0}
IsObjectType (Struct tag rs) = Unit {0}
IsObjectType (Union tag rs) = Unit {0}
IsObjectType _ = ⊥

-- a word's type: that of an integer or a pointer
abbrev pub IsWordType : StaticType → Type 0
IsWordType (Handle r) = ⊥
IsWordType (Key r) = ⊥
IsWordType (Struct tag rs) = ⊥
IsWordType (Union tag rs) = ⊥
IsWordType t = IsObjectType t

-- what a function may give: such a value, or nothing
abbrev pub IsPlain : StaticType → Type 0
IsPlain Void = Unit {0}
IsPlain t = IsObjectType t

-- all are of such types
abbrev pub AreObjects : List StaticType → Type 0
AreObjects [] = Unit {0}
AreObjects (t ∷ ts) = IsObjectType t × AreObjects ts

-- ---- functions

-- a function of the program that takes such values, and gives one or nothing
pub record Function (world : World) (x : List ℕ) (s : Signature) : Type 0 where
  pub routine : Routine
  pub found : function_of world.functions x ≡ Some routine
  pub not_read : bytes_eq x (codes "getchar") ≡ false
  pub not_written : bytes_eq x (codes "putchar") ≡ false
  pub not_made : has_tag world.structs x ≡ false
  pub types : List StaticType
  pub parameters : s.parameters ≡ map (λ t. Some t) types
  pub shapes : part_shapes routine.parameters ≡ map shape_of types
  pub objects : AreObjects types
  pub gives : StaticType
  pub result : s.result ≡ Some gives
  pub shape : routine.result ≡ shape_of gives
  pub plain : IsPlain gives

abbrev pub Builtin : List ℕ → ℕ → Type 0
Builtin x n =
    ((bytes_eq x (codes "getchar") ≡ true) × (n ≡ 0)) ⊎ ((bytes_eq x (codes "getchar") ≡ false) × (bytes_eq x (codes "putchar") ≡ true) × (n ≡ 1))

-- ---- structs

-- a struct of the program
pub record Structure (world : World) (x : List ℕ) (t : Tag) : Type 0 where
  pub named : t.text ≡ x
  pub no_union : t.is_union ≡ false
  pub not_read : bytes_eq x (codes "getchar") ≡ false
  pub not_written : bytes_eq x (codes "putchar") ≡ false
  pub there : has_tag world.structs x ≡ true

-- a tagged union of the program
pub record Unioned (world : World) (x : List ℕ) (t : Tag) : Type 0 where
  pub named : t.text ≡ x
  pub union : t.is_union ≡ true
  pub there : has_tag world.unions x ≡ true

-- ---- names

abbrev pub PlainEntry : World → List ℕ → Entry → Type 0
PlainEntry world x (OfValue (Stored t r)) = IsObjectType t
PlainEntry world x (OfValue (Arrayed t r)) = IsObjectType t
PlainEntry world x (OfTag t) = Structure world x t ⊎ Unioned world x t
PlainEntry world x (OfFunction s) = Function world x s
PlainEntry world x (OfBuiltin n) = Builtin x n
PlainEntry world x _ = ⊥

-- all that is declared is of these
abbrev pub PlainTables : World → typing.Tables → Type 0
PlainTables world tables = (x : List ℕ) (e : Entry) → find tables x ≡ Some e → PlainEntry world x e
