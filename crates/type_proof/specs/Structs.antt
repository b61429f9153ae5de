-- Believed: how the structs of a program are laid out, and what its unions may hold: by the types of their members, which are those that the tables of its
-- names have.
use Rattle.std.specs.Prelude.{◌≡◌, ◌≤◌, ℕ, Bool, true, false, Some, List, [], ◌∷◌, length, bytes_eq, if◌then◌else◌}
use Rattle.source_meaning.specs.Shapes as shapes
use Rattle.source_meaning.specs.Shapes.{Layout}
use Rattle.source_meaning.specs.Steps.{World}
use Rattle.source_typing.specs.Tables as typing
use Rattle.source_typing.specs.Tables.{parts_in}
use Rattle.source_typing.specs.Types.{StaticType, Int, Unsigned, Char, Thin, Fat, Handle, Struct, shape_of}
use Rattle.type_proof.specs.Entries.{IsObjectType}
use Rattle.type_proof.specs.Flat.{Declared}

-- whether one of these structs has the tag
abbrev pub declares : List Declared → List ℕ → Bool
declares [] tag = false
declares (d ∷ ds) tag = (if bytes_eq d.tag tag then true else declares ds tag)

-- a member is a word, or a struct that was declared before
abbrev pub IsMemberType : List Declared → StaticType → Type 0
IsMemberType earlier (Struct tag rs) = (declares earlier tag ≡ true)
IsMemberType earlier t = IsObjectType t

abbrev pub AreMemberTypes : List Declared → List StaticType → Type 0
AreMemberTypes earlier [] = Unit {0}
AreMemberTypes earlier (t ∷ ts) = IsMemberType earlier t × AreMemberTypes earlier ts

-- the latest struct comes first: each has a tag of its own, and is made of earlier ones
abbrev pub AreInOrder : List Declared → Type 0
AreInOrder [] = Unit {0}
AreInOrder (d ∷ earlier) = (declares earlier d.tag ≡ false) × AreMemberTypes earlier d.parts × AreInOrder earlier

-- the members of a struct in the tables, as they are laid out, and their types
abbrev pub AreMembers : List typing.Part → List shapes.Part → List StaticType → Type 0
AreMembers [] [] [] = Unit {0}
AreMembers (p ∷ ps) (q ∷ qs) (t ∷ ts) = (p.name ≡ q.name) × (p.type ≡ Some t) × (q.shape ≡ shape_of t) × AreMembers ps qs ts
AreMembers _ _ _ = ⊥

-- each struct has the members that the tables have under its tag
abbrev pub AreLaidOut : typing.Tables → List Declared → List Layout → Type 0
AreLaidOut tables [] [] = Unit {0}
AreLaidOut tables (d ∷ ds) (l ∷ ls) = (l.tag ≡ d.tag) × AreMembers (parts_in tables d.tag) l.parts d.parts × AreLaidOut tables ds ls
AreLaidOut tables [] (l ∷ ls) = ⊥
AreLaidOut tables (d ∷ ds) [] = ⊥

-- the structs of a program, the latest first; there are no more than there are names
pub record StructsJudged (world : World) (tables : typing.Tables) : Type 0 where
  pub types : List Declared
  pub in_order : AreInOrder types
  pub laid_out : AreLaidOut tables types world.structs
  pub few : length types ≤ length tables

-- ---- tagged unions

-- a member of a union is a scalar that is copied and is no union: an integer, a pointer or a handle
abbrev pub IsUnionMember : StaticType → Type 0
IsUnionMember Int = Unit {0}
IsUnionMember Unsigned = Unit {0}
IsUnionMember Char = Unit {0}
IsUnionMember (Thin n r t) = IsObjectType t
IsUnionMember (Fat r t) = IsObjectType t
IsUnionMember (Handle r) = Unit {0}
IsUnionMember _ = ⊥

abbrev pub AreUnionMembers : List StaticType → Type 0
AreUnionMembers [] = Unit {0}
AreUnionMembers (t ∷ ts) = IsUnionMember t × AreUnionMembers ts

-- no member has this name
abbrev pub IsNewName : List ℕ → List shapes.Part → Type 0
IsNewName x [] = Unit {0}
IsNewName x (q ∷ qs) = (bytes_eq q.name x ≡ false) × IsNewName x qs

-- no two have the same
abbrev pub AreNamedApart : List shapes.Part → Type 0
AreNamedApart [] = Unit {0}
AreNamedApart (q ∷ qs) = IsNewName q.name qs × AreNamedApart qs

abbrev pub AreUnions : List Declared → List Layout → Type 0
AreUnions [] [] = Unit {0}
AreUnions (d ∷ ds) (l ∷ ls) = AreUnionMembers d.parts × AreNamedApart l.parts × AreUnions ds ls
AreUnions _ _ = ⊥

-- the unions of a program
pub record UnionsJudged (world : World) (tables : typing.Tables) : Type 0 where
  pub types : List Declared
  pub laid_out : AreLaidOut tables types world.unions
  pub members : AreUnions types world.unions
