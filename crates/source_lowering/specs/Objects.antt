-- Believed: the shapes that lowering takes, and the unions, structs and types that are written for them.
use Rattle.std.specs.Prelude.{◌≡◌, ◌<◌, ◌≤◌, ◌^◌, true, false, List, [], ◌∷◌, length}
use Rattle.cyc_tree.specs.Tree as tree
use Rattle.cyc_tree.specs.Tree.{Base, TypeName}
use Rattle.source_meaning.specs.Shapes.{Shape, IntShape, UnsignedShape, CharShape, VoidShape, ThinShape, FatShape, HandleShape, KeyShape, StructShape}
use Rattle.source_meaning.specs.Shapes.{UnionShape, ArrayShape, Part, Layout, part_shapes, has_tag, written, settled}
use Rattle.source_meaning.specs.Memory.{is_alone}
use Rattle.source_meaning.specs.Sizes.{struct_extent}
use Rattle.source_lowering.specs.Taken.{HasFirst}

-- ---- shapes

-- what a pointer leads to, beside nothing: an integer, a pointer, a handle, a key, a struct, a tagged union
abbrev pub IsTarget : Shape → Type 0
IsTarget IntShape = Unit {0}
IsTarget UnsignedShape = Unit {0}
IsTarget CharShape = Unit {0}
IsTarget VoidShape = Unit {0}
IsTarget (ThinShape bound owner to) = IsTarget to
IsTarget (FatShape to) = IsTarget to
IsTarget HandleShape = Unit {0}
IsTarget KeyShape = Unit {0}
IsTarget (StructShape tag) = Unit {0}
IsTarget (UnionShape tag) = Unit {0}
IsTarget (ArrayShape count of) = ⊥

-- a word: an integer, a thin pointer, a handle, or a key
abbrev pub IsWordShape : Shape → Type 0
IsWordShape IntShape = Unit {0}
IsWordShape UnsignedShape = Unit {0}
IsWordShape CharShape = Unit {0}
IsWordShape VoidShape = ⊥
IsWordShape (ThinShape bound owner to) = IsTarget to
IsWordShape (FatShape to) = ⊥
IsWordShape HandleShape = Unit {0}
IsWordShape KeyShape = Unit {0}
IsWordShape (StructShape tag) = ⊥
IsWordShape (UnionShape tag) = ⊥
IsWordShape (ArrayShape count of) = ⊥

-- a word, or a fat pointer
abbrev pub IsValueShape : Shape → Type 0
IsValueShape (FatShape to) = IsTarget to
IsValueShape s = IsWordShape s

-- such a value, or one of these unions and structs
abbrev pub IsObject : (unions structs : List Layout) → Shape → Type 0
IsObject unions structs (StructShape tag) = (has_tag structs tag ≡ true)
IsObject unions structs (UnionShape tag) = (has_tag unions tag ≡ true)
IsObject unions structs s = IsValueShape s

-- what a name may stand for: an object, or an array of objects, whose count is a word
abbrev pub IsVariable : (unions structs : List Layout) → Shape → Type 0
IsVariable unions structs (ArrayShape count of) = (count < 2 ^ 32) × IsObject unions structs of
IsVariable unions structs s = IsObject unions structs s

abbrev pub AreVariables : (unions structs : List Layout) → List Shape → Type 0
AreVariables unions structs [] = Unit {0}
AreVariables unions structs (s ∷ ss) = IsVariable unions structs s × AreVariables unions structs ss

abbrev pub AreObjects : (unions structs : List Layout) → List Shape → Type 0
AreObjects unions structs [] = Unit {0}
AreObjects unions structs (s ∷ ss) = IsObject unions structs s × AreObjects unions structs ss

-- one of these unions
abbrev pub IsUnionShape : List Layout → Shape → Type 0
IsUnionShape unions (UnionShape tag) = (has_tag unions tag ≡ true)
IsUnionShape unions s = ⊥

-- one of these unions and structs
abbrev pub IsWholeShape : (unions structs : List Layout) → Shape → Type 0
IsWholeShape unions structs (StructShape tag) = (has_tag structs tag ≡ true)
IsWholeShape unions structs (UnionShape tag) = (has_tag unions tag ≡ true)
IsWholeShape unions structs s = ⊥

-- what an assignment gives, where its value is used: no struct, no union, and no unique pointer
abbrev pub IsGivenShape : Shape → Type 0
IsGivenShape (ThinShape bound owner to) = (is_alone owner ≡ false)
IsGivenShape KeyShape = ⊥
IsGivenShape (StructShape tag) = ⊥
IsGivenShape (UnionShape tag) = ⊥
IsGivenShape s = Unit {0}

-- what two places exchange: a word, a fat pointer, or a tagged union
abbrev pub IsExchanged : List Layout → Shape → Type 0
IsExchanged unions (UnionShape tag) = (has_tag unions tag ≡ true)
IsExchanged unions s = IsValueShape s

-- a thin pointer, of any owner
abbrev pub IsThinShape : Shape → Type 0
IsThinShape (ThinShape bound owner to) = Unit {0}
IsThinShape s = ⊥

-- a key
abbrev pub IsKeyShape : Shape → Type 0
IsKeyShape KeyShape = Unit {0}
IsKeyShape s = ⊥

-- what is no struct and no union: an operand, and what is passed and returned
abbrev pub IsOperandShape : Shape → Type 0
IsOperandShape (StructShape tag) = ⊥
IsOperandShape (UnionShape tag) = ⊥
IsOperandShape s = Unit {0}

-- ---- unions and structs

abbrev pub HasMember : List Part → Type 0
HasMember [] = ⊥
HasMember (p ∷ ps) = Unit {0}

abbrev pub AreValues : List Shape → Type 0
AreValues [] = Unit {0}
AreValues (s ∷ ss) = IsValueShape s × AreValues ss

-- a union: it has a member, each of its members is a word or a fat pointer, and a word counts them
pub record IsUnion (l : Layout) : Type 0 where
  pub some : HasMember l.parts
  pub members : AreValues (part_shapes l.parts)
  pub few : length l.parts < 2 ^ 32

-- a word counts the members of each
abbrev pub HaveFewMembers : List Layout → Type 0
HaveFewMembers [] = Unit {0}
HaveFewMembers (l ∷ ls) = (length l.parts < 2 ^ 32) × HaveFewMembers ls

abbrev pub AreUnions : List Layout → Type 0
AreUnions [] = Unit {0}
AreUnions (l ∷ ls) = IsUnion l × AreUnions ls

-- a struct after earlier ones: its tag is new, it has a member, each of its members is a word, a fat pointer, a union or an earlier struct, and it takes at
-- most
-- 4,096 bytes
pub record IsStruct (unions earlier : List Layout) (l : Layout) : Type 0 where
  pub new : has_tag earlier l.tag ≡ false
  pub some : HasMember l.parts
  pub members : AreObjects unions earlier (part_shapes l.parts)
  pub small : (struct_extent unions (l ∷ earlier) l.tag).size ≤ 4096

-- the latest comes first
abbrev pub AreStructs : List Layout → List Layout → Type 0
AreStructs unions [] = Unit {0}
AreStructs unions (l ∷ earlier) = IsStruct unions earlier l × AreStructs unions earlier

-- ---- types

abbrev pub IsObjectBase : Base → Type 0
IsObjectBase tree.Int = Unit {0}
IsObjectBase tree.Unsigned = Unit {0}
IsObjectBase tree.Char = Unit {0}
IsObjectBase (tree.Struct tag arguments) = Unit {0}
IsObjectBase (tree.Union tag arguments) = Unit {0}
IsObjectBase (tree.Handle region) = Unit {0}
IsObjectBase (tree.Key region) = Unit {0}
IsObjectBase _ = ⊥

-- a struct or a union that is among these, or neither
abbrev pub IsKnownIn : (unions structs : List Layout) → Shape → Type 0
IsKnownIn unions structs (StructShape tag) = (has_tag structs tag ≡ true)
IsKnownIn unions structs (UnionShape tag) = (has_tag unions tag ≡ true)
IsKnownIn unions structs s = Unit {0}

-- an integer, a struct, a union, a handle, a key, or a thin or fat pointer to these, or to such a pointer
pub record IsObjectType (unions structs : List Layout) (t : TypeName) : Type 0 where
  pub base : IsObjectBase t.base
  pub known : IsKnownIn unions structs (settled (written t))

-- an integer, a handle, a key, or such a pointer
pub record IsWordType (t : TypeName) : Type 0 where
  pub base : IsObjectBase t.base
  pub word : IsOperandShape (settled (written t))

-- what has a beginning: a struct, an integer, and a pointer that may be NULL
abbrev pub HasBeginning : Shape → Type 0
HasBeginning (StructShape tag) = Unit {0}
HasBeginning s = HasFirst s
