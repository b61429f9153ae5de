-- Shapes of the values of a program: each struct and union in them, behind pointers too, is one of the program's.
use Rattle.std.proofs.Common.{◌≡◌, true, refl}
use Rattle.source_lowering.specs.Lowerable.{IsOperandShape, IsObject, IsTarget}
use Rattle.source_meaning.specs.Shapes.{
  ArrayShape,
  CharShape,
  FatShape,
  HandleShape,
  IntShape,
  KeyShape,
  Shape,
  StructShape,
  ThinShape,
  UnionShape,
  UnsignedShape,
  VoidShape,
  has_tag,
}
use Rattle.source_meaning.specs.Steps.{World}
use Rattle.source_typing.specs.Converts.{Converts, Integers, IsInteger, NullToThin, Same, Thins}
use Rattle.source_typing.specs.Regions.{Regions}
use Rattle.source_typing.specs.Types.{
  Char,
  Fat,
  Handle,
  Int,
  Key,
  Null,
  StaticType,
  Struct,
  Thin,
  Union,
  Unique,
  Unsigned,
  Void,
  is_testable,
  shape_of,
}

-- ---- shapes

-- an integer, a struct or a union of the program, a handle, a key, or a pointer to these
abbrev pub IsKnown : World → Shape → Type 0
IsKnown w IntShape = Unit {0}
IsKnown w UnsignedShape = Unit {0}
IsKnown w CharShape = Unit {0}
IsKnown w VoidShape = ⊥
IsKnown w (ThinShape may_be_null owner to) = IsKnown w to
IsKnown w (FatShape to) = IsKnown w to
IsKnown w HandleShape = Unit {0}
IsKnown w KeyShape = Unit {0}
IsKnown w (StructShape tag) = (has_tag w.structs tag ≡ true)
IsKnown w (UnionShape tag) = (has_tag w.unions tag ≡ true)
IsKnown w (ArrayShape count of) = ⊥

pub known_target : (w : World) (s : Shape) → IsKnown w s → IsTarget s
known_target w IntShape h = tt
known_target w UnsignedShape h = tt
known_target w CharShape h = tt
known_target w (ThinShape may_be_null owner to) h = known_target w to h
known_target w (FatShape to) h = known_target w to h
known_target w HandleShape h = tt
known_target w KeyShape h = tt
known_target w (StructShape tag) h = tt
known_target w (UnionShape tag) h = tt
known_target w _ h = absurd h

pub known_object : (w : World) (s : Shape) → IsKnown w s → IsObject w.unions w.structs s
known_object w IntShape h = tt
known_object w UnsignedShape h = tt
known_object w CharShape h = tt
known_object w (ThinShape may_be_null owner to) h = known_target w to h
known_object w (FatShape to) h = known_target w to h
known_object w HandleShape h = tt
known_object w KeyShape h = tt
known_object w (StructShape tag) h = h
known_object w (UnionShape tag) h = h
known_object w _ h = absurd h

-- ---- types

-- what an expression gives: such a value, `NULL`, or nothing
abbrev pub IsKnownValue : World → StaticType → Type 0
IsKnownValue w Void = Unit {0}
IsKnownValue w Null = Unit {0}
IsKnownValue w t = IsKnown w (shape_of t)

pub known_value : (w : World) (t : StaticType) → IsKnown w (shape_of t) → IsKnownValue w t
known_value w Void h = absurd h
known_value w Null h = tt
known_value w Int h = h
known_value w Unsigned h = h
known_value w Char h = h
known_value w (Thin n r t) h = h
known_value w (Fat r t) h = h
known_value w (Unique n t) h = h
known_value w (Handle r) h = h
known_value w (Key r) h = h
known_value w (Struct tag rs) h = h
known_value w (Union tag rs) h = h

-- a type that is no struct and no union, and isn't nothing
abbrev pub IsWord : StaticType → Type 0
IsWord Void = ⊥
IsWord (Struct tag rs) = ⊥
IsWord (Union tag rs) = ⊥
IsWord t = Unit {0}

-- a word's shape is no struct's and no union's
pub word_shape : (t : StaticType) → IsWord t → IsOperandShape (shape_of t)
word_shape Void h = absurd h
word_shape (Struct tag rs) h = absurd h
word_shape Null h = tt
word_shape Int h = tt
word_shape Unsigned h = tt
word_shape Char h = tt
word_shape (Thin n r t) h = tt
word_shape (Fat r t) h = tt
word_shape (Unique n t) h = tt
word_shape (Handle r) h = tt
word_shape (Key r) h = tt
word_shape (Union tag rs) h = absurd h

pub testable_word : (t : StaticType) → is_testable t ≡ true → IsWord t
testable_word Void e = absurd cc
testable_word (Struct tag rs) e = absurd cc
testable_word Null e = tt
testable_word Int e = tt
testable_word Unsigned e = tt
testable_word Char e = tt
testable_word (Thin n r t) e = tt
testable_word (Fat r t) e = tt
testable_word (Unique n t) e = tt
testable_word (Handle r) e = tt
testable_word (Key r) e = tt
testable_word (Union tag rs) e = absurd cc

pub integer_word : (t : StaticType) → IsInteger t → IsWord t
integer_word Void e = absurd cc
integer_word (Struct tag rs) e = absurd cc
integer_word Null e = tt
integer_word Int e = tt
integer_word Unsigned e = tt
integer_word Char e = tt
integer_word (Thin n r t) e = tt
integer_word (Fat r t) e = tt
integer_word (Unique n t) e = tt
integer_word (Handle r) e = tt
integer_word (Key r) e = tt
integer_word (Union tag rs) e = absurd cc

-- what converts to a word is one
pub converts_word : (g : Regions) (t u : StaticType) → Converts g t u → IsWord u → IsWord t
converts_word g t u Same h = h
converts_word g t u (Integers a b) h = integer_word t a
converts_word g t u NullToThin h = tt
converts_word g t u Rattle.source_typing.specs.Converts.NullToFat h = tt
converts_word g t u Rattle.source_typing.specs.Converts.NullToUnique h = tt
converts_word g t u (Thins few e) h = tt
converts_word g t u (Rattle.source_typing.specs.Converts.Fats e) h = tt
converts_word g t u (Rattle.source_typing.specs.Converts.ThinToFat e) h = tt
converts_word g t u (Rattle.source_typing.specs.Converts.FatToThin e) h = tt
converts_word g t u Rattle.source_typing.specs.Converts.Uniques h = tt

-- and what converts to a struct or a union is that struct or union
abbrev pub IsWhole : StaticType → Type 0
IsWhole (Struct tag rs) = Unit {0}
IsWhole (Union tag rs) = Unit {0}
IsWhole _ = ⊥

pub converts_whole : (g : Regions) (t u : StaticType) → Converts g t u → IsWhole u → t ≡ u
converts_whole g t u Same h = refl
converts_whole g t (Struct tag rs) (Integers a b) h = absurd cc
converts_whole g t (Union tag rs) (Integers a b) h = absurd cc
converts_whole g t u (Integers a b) h = absurd (no u b h)
  where
    no : (u : StaticType) → IsInteger u → IsWhole u → ⊥
    no (Struct tag rs) e h = cc
    no (Union tag rs) e h = cc
    no _ e h = h
converts_whole g t u NullToThin h = absurd h
converts_whole g t u Rattle.source_typing.specs.Converts.NullToFat h = absurd h
converts_whole g t u Rattle.source_typing.specs.Converts.NullToUnique h = absurd h
converts_whole g t u (Thins few e) h = absurd h
converts_whole g t u (Rattle.source_typing.specs.Converts.Fats e) h = absurd h
converts_whole g t u (Rattle.source_typing.specs.Converts.ThinToFat e) h = absurd h
converts_whole g t u (Rattle.source_typing.specs.Converts.FatToThin e) h = absurd h
converts_whole g t u Rattle.source_typing.specs.Converts.Uniques h = absurd h
