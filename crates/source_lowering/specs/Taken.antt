-- Believed: types and constants that lowering takes, by the forms of the tree alone.
use Rattle.std.specs.Prelude.{◌≡◌, ◌≤◌, ℕ, ◌+◌, ◌%◌, ◌^◌, List, [], length}
use Rattle.cyc_tree.specs.Tree as tree
use Rattle.cyc_tree.specs.Tree.{Base, TypeName}
use Rattle.source_meaning.specs.Shapes.{MayBeNull, Shape, IntShape, UnsignedShape, CharShape, ThinShape, FatShape}

-- ---- types

abbrev pub IsVoidBase : Base → Type 0
IsVoidBase tree.Void = Unit {0}
IsVoidBase _ = ⊥

-- void
pub record IsVoidType (t : TypeName) : Type 0 where
  pub pointers : t.pointers ≡ []
  pub base : IsVoidBase t.base

-- what has a beginning: an integer, and a pointer that may be NULL
abbrev pub HasFirst : Shape → Type 0
HasFirst IntShape = Unit {0}
HasFirst UnsignedShape = Unit {0}
HasFirst CharShape = Unit {0}
HasFirst (ThinShape (MayBeNull count) owner to) = Unit {0}
HasFirst (FatShape to) = Unit {0}
HasFirst _ = ⊥

pub record IsIntType (t : TypeName) : Type 0 where
  pub pointers : t.pointers ≡ []
  pub base : t.base ≡ tree.Int

-- ---- constants

abbrev pub IsIntegerShape : Shape → Type 0
IsIntegerShape IntShape = Unit {0}
IsIntegerShape UnsignedShape = Unit {0}
IsIntegerShape CharShape = Unit {0}
IsIntegerShape _ = ⊥

abbrev pub IsNullable : Shape → Type 0
IsNullable (ThinShape (MayBeNull count) owner to) = Unit {0}
IsNullable (FatShape to) = Unit {0}
IsNullable _ = ⊥

-- a string of these bytes has them and a final 0
abbrev pub IsString : List ℕ → Shape → Type 0
IsString bytes (ThinShape (MayBeNull count) owner CharShape) = (count % 2 ^ 32 ≤ length bytes + 1)
IsString bytes (FatShape CharShape) = Unit {0}
IsString bytes _ = ⊥

-- a number for an integer, NULL for a pointer that may be NULL, and a string for one to no more characters than it has
abbrev pub TakesConstant : Shape → tree.Constant → Type 0
TakesConstant shape (tree.Number at value suffix) = IsIntegerShape shape
TakesConstant shape (tree.Negative at value suffix) = IsIntegerShape shape
TakesConstant shape (tree.Character at byte) = IsIntegerShape shape
TakesConstant shape (tree.Text at bytes) = IsString bytes shape
TakesConstant shape (tree.Null at) = IsNullable shape
