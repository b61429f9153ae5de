-- View of code: which scalar a value of a type is, by the one cell that the rules give it.
use Rattle.std.specs.Prelude.{Bool, List, None, Option, Some, ℕ, [], ◌∷◌}
use Rattle.source_meaning.specs.Placing.{Placed, placed_by}
use Rattle.source_meaning.specs.Shapes.{Alone, ArrayShape, CharShape, FatShape, HandleShape, IntShape, KeyShape, Owner, Shape, Shared, StructShape, ThinShape}
use Rattle.source_meaning.specs.Shapes.{UnionShape, Unsaid, UnsignedShape, VoidShape, may_be_null}
use Rattle.source_typing.specs.Types.{StaticType, shape_of}
use Rattle.cyc_types.specs.Reaches.{reach_of}
use Rattle.cyc_types.specs.declared.layer.Layer.{Layer}
use Rattle.cyc_types.specs.declared.layer.Layer.TheVariants as pointer
use Rattle.cyc_types.specs.declared.scalar.Scalar.{Scalar}
use Rattle.cyc_types.specs.declared.scalar.Scalar.TheVariants as code

-- a scalar by its shape, without what a pointer leads to
pub data Kind : Type 0 where
  IntKind : Kind
  UnsignedKind : Kind
  CharKind : Kind
  ThinKind : (may_be_null : Bool) → Kind
  UniqueKind : (may_be_null : Bool) → Kind
  FatKind : Kind
  HandleKind : Kind
  KeyKind : Kind
  UnionKind : (tag : List ℕ) → Kind
  deriving IsSet as Kind-set

abbrev pub thin_kind : Bool → Owner → Kind
thin_kind n Alone = UniqueKind n
thin_kind n Shared = ThinKind n
thin_kind n Unsaid = ThinKind n

-- None: no scalar
abbrev pub kind_in : Shape → Option Kind
kind_in IntShape = Some IntKind
kind_in UnsignedShape = Some UnsignedKind
kind_in CharShape = Some CharKind
kind_in (ThinShape n owner to) = Some (thin_kind (may_be_null n) owner)
kind_in (FatShape to) = Some FatKind
kind_in HandleShape = Some HandleKind
kind_in KeyShape = Some KeyKind
kind_in (UnionShape tag) = Some (UnionKind tag)
kind_in VoidShape = None
kind_in (StructShape tag) = None
kind_in (ArrayShape count of) = None

-- the first of some cells
abbrev pub first_kind : List Placed → Option Kind
first_kind [] = None
first_kind (p ∷ ps) = kind_in p.shape

-- a struct's cells aren't counted here
abbrev pub no_cells : List ℕ → List Placed
no_cells tag = []

abbrev pub only_kind : StaticType → Option Kind
only_kind t = first_kind (placed_by no_cells (shape_of t))

-- ---- in code

abbrev pub kind_of : Scalar → Kind
kind_of code.Int = IntKind
kind_of code.Unsigned = UnsignedKind
kind_of code.Char = CharKind
kind_of (code.Thin n) = ThinKind n
kind_of (code.Unique n) = UniqueKind n
kind_of code.Fat = FatKind
kind_of code.Handle = HandleKind
kind_of code.Key = KeyKind
kind_of (code.Union tag) = UnionKind tag.now

abbrev pub layer_kind : Layer → Kind
layer_kind (pointer.Thin n r) = ThinKind (may_be_null (reach_of n))
layer_kind (pointer.Fat r) = FatKind
layer_kind (pointer.Unique n) = UniqueKind n
