-- Types as they are written: that of a value settles to its shape.
use Rattle.std.proofs.Common.{List, [], ◌∷◌}
use Rattle.cyc_tree.specs.declared.name.Sign.{Sign}
use Rattle.cyc_tree.specs.declared.name.Sign.TheVariants.{Nullable, NotNull, Fat}
use Rattle.cyc_tree.specs.Tree as tree
use Rattle.cyc_tree.specs.Tree.{RegionName, Base, TypeName, Pointer}
use Rattle.source_meaning.specs.Shapes.{Owner, Shape, IntShape, UnsignedShape, CharShape, VoidShape, ThinShape, FatShape, HandleShape, KeyShape, StructShape}
use Rattle.source_meaning.specs.Shapes.{UnionShape, ArrayShape, Layout, owner_of, base_shape, signed_shape, pointed, written, settled, settled_by}
use Rattle.source_lowering.specs.Lowerable.{IsTarget, IsValueShape, IsObject, IsOperandShape, IsObjectBase, IsKnownIn, IsObjectType, IsWordType}
use Rattle.source_lowering.proofs.values.Integers.{object_value}

-- what pointers lead to, as it is written
abbrev IsOpen : Shape → Type 0
IsOpen IntShape = Unit {0}
IsOpen UnsignedShape = Unit {0}
IsOpen CharShape = Unit {0}
IsOpen (ThinShape may_be_null owner to) = IsOpen to
IsOpen (FatShape to) = IsOpen to
IsOpen HandleShape = Unit {0}
IsOpen KeyShape = Unit {0}
IsOpen (StructShape tag) = Unit {0}
IsOpen (UnionShape tag) = Unit {0}
IsOpen _ = ⊥

signed_open : (s : Sign) (o : Owner) (to : Shape) → IsOpen to → IsOpen (signed_shape s o to)
signed_open (Nullable count) o to h = h
signed_open (NotNull count) o to h = h
signed_open Fat o to h = h

pointed_open : (ps : List Pointer) (s : Shape) → IsOpen s → IsOpen (pointed ps s)
pointed_open [] s h = h
pointed_open (p ∷ ps) s h = pointed_open ps (signed_shape p.sign (owner_of p.region) s) (signed_open p.sign (owner_of p.region) s h)

base_open : (b : Base) → IsObjectBase b → IsOpen (base_shape b)
base_open tree.Int h = tt
base_open tree.Unsigned h = tt
base_open tree.Char h = tt
base_open tree.Void h = absurd h
base_open (tree.Struct tag arguments) h = tt
base_open (tree.Union tag arguments) h = tt
base_open (tree.Handle region) h = tt
base_open (tree.Key region) h = tt

settled_target : (s : Shape) → IsOpen s → IsTarget (settled s)
settled_target IntShape h = tt
settled_target UnsignedShape h = tt
settled_target CharShape h = tt
settled_target (ThinShape may_be_null owner to) h = settled_target to h
settled_target VoidShape h = absurd h
settled_target (FatShape to) h = settled_target to h
settled_target HandleShape h = tt
settled_target KeyShape h = tt
settled_target (StructShape tag) h = tt
settled_target (UnionShape tag) h = tt
settled_target (ArrayShape count of) h = absurd h

settled_object : (unions structs : List Layout) (s : Shape) → IsOpen s → IsKnownIn unions structs (settled s) → IsObject unions structs (settled s)
settled_object unions structs (StructShape tag) h g = g
settled_object unions structs (ThinShape may_be_null owner to) h g = settled_target to h
settled_object unions structs IntShape h g = tt
settled_object unions structs UnsignedShape h g = tt
settled_object unions structs CharShape h g = tt
settled_object unions structs VoidShape h g = absurd h
settled_object unions structs (FatShape to) h g = settled_target to h
settled_object unions structs HandleShape h g = tt
settled_object unions structs KeyShape h g = tt
settled_object unions structs (UnionShape tag) h g = g
settled_object unions structs (ArrayShape count of) h g = absurd h

by_target : (s from : Shape) → IsOpen s → IsTarget (settled_by s from)
by_target IntShape from h = tt
by_target UnsignedShape from h = tt
by_target CharShape from h = tt
by_target (ThinShape m o to) (ThinShape n q from) h = by_target to from h
by_target (ThinShape m o to) (FatShape from) h = by_target to from h
by_target (ThinShape m o to) _ h = settled_target to h
by_target VoidShape from h = absurd h
by_target (FatShape to) (ThinShape n q from) h = by_target to from h
by_target (FatShape to) (FatShape from) h = by_target to from h
by_target (FatShape to) _ h = settled_target to h
by_target HandleShape from h = tt
by_target KeyShape from h = tt
by_target (StructShape tag) from h = tt
by_target (UnionShape tag) from h = tt
by_target (ArrayShape count of) from h = absurd h

by_object : (unions structs : List Layout) (s from : Shape) → IsOpen s → IsKnownIn unions structs (settled s) → IsObject unions structs (settled_by s from)
by_object unions structs IntShape from h g = tt
by_object unions structs UnsignedShape from h g = tt
by_object unions structs CharShape from h g = tt
by_object unions structs (ThinShape m o to) (ThinShape n q from) h g = by_target to from h
by_object unions structs (ThinShape m o to) (FatShape from) h g = by_target to from h
by_object unions structs (ThinShape m o to) _ h g = settled_target to h
by_object unions structs VoidShape from h g = absurd h
by_object unions structs (FatShape to) (ThinShape n q from) h g = by_target to from h
by_object unions structs (FatShape to) (FatShape from) h g = by_target to from h
by_object unions structs (FatShape to) _ h g = settled_target to h
by_object unions structs HandleShape from h g = tt
by_object unions structs KeyShape from h g = tt
by_object unions structs (StructShape tag) from h g = g
by_object unions structs (UnionShape tag) from h g = g
by_object unions structs (ArrayShape count of) from h g = absurd h

written_open : (t : TypeName) → IsObjectBase t.base → IsOpen (written t)
written_open t base = pointed_open t.pointers (base_shape t.base) (base_open t.base base)

-- a type settles to the shape of an object
pub object_settled : (unions structs : List Layout) (t : TypeName) → IsObjectType unions structs t → IsObject unions structs (settled (written t))
object_settled unions structs t h = settled_object unions structs (written t) (written_open t h.base) h.known

-- so it does where an initializer has what it leaves out
pub object_by : (unions structs : List Layout) (t : TypeName) → IsObjectType unions structs t → (from : Shape)
    → IsObject unions structs (settled_by (written t) from)
object_by unions structs t h from = by_object unions structs (written t) from (written_open t h.base) h.known

-- or of a value
pub value_settled : (t : TypeName) → IsWordType t → IsValueShape (settled (written t))
value_settled t h =
    object_value [] [] (settled (written t)) (settled_object [] [] (written t) (written_open t h.base) (known (settled (written t)) h.word)) h.word
  where
    known : (s : Shape) → IsOperandShape s → IsKnownIn [] [] s
    known (StructShape tag) g = absurd g
    known (UnionShape tag) g = absurd g
    known _ g = tt
