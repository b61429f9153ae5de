-- View of code: what contracts see of the shapes and names that the code has.
use Rattle.std.specs.Prelude.{Bool, List, map, reverse}
use Rattle.cyc_tree.specs.View.{base_tree, pointer_tree}
use Rattle.source_meaning.specs.Shapes.{
  Shape,
  Owner,
  Shared,
  Alone,
  IntShape,
  UnsignedShape,
  CharShape,
  VoidShape,
  Reach,
  MayBeNull,
  NeverNull,
  ThinShape,
  FatShape,
  HandleShape,
  KeyShape,
  StructShape,
  UnionShape,
  ArrayShape,
  base_shape,
  settled,
}
use Rattle.source_meaning.specs.Steps.{Entity, Variable}
use Rattle.source_meaning.specs.Memory.{Scalar}
use Rattle.source_meaning.specs.Places.{span_at}
use Rattle.source_meaning.specs.Programs.{heap_spot}
use Rattle.cyc_core.specs.Trees.{bytes_of}
use Rattle.source_lowering.specs.Lowered as lowered
use Rattle.source_lowering.specs.Programs as programs
use Rattle.lower_checks.specs.declared.shape.Shape as code_shape
use Rattle.lower_checks.specs.declared.shape.Shape.TheVariants as shape
use Rattle.lower_checks.specs.declared.shape.Reach as code_reach
use Rattle.lower_checks.specs.declared.shape.Reach.TheVariants as reach_is
use Rattle.lower_checks.specs.declared.shape.Owner as code_owner
use Rattle.lower_checks.specs.declared.shape.Owner.TheVariants as owner_is
use Rattle.lower_checks.specs.declared.shape.Written as code_written
use Rattle.lower_checks.specs.declared.shape.Written.TheVariants as written
use Rattle.lower_checks.specs.declared.shape.Pointee as code_pointee
use Rattle.lower_checks.specs.declared.shape.Pointee.TheVariants as pointee
use Rattle.lower_checks.specs.declared.shape.Plain as code_plain
use Rattle.lower_checks.specs.declared.shape.Plain.TheVariants as plain
use Rattle.lower_checks.specs.declared.stored.Stored as code_stored
use Rattle.lower_checks.specs.declared.stored.Stored.TheVariants as stored
use Rattle.lower_checks.specs.declared.leaving.RegionsAround as code_regions
use Rattle.lower_checks.specs.declared.names.Named as code_named
use Rattle.lower_checks.specs.declared.side.Side as code_side
use Rattle.lower_checks.specs.declared.side.Side.TheVariants as side
use Rattle.lower_checks.specs.declared.table.Found as code_found
use Rattle.lower_checks.specs.declared.table.Text as code_text
use Rattle.lower_checks.specs.Given.{pointed_given}
use Rattle.lower_checks.specs.Signs.{around, signs_of}

abbrev pub reach_tree : code_reach.Reach → Reach
reach_tree (reach_is.MayBeNull count) = MayBeNull count
reach_tree (reach_is.NeverNull count) = NeverNull count

abbrev pub owner_tree : code_owner.Owner → Owner
owner_tree owner_is.Shared = Shared
owner_tree owner_is.Alone = Alone

-- what a pointer leads to, as it is written
abbrev pub written_tree : code_written.Written → Shape
written_tree written.Nothing = VoidShape
written_tree (written.Pointed pointers base given) = pointed_given given.alone.now (map pointer_tree pointers.now) (base_shape (base_tree base.now))

-- the shape of what a pointer leads to
abbrev pub written_shape : code_written.Written → Shape
written_shape w = settled (written_tree w)

abbrev pub plain_tree : code_plain.Plain → Shape
plain_tree plain.Int = IntShape
plain_tree plain.Unsigned = UnsignedShape
plain_tree plain.Char = CharShape
plain_tree plain.Void = VoidShape
plain_tree (plain.Thin bound owner to) = ThinShape (reach_tree bound) (owner_tree owner) (written_shape to)
plain_tree (plain.Fat to) = FatShape (written_shape to)
plain_tree plain.Handle = HandleShape
plain_tree plain.Key = KeyShape
plain_tree (plain.Struct tag) = StructShape tag.now
plain_tree (plain.Union tag) = UnionShape tag.now

-- the shape of what a fat pointer leads to
abbrev pub pointee_shape : code_pointee.Pointee → Shape
pointee_shape (pointee.Written w) = written_shape w
pointee_shape (pointee.Made signs to) = around (signs_of signs) (plain_tree to)

abbrev pub shape_tree : code_shape.Shape → Shape
shape_tree shape.Int = IntShape
shape_tree shape.Unsigned = UnsignedShape
shape_tree shape.Char = CharShape
shape_tree shape.Void = VoidShape
shape_tree (shape.Thin bound owner to) = ThinShape (reach_tree bound) (owner_tree owner) (written_shape to)
shape_tree (shape.Address owner signs to) = ThinShape (NeverNull 1) (owner_tree owner) (around (signs_of signs) (plain_tree to))
shape_tree (shape.Fat to) = FatShape (pointee_shape to)
shape_tree shape.Handle = HandleShape
shape_tree shape.Key = KeyShape
shape_tree (shape.Struct tag) = StructShape tag.now
shape_tree (shape.Union tag) = UnionShape tag.now

-- what a name stands for: an object, or an array of so many elements
abbrev pub stored_tree : code_stored.Stored → Shape
stored_tree (stored.One s) = shape_tree s
stored_tree (stored.Array count of) = ArrayShape count (written_shape of)

abbrev pub named_tree : code_named.Named → lowered.Named
named_tree n = record { name = n.name.now; shape = stored_tree n.stored; home = lowered.InBlock n.out n.index }

-- how code reaches a side of an exchange
abbrev pub side_tree : code_side.Side → programs.Side
side_tree (side.ByName local width) = programs.ByName local.out local.index (bytes_of width)
side_tree side.ByPlace = programs.ByPlace

-- a global by what it is and its number
abbrev pub found_entity : code_found.Found → Entity
found_entity g = Variable (stored_tree g.stored) (heap_spot g.object)

-- a string: a fat pointer to the first of its bytes
abbrev pub text_value : code_text.Text → Scalar
text_value t = span_at t.count (heap_spot t.object)

-- the regions around a statement, and whether a key opened each of all, the last one last
abbrev pub regions_tree : code_regions.RegionsAround → List Bool → programs.RegionsAround
regions_tree r opened = record { all = r.all; broken = r.broken; continued = r.continued; opened = reverse opened }
