-- Believed: the bytes of a type, and of the variables and strings of a program.
use Rattle.std.specs.Prelude.{Bool, List, None, Option, Some, bytes_eq, false, if◌then◌else◌, nat_le, true, ℕ, ◌*◌, ◌||◌, [], ◌∷◌}
use Rattle.source_meaning.specs.Shapes.{Layout, Shape, VoidShape}
use Rattle.source_meaning.specs.Sizes.{extent_by, struct_extent, union_extent}
use Rattle.source_typing.specs.Tables.{Entry, OfTag, Part, Tables, Tag}
use Rattle.source_typing.specs.Types.{StaticType, same_bool, shape_of}
use Rattle.source_meaning.specs.Shapes as shapes

-- a member by its shape; one of no known type counts as nothing
abbrev pub known_shape : Option StaticType → Shape
known_shape None = VoidShape
known_shape (Some t) = shape_of t

abbrev pub part_shapes : List Part → List shapes.Part
part_shapes [] = []
part_shapes (p ∷ ps) = record { name = p.name; shape = known_shape p.type } ∷ part_shapes ps

-- one of this name is among them
abbrev pub is_named_before : List (List ℕ) → List ℕ → Bool
is_named_before [] x = false
is_named_before (y ∷ ys) x = bytes_eq y x || is_named_before ys x

-- what the names of a program mean: of several declarations of a name the first, be they of one kind or not
abbrev pub meant_first : List (List ℕ) → Tables → Tables
meant_first before [] = []
meant_first before (n ∷ ns) =
    (if is_named_before before n.name then meant_first before ns else n ∷ meant_first (n.name ∷ before) ns)

-- The structs, or the unions, of these, the latest first.
abbrev pub layouts_onto : Bool → List Layout → Tables → List Layout
layouts_onto union so_far [] = so_far
layouts_onto union so_far (n ∷ ns) = layouts_onto union (of_entry n.entry so_far) ns
  where
    of_kind : Bool → Tag → List Layout → List Layout
    of_kind true t ls = record { tag = t.text; parts = part_shapes t.parts } ∷ ls
    of_kind false t ls = ls

    of_entry : Entry → List Layout → List Layout
    of_entry (OfTag t) ls = of_kind (same_bool union t.is_union) t ls
    of_entry _ ls = ls

abbrev pub layouts_of : Bool → Tables → List Layout
layouts_of union g = layouts_onto union [] (meant_first [] g)

-- how many bytes a value of a type has
abbrev pub size_by : List Layout → List Layout → StaticType → ℕ
size_by structs unions t = (extent_by (struct_extent unions structs) (union_extent unions) (shape_of t)).size

abbrev pub size_of : Tables → StaticType → ℕ
size_of g t = size_by (layouts_of false g) (layouts_of true g) t

-- A type, an array variable and a string have at most 4,096 bytes.
abbrev pub most_bytes : ℕ
most_bytes = 4096

abbrev pub fits_bytes : ℕ → Bool
fits_bytes n = nat_le n most_bytes

-- a variable of a type, or an array of elements of it, by their number
abbrev pub variable_size : Tables → Option ℕ → StaticType → ℕ
variable_size g None t = size_of g t
variable_size g (Some n) t = n * size_of g t

-- Globals and strings together, each rounded up to 8, have at most 1,048,576 bytes.
abbrev pub most_static_bytes : ℕ
most_static_bytes = 1048576
