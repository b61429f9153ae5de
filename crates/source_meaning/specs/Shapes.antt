-- Believed: what a type means at run time: a shape. A shape is a type without its region names, except that it says which pointers are unique.
use Rattle.std.specs.Prelude.{ℕ, ◌%◌, ◌^◌, ◌+◌, Bool, true, false, ◌&&◌, nat_eq, Option, Some, None, List, [], ◌∷◌, bytes_eq, if◌then◌else◌, option_map}
use Rattle.cyc_tree.specs.declared.name.Sign.{Sign}
use Rattle.cyc_tree.specs.declared.name.Sign.TheVariants.{Nullable, NotNull, Fat}
use Rattle.cyc_tree.specs.Tree as tree
use Rattle.cyc_tree.specs.Tree.{RegionName, Base, Pointer, TypeName, Member, Structure}

-- whether a pointer is unique; a type as it is written may leave it open
pub data Owner : Type 0 where
  Shared : Owner
  Alone : Owner
  Unsaid : Owner

-- To how many elements a thin pointer leads, from where it points on, and whether it may be NULL.
pub data Reach : Type 0 where
  MayBeNull : (count : ℕ) → Reach
  NeverNull : (count : ℕ) → Reach

abbrev pub may_be_null : Reach → Bool
may_be_null (MayBeNull count) = true
may_be_null (NeverNull count) = false

-- its number as it is written, and as a word
abbrev pub number_of : Reach → ℕ
number_of (MayBeNull count) = count
number_of (NeverNull count) = count

abbrev pub count_of : Reach → ℕ
count_of (MayBeNull count) = count % 2 ^ 32
count_of (NeverNull count) = count % 2 ^ 32

-- one object, which a pointer leads to that has no other bound
abbrev pub single : Bool → Reach
single true = MayBeNull 1
single false = NeverNull 1

-- Structs and unions go by the spelling of their tags. An array is the shape of an array variable alone.
pub data Shape : Type 0 where
  IntShape : Shape
  UnsignedShape : Shape
  CharShape : Shape
  VoidShape : Shape
  -- a pointer to the number of elements in its bound, which may be NULL or never is
  ThinShape : (bound : Reach) (owner : Owner) (to : Shape) → Shape
  -- a pointer that carries bounds; it is never unique
  FatShape : (to : Shape) → Shape
  HandleShape : Shape
  KeyShape : Shape
  StructShape : (tag : List ℕ) → Shape
  UnionShape : (tag : List ℕ) → Shape
  ArrayShape : (count : ℕ) (of : Shape) → Shape

-- a pointer is unique where its region is the unique one
abbrev pub owner_of : Option RegionName → Owner
owner_of None = Unsaid
owner_of (Some (tree.Heap at)) = Shared
owner_of (Some (tree.Unique at)) = Alone
owner_of (Some (tree.Named name)) = Shared

-- what a type begins with
abbrev pub base_shape : Base → Shape
base_shape tree.Int = IntShape
base_shape tree.Unsigned = UnsignedShape
base_shape tree.Char = CharShape
base_shape tree.Void = VoidShape
base_shape (tree.Struct tag arguments) = StructShape tag.text
base_shape (tree.Union tag arguments) = UnionShape tag.text
base_shape (tree.Handle region) = HandleShape
base_shape (tree.Key region) = KeyShape

-- a pointer of a sign, with an owner
abbrev pub signed_shape : Sign → Owner → Shape → Shape
signed_shape (Nullable count) owner to = ThinShape (MayBeNull count) owner to
signed_shape (NotNull count) owner to = ThinShape (NeverNull count) owner to
signed_shape Fat owner to = FatShape to

-- the pointers stand from the base outwards
abbrev pub pointed : List Pointer → Shape → Shape
pointed [] s = s
pointed (p ∷ ps) s = pointed ps (signed_shape p.sign (owner_of p.region) s)

-- a type as it is written
abbrev pub written : TypeName → Shape
written t = pointed t.pointers (base_shape t.base)

-- an owner, where nothing else says which: not unique
abbrev pub shared_owner : Owner → Owner
shared_owner Unsaid = Shared
shared_owner Shared = Shared
shared_owner Alone = Alone

-- a missing region is the heap, or in a parameter's type a region variable, which never stands for the unique region
abbrev pub settled : Shape → Shape
settled (ThinShape bound owner to) = ThinShape bound (shared_owner owner) (settled to)
settled (FatShape to) = FatShape (settled to)
settled (ArrayShape count of) = ArrayShape count (settled of)
settled s = s

-- an owner, or where it is left open the other one
abbrev pub first_owner : Owner → Owner → Owner
first_owner Unsaid owner = shared_owner owner
first_owner Shared owner = Shared
first_owner Alone owner = Alone

-- in a local's type a missing region is the one at the same place of its initializer's type
abbrev pub settled_by : Shape → Shape → Shape
settled_by (ThinShape bound owner to) (ThinShape n other from) = ThinShape bound (first_owner owner other) (settled_by to from)
settled_by (ThinShape bound owner to) (FatShape from) = ThinShape bound (shared_owner owner) (settled_by to from)
settled_by (FatShape to) (FatShape from) = FatShape (settled_by to from)
settled_by (FatShape to) (ThinShape n other from) = FatShape (settled_by to from)
settled_by s from = settled s

-- a named part: a member of a struct or union, or a parameter
pub record Part : Type 0 where
  pub name : List ℕ
  pub shape : Shape

-- a member or parameter by its name and shape
abbrev pub part_of : Member → Part
part_of m = record { name = m.name.text; shape = settled (written m.of) }

-- a struct or union: its tag and members
pub record Layout : Type 0 where
  pub tag : List ℕ
  pub parts : List Part

-- the members of the struct or union with a tag
abbrev pub parts_of : List Layout → List ℕ → List Part
parts_of [] tag = []
parts_of (l ∷ ls) tag = (if bytes_eq l.tag tag then l.parts else parts_of ls tag)

-- whether one of them has the tag
abbrev pub has_tag : List Layout → List ℕ → Bool
has_tag [] tag = false
has_tag (l ∷ ls) tag = (if bytes_eq l.tag tag then true else has_tag ls tag)

-- the position of a part among the parts, from 0 on
abbrev pub part_position : List Part → List ℕ → Option ℕ
part_position [] name = None
part_position (p ∷ ps) name = (if bytes_eq p.name name then Some 0 else option_map (λ k. k + 1) (part_position ps name))

-- the shape of the part with a name
abbrev pub part_shape : List Part → List ℕ → Shape
part_shape [] name = VoidShape
part_shape (p ∷ ps) name = (if bytes_eq p.name name then p.shape else part_shape ps name)

-- the shapes of the parts, in order
abbrev pub part_shapes : List Part → List Shape
part_shapes [] = []
part_shapes (p ∷ ps) = p.shape ∷ part_shapes ps

-- what a pointer of this shape points to
abbrev pub pointee : Shape → Shape
pointee (ThinShape bound owner to) = to
pointee (FatShape to) = to
pointee s = VoidShape

-- to how many elements a thin pointer of this shape leads
abbrev pub bound_in : Shape → ℕ
bound_in (ThinShape bound owner to) = count_of bound
bound_in s = 0

-- ---- equal shapes

abbrev pub same_owner : Owner → Owner → Bool
same_owner Shared Shared = true
same_owner Alone Alone = true
same_owner Unsaid Unsaid = true
same_owner a b = false

abbrev pub same_bound : Reach → Reach → Bool
same_bound (MayBeNull j) (MayBeNull k) = nat_eq j k
same_bound (NeverNull j) (NeverNull k) = nat_eq j k
same_bound a b = false

-- shapes are the same whole: what pointers lead to, and which union it is
abbrev pub same_shape : Shape → Shape → Bool
same_shape IntShape IntShape = true
same_shape UnsignedShape UnsignedShape = true
same_shape CharShape CharShape = true
same_shape VoidShape VoidShape = true
same_shape (ThinShape m o s) (ThinShape n q t) = same_bound m n && (same_owner o q && same_shape s t)
same_shape (FatShape s) (FatShape t) = same_shape s t
same_shape HandleShape HandleShape = true
same_shape KeyShape KeyShape = true
same_shape (StructShape a) (StructShape b) = bytes_eq a b
same_shape (UnionShape a) (UnionShape b) = bytes_eq a b
same_shape (ArrayShape j s) (ArrayShape k t) = nat_eq j k && same_shape s t
same_shape s t = false

-- whether a pointer of a shape may go where the owner is this: nothing becomes unique
abbrev pub goes_to : Owner → Shape → Bool
goes_to Alone (ThinShape bound Alone to) = true
goes_to Alone s = false
goes_to Shared s = true
goes_to Unsaid s = true
