-- View of code: regions that a type leaves out and an initializer says: which pointers of a type as it is written are unique by that.
use Rattle.std.specs.Prelude.{ℕ, Bool, true, false, Option, Some, None, List, [], ◌∷◌, get_or, length, reverse}
use Rattle.cyc_tree.specs.declared.name.Sign.{Sign}
use Rattle.cyc_tree.specs.declared.name.Sign.TheVariants.{Nullable, NotNull, Fat}
use Rattle.cyc_tree.specs.Tree.{Pointer, RegionName}
use Rattle.source_meaning.specs.Shapes.{Owner, Shared, Alone, Unsaid, Shape, ThinShape, owner_of, pointee, signed_shape}

-- whether a pointer is unique that has so many others around it, of pointers from the outermost one inwards; none is behind the list's end
abbrev pub has_digit : List Bool → ℕ → Bool
has_digit given around = get_or given around false

-- an owner, where a type leaves it open that of the initializer
abbrev pub owner_given : Bool → Owner → Owner
owner_given given Shared = Shared
owner_given given Alone = Alone
owner_given true Unsaid = Alone
owner_given false Unsaid = Unsaid

-- pointers, from the base outwards; of those that are left open each is unique that the list says, whose first is the outermost one's
abbrev pub pointed_given : List Bool → List Pointer → Shape → Shape
pointed_given given [] s = s
pointed_given given (p ∷ ps) s = pointed_given given ps (signed_shape p.sign (owner_given (has_digit given (length ps)) (owner_of p.region)) s)

-- whether a shape is a unique pointer's
abbrev pub is_unique : Shape → Bool
is_unique (ThinShape bound Alone to) = true
is_unique s = false

-- a pointer that is left open is unique by a unique one
abbrev pub given_to : Sign → Option RegionName → Shape → Bool
given_to sign (Some region) by = false
given_to (Nullable count) None by = is_unique by
given_to (NotNull count) None by = is_unique by
given_to Fat None by = false

abbrev pub is_given : Pointer → Shape → Bool
is_given p by = given_to p.sign p.region by

-- which are unique by a shape, of pointers from the outside inwards
abbrev pub given_inwards : List Pointer → Shape → List Bool
given_inwards [] by = []
given_inwards (p ∷ ps) by = is_given p by ∷ given_inwards ps (pointee by)

-- of pointers from the base outwards
abbrev pub given_by : List Pointer → Shape → List Bool
given_by ps by = given_inwards (reverse ps) by
