-- View of code: types as they are read: the pointers on a base, by what was found of their regions.
use Rattle.std.specs.Prelude.{Bool, List, None, Option, Some, false, map, true, ℕ, ◌&&◌, ◌||◌, ◌++◌, [], ◌∷◌}
use Rattle.cyc_tree.specs.View.{pointer_tree}
use Rattle.cyc_tree.specs.declared.name.Pointer.{Pointer}
use Rattle.cyc_tree.specs.declared.name.Sign.{Sign}
use Rattle.source_typing.specs.Faults as rules
use Rattle.source_typing.specs.Functions.{fits_parameter}
use Rattle.source_typing.specs.Regions.{Region}
use Rattle.source_meaning.specs.Shapes.{MayBeNull, NeverNull}
use Rattle.source_typing.specs.Types.{Char, Fat, Int, PartialType, StaticType, Thin, TypeIn, Unique, Unsigned, Void, is_void}
use Rattle.source_typing.specs.Verdicts.{Verdict, if_fits}
use Rattle.source_typing.specs.Written.{Found, Is, IsUnique, Missing, Spot, as_region, spot, thin_to}
use Rattle.check_faults.specs.Faults.{fault_of}
use Rattle.check_faults.specs.declared.fault.Fault.{Fault}
use Rattle.check_types.specs.Written.{partial_under}
use Rattle.check_types.specs.declared.layer.WrittenLayer.{WrittenLayer}
use Rattle.cyc_tree.specs.Tree as tree
use Rattle.cyc_tree.specs.declared.name.Sign.TheVariants as sign
use Rattle.source_typing.specs.Types as type

-- ---- bases

-- the type of an integer's base, or of `void`
abbrev pub plain_of : tree.Base → Option PartialType
plain_of tree.Int = Some Int
plain_of tree.Unsigned = Some Unsigned
plain_of tree.Char = Some Char
plain_of tree.Void = Some Void
plain_of (tree.Struct tag rs) = None
plain_of (tree.Union tag rs) = None
plain_of (tree.Handle r) = None
plain_of (tree.Key r) = None

-- ---- pointers

abbrev pub pointer_trees : List Pointer → List tree.Pointer
pointer_trees ps = map pointer_tree ps

-- the places of regions in them
abbrev pub pointer_spots : List Pointer → List Spot
pointer_spots ps = map (λ p. spot true p.region) (pointer_trees ps)

abbrev pub is_unique_name : Option tree.RegionName → Bool
is_unique_name (Some (tree.Unique at)) = true
is_unique_name r = false

-- what was found of a region that isn't the unique one
abbrev pub found_of : Option Region → Found
found_of None = Missing
found_of (Some r) = Is r

-- A pointer of this sign. None: a fat pointer that would be unique, or a thin one with a number of elements that none can have.
abbrev pub made : Sign → Found → PartialType → Option PartialType
made sign.Fat IsUnique t = None
made sign.Fat f t = Some (Fat (as_region f) t)
made (sign.Nullable count) f t = thin_to (MayBeNull count) f t
made (sign.NotNull count) f t = thin_to (NeverNull count) f t

-- what a pointer may lead to
abbrev pub can_lead : PartialType → Bool
can_lead Void = false
can_lead (type.Key r) = false
can_lead t = true

-- Pointers on a type. None: the type is one that no pointer leads to.
abbrev pub led : Bool → PartialType → List WrittenLayer → Option PartialType
led leads t [] = Some t
led true t (l ∷ ls) = Some (partial_under t (l ∷ ls))
led false t (l ∷ ls) = None

-- Pointers on a type. None in their place: one of them can't be.
abbrev pub led_by : Option (List WrittenLayer) → PartialType → Option PartialType
led_by None t = None
led_by (Some ls) t = led (can_lead t) t ls

-- one pointer more
abbrev pub and_layer : Option (List WrittenLayer) → Option WrittenLayer → Option (List WrittenLayer)
and_layer None l = None
and_layer (Some ls) None = None
and_layer (Some ls) (Some l) = Some (ls ++ l ∷ [])

-- ---- faults

-- as a list
abbrev pub listed : Option Fault → List rules.Fault
listed None = []
listed (Some f) = fault_of f ∷ []

-- ---- parameters and results

-- what a result may be where `void` is taken, and else what a parameter may be
abbrev pub if_scalar : Bool → ℕ → StaticType → Verdict StaticType
if_scalar takes_void at t = if_fits ((takes_void && is_void t) || fits_parameter t) at t
