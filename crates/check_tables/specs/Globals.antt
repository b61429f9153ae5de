-- View of code: globals.
use Rattle.std.specs.Prelude.{Bool, List, None, Option, Some, false, map, nat_le, true, ℕ, ◌≡◌, ◌*◌, ◌++◌, [], ◌∷◌}
use Rattle.cyc_tree.specs.Tree.{Initial, TypeName}
use Rattle.source_typing.specs.Faults.{Fault}
use Rattle.source_typing.specs.Globals.{count_of, foreign_names, has_none, initial_faults}
use Rattle.source_typing.specs.Declarations.{what_after, what_of}
use Rattle.source_typing.specs.Regions.{Region, TheHeap}
use Rattle.source_typing.specs.Scope.{Env}
use Rattle.source_meaning.specs.Sizes.{rounded_up}
use Rattle.source_typing.specs.Extents.{fits_bytes, variable_size}
use Rattle.source_typing.specs.Tables.{Entry, OfValue, Tables}
use Rattle.source_meaning.specs.Shapes.{count_of as elements_of}
use Rattle.source_typing.specs.Types.{StaticType, Thin}
use Rattle.source_typing.specs.Verdicts.{Of, Verdict, faults_of}
use Rattle.source_typing.specs.Written.{Spot, find_region, spot}
use Rattle.cyc_types.specs.Reaches.{reach_of}
use Rattle.cyc_types.specs.declared.ctype.CType.{CType}
use Rattle.cyc_types.specs.declared.layer.Layer.{Layer}
use Rattle.cyc_types.specs.declared.layer.Layer.TheVariants as pointer
use Rattle.cyc_types.specs.declared.region.RegionId.TheVariants.{Heap}
use Rattle.check_scopes.specs.declared.meaning.Meaning.{Meaning}
use Rattle.check_scopes.specs.declared.meaning.Meaning.TheVariants.{Array, NotKnown, Untyped, Variable}
use Rattle.check_types.specs.Arguments.{named_spots}
use Rattle.cyc_tree.specs.Tree as tree
use Rattle.check_faults.specs.declared.fault.Fault as found

-- ---- types

-- the places of regions in pointers
abbrev pub spots_in : List tree.Pointer → List Spot
spots_in ps = map (λ p. spot true p.region) ps

-- the regions that a base writes: the arguments of a struct or union, and the region of a handle or key
abbrev pub base_regions : tree.Base → List tree.RegionName
base_regions (tree.Struct tag rs) = rs
base_regions (tree.Union tag rs) = rs
base_regions (tree.Handle r) = r ∷ []
base_regions (tree.Key r) = r ∷ []
base_regions b = []

-- the places of regions that may be written in a type, those of its base before its pointers
abbrev pub type_spots : TypeName → List Spot
type_spots t = named_spots (base_regions t.base) ++ spots_in t.pointers

-- whether none of the regions at some places is a name
abbrev pub names_none : List Spot → Bool
names_none ss = has_none (foreign_names ss)

abbrev pub is_unnamed : Option tree.RegionName → Bool
is_unnamed None = true
is_unnamed (Some (tree.Heap at)) = true
is_unnamed (Some (tree.Unique at)) = true
is_unnamed (Some (tree.Named n)) = false

-- the name of a region, where it is neither the heap nor the unique one
abbrev pub named_region : Option tree.RegionName → Option tree.Name
named_region None = None
named_region (Some (tree.Heap at)) = None
named_region (Some (tree.Unique at)) = None
named_region (Some (tree.Named n)) = Some n

-- the first of two regions
abbrev pub or_region : Option Region → Option Region → Option Region
or_region None o = o
or_region (Some r) o = Some r

-- the region of a name among those at some places
abbrev pub foreign_in : List Spot → List ℕ → Option Region
foreign_in ss x = find_region (foreign_names ss) x

-- ---- by what the type is

-- what a global's name means, by its fault: a variable, or an array with a number of elements
abbrev pub meaning_by : Option found.Fault → Option ℕ → CType → Meaning
meaning_by None None t = Variable t Heap
meaning_by None (Some n) t = Array t Heap
meaning_by (Some f) count t = NotKnown

-- the same of one whose type isn't checked
abbrev pub untyped_by : Option found.Fault → Meaning
untyped_by None = Untyped
untyped_by (Some f) = NotKnown

-- whether `n` elements are at least as many as a pointer leads to, if it is a thin one
abbrev pub are_enough : ℕ → Option Layer → Bool
are_enough n (Some (pointer.Thin bound r)) = nat_le (elements_of (reach_of bound)) n
are_enough n (Some (pointer.Fat r)) = true
are_enough n (Some (pointer.Unique b)) = true
are_enough n None = true

abbrev pub enough_for : ℕ → Verdict StaticType → Bool
enough_for n (Of (Thin bound r t)) = nat_le (elements_of bound) n
enough_for n v = true

abbrev pub faults_by : Env → Initial → Verdict StaticType → List Fault
faults_by g i v = faults_of v ++ initial_faults g i v

abbrev pub entry_by : Env → Initial → Verdict StaticType → Entry
entry_by g i v = OfValue (what_after (faults_by g i v) (what_of TheHeap (count_of i) v))

-- the bytes of one element, or of an array with a number of them
abbrev pub bytes_of : Option ℕ → ℕ → ℕ
bytes_of None n = n
bytes_of (Some k) n = k * n

-- the bytes in the data of a global of this type, or of an array of it with a number of elements
abbrev pub bytes_by : Tables → Option ℕ → Verdict StaticType → ℕ
bytes_by g count (Of t) = rounded_up (variable_size g count t) 8
bytes_by g count v = 0

-- it has at most 4,096 bytes
abbrev pub IsSized : Tables → Option ℕ → Verdict StaticType → Type 0
IsSized g count v = (t : StaticType) → v ≡ Of t → fits_bytes (variable_size g count t) ≡ true
