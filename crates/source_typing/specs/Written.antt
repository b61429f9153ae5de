-- Believed: types as a text writes them: tags and region names are looked up, and missing regions are found.
use Rattle.std.specs.Prelude.{Bool, List, None, Option, Some, bytes_eq, false, is_none, length, map, nat_eq, replicate, suc, true, zero, ℕ, ◌||◌}
use Rattle.std.specs.Prelude.{if◌then◌else◌, [], ◌∷◌, ◌++◌}
use Rattle.cyc_tree.specs.Tree.{TypeName}
use Rattle.cyc_tree.specs.declared.name.Sign.{Sign}
use Rattle.source_typing.specs.Faults.{Fault, fault, name_rule, region_rule, type_rule}
use Rattle.source_typing.specs.Regions.{Region, TheHeap}
use Rattle.source_typing.specs.Tables.{Entry, OfTag, Tables, Tag, find, tag_in}
use Rattle.source_meaning.specs.Shapes.{Reach, MayBeNull, NeverNull, number_of, may_be_null}
use Rattle.source_typing.specs.Types.{Char, Fat, Handle, Int, Key, PartialType, Struct, Thin, Union, Unique, Unsigned, Void, same_bool}
use Rattle.source_typing.specs.Verdicts.{Faulty, Of, Unjudged, Verdict, refuse, unless_faulty}
use Rattle.cyc_tree.specs.Tree as tree
use Rattle.cyc_tree.specs.declared.name.Sign.TheVariants as sign

-- a region name in scope
pub record RegionNamed : Type 0 where
  pub name : List ℕ
  pub id : Region

abbrev pub find_region : List RegionNamed → List ℕ → Option Region
find_region [] x = None
find_region (n ∷ ns) x = (if bytes_eq n.name x then Some n.id else find_region ns x)

-- ---- the places of regions in a type, in the order of the text

-- a region that is written or missing; of a pointer, or of a struct, a union, a handle or a key
pub record Spot : Type 0 where
  pub written : Option tree.RegionName
  pub of_pointer : Bool

abbrev pub spot : Bool → Option tree.RegionName → Spot
spot of_pointer written = record { written = written; of_pointer = of_pointer }

-- what a region is: known, unique, or missing
pub data Found : Type 0 where
  Is : Region → Found
  IsUnique : Found
  Missing : Found

abbrev pub regions_of_tag : Option Tag → ℕ
regions_of_tag None = 0
regions_of_tag (Some t) = t.regions

-- a missing region argument of a struct or union is a missing region
abbrev pub argument_spots : Tables → tree.Name → List tree.RegionName → List Spot
argument_spots g tag [] = replicate (regions_of_tag (tag_in g tag.text)) (spot false None)
argument_spots g tag (r ∷ rs) = map (λ r. spot false (Some r)) (r ∷ rs)

abbrev pub base_spots : Tables → tree.Base → List Spot
base_spots g (tree.Struct tag rs) = argument_spots g tag rs
base_spots g (tree.Union tag rs) = argument_spots g tag rs
base_spots g (tree.Handle r) = spot false (Some r) ∷ []
base_spots g (tree.Key r) = spot false (Some r) ∷ []
base_spots g _ = []

abbrev pub spots_of : Tables → TypeName → List Spot
spots_of g t = base_spots g t.base ++ map (λ p. spot true p.region) t.pointers

-- whether a region is missing
abbrev pub any_missing : List Spot → Bool
any_missing [] = false
any_missing (s ∷ ss) = is_none s.written || any_missing ss

-- ---- region names

-- An unknown region name is Region at the name.
abbrev pub found_named : ℕ → Option Region → Found × List Fault
found_named at (Some r) = (Is r, [])
found_named at None = (Missing, fault region_rule at ∷ [])

-- The unique region is a pointer's alone: as a region argument, or as a handle's or key's region, it is Region at the name.
abbrev pub found_by : List RegionNamed → Option tree.RegionName → Bool → Found × List Fault
found_by names None p = (Missing, [])
found_by names (Some (tree.Heap at)) p = (Is TheHeap, [])
found_by names (Some (tree.Unique at)) true = (IsUnique, [])
found_by names (Some (tree.Unique at)) false = (Missing, fault region_rule at ∷ [])
found_by names (Some (tree.Named n)) p = found_named n.at (find_region names n.text)

abbrev pub found_before : Found × List Fault → List Found × List Fault → List Found × List Fault
found_before (f, fs) (g, gs) = (f ∷ g, fs ++ gs)

abbrev pub all_found : List RegionNamed → List Spot → List Found × List Fault
all_found names [] = ([], [])
all_found names (s ∷ ss) = found_before (found_by names s.written s.of_pointer) (all_found names ss)

-- ---- the type, by its regions

abbrev pub as_region : Found → Option Region
as_region (Is r) = Some r
as_region IsUnique = None
as_region Missing = None

-- A thin pointer leads to at least one element, and a unique one to just one. None: another number.
abbrev pub thin_to : Reach → Found → PartialType → Option PartialType
thin_to bound IsUnique t = (if nat_eq (number_of bound) 1 then Some (Unique (may_be_null bound) t) else None)
thin_to bound f t = (if nat_eq (number_of bound) 0 then None else Some (Thin bound (as_region f) t))

-- A pointer. None, a type that can't be: a pointer to `void` or to a key, a unique fat pointer, and a thin one of which `thin_to` makes none.
abbrev pub pointer_to : Sign → Found → PartialType → Option PartialType
pointer_to s f Void = None
pointer_to s f (Key r) = None
pointer_to sign.Fat IsUnique t = None
pointer_to sign.Fat f t = Some (Fat (as_region f) t)
pointer_to (sign.Nullable count) f t = thin_to (MayBeNull count) f t
pointer_to (sign.NotNull count) f t = thin_to (NeverNull count) f t

abbrev pub pointers_to : List tree.Pointer → List Found → Option PartialType → Option PartialType
pointers_to (p ∷ ps) (f ∷ fs) (Some t) = pointers_to ps fs (pointer_to p.sign f t)
pointers_to ps fs t = t

-- the first of the regions are the arguments of a struct or union, which takes the given number
abbrev pub with_arguments : ℕ → (List (Option Region) → PartialType) → List Found → List tree.Pointer → List Found → Option PartialType
with_arguments zero make args ps fs = pointers_to ps fs (Some (make (map as_region args)))
with_arguments (suc n) make args ps [] = None
with_arguments (suc n) make args ps (f ∷ fs) = with_arguments n make (args ++ f ∷ []) ps fs

abbrev pub built : tree.Base → ℕ → List tree.Pointer → List Found → Option PartialType
built tree.Int n ps fs = pointers_to ps fs (Some Int)
built tree.Unsigned n ps fs = pointers_to ps fs (Some Unsigned)
built tree.Char n ps fs = pointers_to ps fs (Some Char)
built tree.Void n ps fs = pointers_to ps fs (Some Void)
built (tree.Struct tag rs) n ps fs = with_arguments n (Struct tag.text) [] ps fs
built (tree.Union tag rs) n ps fs = with_arguments n (Union tag.text) [] ps fs
built (tree.Handle r) n ps [] = None
built (tree.Handle r) n ps (f ∷ fs) = pointers_to ps fs (Some (Handle (as_region f)))
built (tree.Key r) n ps [] = None
built (tree.Key r) n ps (f ∷ fs) = pointers_to ps fs (Some (Key (as_region f)))

-- ---- tags

abbrev pub of_kind : Bool → Tag → ℕ → Verdict ℕ
of_kind true t at = Of t.regions
of_kind false t at = refuse type_rule at

abbrev pub if_sound : {A : Type 0} → Bool → Verdict A → Verdict A
if_sound true v = v
if_sound false v = Unjudged

-- The tag of a type, with its count of region parameters: an unknown name is Name at it, a name of another kind Type at it, whether or not its own
-- declaration has a fault. For the type of a local `tagged` goes before.
abbrev pub tag_of : Option Entry → Bool → ℕ → Verdict ℕ
tag_of None union at = refuse name_rule at
tag_of (Some (OfTag t)) union at = if_sound t.sound (of_kind (same_bool t.is_union union) t at)
tag_of (Some e) union at = refuse type_rule at

abbrev pub base_of : Tables → tree.Base → Verdict ℕ
base_of g (tree.Struct tag rs) = tag_of (find g tag.text) false tag.at
base_of g (tree.Union tag rs) = tag_of (find g tag.text) true tag.at
base_of g _ = Of 0

-- all region arguments of a struct or union are written, or none
abbrev pub count_fits : tree.Base → ℕ → Bool
count_fits (tree.Struct tag (r ∷ rs)) n = nat_eq (length (r ∷ rs)) n
count_fits (tree.Union tag (r ∷ rs)) n = nat_eq (length (r ∷ rs)) n
count_fits _ n = true

abbrev pub type_built : ℕ → Option PartialType → Verdict PartialType
type_built at (Some t) = Of t
type_built at None = refuse type_rule at

-- A wrong count of region arguments is Region at the type.
abbrev pub counted_type : TypeName → List Found → ℕ → Bool → Verdict PartialType
counted_type t fs n true = type_built t.at (built t.base n t.pointers fs)
counted_type t fs n false = refuse region_rule t.at

abbrev pub written_on : TypeName → List Found → List Fault → Verdict ℕ → Verdict PartialType
written_on t fs bad (Faulty f others) = Faulty f (others ++ bad)
written_on t fs bad Unjudged = unless_faulty bad Unjudged
written_on t fs bad (Of n) = unless_faulty bad (counted_type t fs n (count_fits t.base n))

-- a type as written, with the regions that were found for it and their faults
abbrev pub written_with : Tables → TypeName → List Found × List Fault → Verdict PartialType
written_with g t (fs, bad) = written_on t fs bad (base_of g t.base)

abbrev pub written : Tables → List RegionNamed → TypeName → Verdict PartialType
written g names t = written_with g t (all_found names (spots_of g t))
