-- View of code: types of structs and unions as they are read, and what their tags mean.
use Rattle.std.specs.Prelude.{Bool, List, None, Option, Some, false, if◌then◌else◌, length, map, true, ℕ, ◌≡◌, ◌++◌}
use Rattle.cyc_tree.specs.Tree.{Name, TypeName}
use Rattle.cyc_types.specs.declared.region.RegionId.{RegionId}
use Rattle.source_typing.specs.Faults.{Fault, earliest, name_rule, region_rule, type_rule}
use Rattle.source_typing.specs.Regions.{Region}
use Rattle.source_typing.specs.Tables.{Entry, OfTag, Tables, find}
use Rattle.source_typing.specs.Types.{PartialType, same_bool}
use Rattle.source_typing.specs.Verdicts.{Of, Unjudged, Verdict, refuse, unless_faulty}
use Rattle.source_typing.specs.Written.{Found, RegionNamed, Spot, all_found, as_region, pointers_to, spot, type_built, written_on}
use Rattle.check_faults.specs.Faults.{faults_of}
use Rattle.check_faults.specs.declared.fault.Fault as code_fault
use Rattle.check_types.specs.Arguments.{spots_by, written_arguments}
use Rattle.check_types.specs.Reading.{led_by}
use Rattle.check_types.specs.Written.{partial_regions}
use Rattle.check_types.specs.declared.layer.WrittenLayer.{WrittenLayer}
use Rattle.check_types.specs.declared.tagged.TagName.{TagName}
use Rattle.check_types.specs.declared.tagged.TagName.TheVariants as code
use Rattle.cyc_tree.specs.Tree as tree
use Rattle.source_typing.specs.Types as type

-- ---- structs and unions

abbrev pub is_union_base : tree.Base → Bool
is_union_base (tree.Union tag rs) = true
is_union_base b = false

-- the base of a union's or a struct's type
abbrev pub tag_base : Bool → Name → List tree.RegionName → tree.Base
tag_base true x rs = tree.Union x rs
tag_base false x rs = tree.Struct x rs

-- a union's or a struct's type
abbrev pub tag_type : Bool → List ℕ → List (Option Region) → PartialType
tag_type true x rs = type.Union x rs
tag_type false x rs = type.Struct x rs

abbrev pub base_tag : tree.Base → Option Name
base_tag (tree.Struct tag rs) = Some tag
base_tag (tree.Union tag rs) = Some tag
base_tag b = None

-- the tag of a type of structs or unions
abbrev pub type_tag : TypeName → Option Name
type_tag t = base_tag t.base

-- ---- tags

-- what a name means where a tag is wanted
abbrev pub tag_name_of : Option Entry → TagName
tag_name_of None = code.NoName
tag_name_of (Some (OfTag t)) = (if t.sound then code.Tag t.is_union t.regions else code.NotJudged t.regions)
tag_name_of (Some e) = code.Other

-- how many region parameters it has
abbrev pub regions_named : TagName → ℕ
regions_named (code.Tag u n) = n
regions_named (code.NotJudged n) = n
regions_named code.NoName = 0
regions_named code.Other = 0

-- a name means this
pub record IsNamed (g : Tables) (x : List ℕ) (n : TagName) : Type 0 where
  pub is : tag_name_of (find g x) ≡ n

-- the tag of a type of structs or unions means this
abbrev pub TagIs : Tables → TypeName → TagName → Type 0
TagIs g t n = (x : Name) → type_tag t ≡ Some x → IsNamed g x.text n

-- the tag of a union or a struct, with its count of region parameters, by what its name means
abbrev pub named_as : Bool → TagName → ℕ → Verdict ℕ
named_as union code.NoName at = refuse name_rule at
named_as union (code.Tag u n) at = (if same_bool u union then Of n else refuse type_rule at)
named_as union (code.NotJudged n) at = Unjudged
named_as union code.Other at = refuse type_rule at

-- ---- types

-- the regions of the pointers
abbrev pub pointers_found : List RegionNamed → TypeName → List Found × List Fault
pointers_found names t = all_found names (map (λ q. spot true q.region) t.pointers)

-- the type's pointers on a base
abbrev pub pointed_on : List RegionNamed → TypeName → PartialType → Verdict PartialType
pointed_on names t b =
    unless_faulty (pointers_found names t).1 (type_built t.at (pointers_to t.pointers (pointers_found names t).0 (Some b)))

-- ---- a type of structs or unions

-- what the code read of the type's region arguments and pointers, by the number of its tag's region parameters, the regions found and their faults
pub record IsRead (t : TypeName) (n : ℕ) (y : List Found × List Fault) (arguments : List (Option RegionId)) (layers : Option (List WrittenLayer))
    (bad : Option code_fault.Fault) : Type 0 where
  pub of_base : List Found
  pub of_pointers : List Found
  pub found : y.0 ≡ of_base ++ of_pointers
  pub count : length of_base ≡ length (spots_by n (written_arguments t.base))
  pub regions : partial_regions arguments ≡ map as_region of_base
  pub pointers : (b : PartialType) → pointers_to t.pointers of_pointers (Some b) ≡ led_by layers b
  pub fault : faults_of bad ≡ earliest y.1

-- the places of its regions, by the number of its tag's region parameters
abbrev pub tagged_spots : ℕ → TypeName → List Spot
tagged_spots n t = spots_by n (written_arguments t.base) ++ map (λ q. spot true q.region) t.pointers

-- a wrong count of region arguments
abbrev pub if_counted : ℕ → Bool → Verdict PartialType → Verdict PartialType
if_counted at true v = v
if_counted at false v = refuse region_rule at

abbrev pub tagged_in : List RegionNamed → TypeName → Name → TagName → Verdict PartialType
tagged_in names t x n =
    written_on t (all_found names (tagged_spots (regions_named n) t)).0 (all_found names (tagged_spots (regions_named n) t)).1
    (named_as (is_union_base t.base) n x.at)
