-- Believed: structs and unions. Tags are judged in the order of the text: of a tag that stands later, or is being judged, only those faults count that hang on
-- no tag that is used by its members, be it another or itself.
use Rattle.std.specs.Prelude.{Bool, List, None, Option, Some, bytes_eq, false, is_some, length, not, suc, true, ℕ, ◌&&◌, ◌||◌, [], ◌∷◌, ◌++◌}
use Rattle.cyc_tree.specs.Tree.{TypeName}
use Rattle.source_meaning.specs.Sizes.{struct_extent}
use Rattle.source_typing.specs.Declarations.{stands_earlier}
use Rattle.source_typing.specs.Extents.{fits_bytes, layouts_of, part_shapes}
use Rattle.source_typing.specs.Faults.{Fault, fault, is_clean, name_rule, own_after, region_rule, size_rule, test}
use Rattle.source_typing.specs.Missing.{settled}
use Rattle.source_typing.specs.Regions.{Level, Region, TheHeap}
use Rattle.source_typing.specs.Scope.{Env, at_item}
use Rattle.source_typing.specs.Tables.{Entry, OfTag, Part, Tables}
use Rattle.source_typing.specs.Types.{PartialType, StaticType, is_key, is_scalar, is_union, is_unique, is_void}
use Rattle.source_typing.specs.Verdicts.{Of, Verdict, after, faults_of, if_fits, known}
use Rattle.source_typing.specs.Written.{Found, RegionNamed, all_found, base_of, base_spots, find_region, spots_of, written, written_on}
use Rattle.cyc_tree.specs.Tree as tree

-- ---- region parameters

abbrev pub parameter_added : Option Region → ℕ → List RegionNamed × List Fault → List RegionNamed × List Fault
parameter_added None at rest = rest
parameter_added (Some r) at (names, fs) = (names, fault region_rule at ∷ fs)

-- Region parameters, from one on: a second one of a name, and a name that is the heap's or the unique region's, is Region at it.
abbrev pub parameters_from : ℕ → List RegionNamed → List tree.RegionName → List RegionNamed × List Fault
parameters_from k names [] = (names, [])
parameters_from k names (tree.Named n ∷ rs) =
    parameter_added (find_region names n.text) n.at (parameters_from (suc k) (names ++ record { name = n.text; id = Level k } ∷ []) rs)
parameters_from k names (tree.Heap at ∷ rs) = parameter_added (Some TheHeap) at (parameters_from (suc k) names rs)
parameters_from k names (tree.Unique at ∷ rs) = parameter_added (Some TheHeap) at (parameters_from (suc k) names rs)

abbrev pub region_parameters : tree.Structure → List RegionNamed × List Fault
region_parameters s = parameters_from 0 [] s.regions

abbrev pub tag_scope : Tables → ℕ → tree.Structure → Env
tag_scope g i s = record (at_item false g i) { names = (region_parameters s).0 }

-- ---- members

abbrev pub is_named : List tree.Member → List ℕ → Bool
is_named [] x = false
is_named (m ∷ ms) x = bytes_eq m.name.text x || is_named ms x

-- Members, and parameters, have each name once, else Name at the second.
abbrev pub repeated : List tree.Member → List tree.Member → List Fault
repeated before [] = []
repeated before (m ∷ ms) = test (not (is_named before m.name.text)) name_rule m.name.at ++ repeated (m ∷ before) ms

-- A struct's members are neither `void` nor keys; a union's members are copyable scalars other than unions.
abbrev pub fits_member : Bool → StaticType → Bool
fits_member false t = not (is_void t) && not (is_key t)
fits_member true t = is_scalar t && not (is_union t) && not (is_unique t) && not (is_key t)

-- Else Type at the type; so is a struct or union used by value that doesn't stand earlier.
abbrev pub member_fitting : Env → Bool → ℕ → StaticType → Verdict StaticType
member_fitting g union at t = if_fits (fits_member union t && stands_earlier g t) at t

-- a type that takes no missing regions from another one
abbrev pub settled_alone : ℕ → PartialType → Verdict StaticType
settled_alone at p = settled at p None

abbrev pub member_type : Env → Bool → TypeName → Verdict StaticType
member_type g union t = after (after (written g.tables g.names t) (settled_alone t.at)) (member_fitting g union t.at)

abbrev pub member_faults : Env → Bool → List tree.Member → List Fault
member_faults g union [] = []
member_faults g union (m ∷ ms) = faults_of (member_type g union m.of) ++ member_faults g union ms

abbrev pub parts_by : Env → Bool → List tree.Member → List Part
parts_by g union [] = []
parts_by g union (m ∷ ms) = record { name = m.name.text; type = known (member_type g union m.of) } ∷ parts_by g union ms

-- ---- a tag

abbrev pub all_typed : List Part → Bool
all_typed [] = true
all_typed (p ∷ ps) = is_some p.type && all_typed ps

-- how many bytes a struct of these members has; a struct with a member of no known type isn't checked
abbrev pub struct_bytes : Tables → tree.Structure → List Part → ℕ
struct_bytes g s ps =
    (struct_extent (layouts_of true g) (record { tag = s.tag.text; parts = part_shapes ps } ∷ layouts_of false g) s.tag.text).size

-- A struct of more than 4,096 bytes is Size at its tag.
abbrev pub struct_sized : Tables → Bool → tree.Structure → List Part → List Fault
struct_sized g true s ps = []
struct_sized g false s ps = test (not (all_typed ps) || fits_bytes (struct_bytes g s ps)) size_rule s.tag.at

abbrev pub tag_parts : Tables → ℕ → Bool → tree.Structure → List Part
tag_parts g i union s = parts_by (tag_scope g i s) union s.members

abbrev pub tag_faults : Tables → ℕ → Bool → tree.Structure → List Fault
tag_faults g i union s =
    own_after (struct_sized g union s (tag_parts g i union s))
    ((region_parameters s).1 ++ member_faults (tag_scope g i s) union s.members ++ repeated [] s.members)

abbrev pub tag_entry : Tables → ℕ → Bool → tree.Structure → Entry
tag_entry g i union s = OfTag (record {
  text = s.tag.text;
  is_union = union;
  order = i;
  regions = length s.regions;
  parts = tag_parts g i union s;
  sound = is_clean (tag_faults g i union s);
})

-- ---- what is known of a tag before it is judged

-- how many region arguments a type has: those that are written, or else those that its tag asks for
abbrev pub argument_count : Tables → tree.Base → ℕ
argument_count g b = length (base_spots g b)

-- a member's type, as if its tag asked for the region arguments that it has
abbrev pub head_written : Tables → TypeName → List Found × List Fault → Verdict PartialType
head_written g t (fs, bad) = written_on t fs bad (after (base_of g t.base) (λ n. Of (argument_count g t.base)))

-- and where the order of tags doesn't matter
abbrev pub head_fitting : Bool → ℕ → StaticType → Verdict StaticType
head_fitting union at t = if_fits (fits_member union t) at t

abbrev pub head_type : Env → Bool → TypeName → Verdict StaticType
head_type g union t =
    after (after (head_written g.tables t (all_found g.names (spots_of g.tables t))) (settled_alone t.at)) (head_fitting union t.at)

abbrev pub head_faults : Env → Bool → List tree.Member → List Fault
head_faults g union [] = []
head_faults g union (m ∷ ms) = faults_of (head_type g union m.of) ++ head_faults g union ms

-- the tag alone: how many region parameters it has
abbrev pub bare_tag : ℕ → Bool → tree.Structure → Bool → Entry
bare_tag i union s sound =
    OfTag (record { text = s.tag.text; is_union = union; order = i; regions = length s.regions; parts = []; sound = sound })

-- A use of a tag within itself is judged where the tag is, and not before.
abbrev pub head_scope : Tables → ℕ → Bool → tree.Structure → Env
head_scope g i union s = tag_scope (record { name = s.tag.text; entry = bare_tag i union s false } ∷ g) i s

-- whether it has none of the faults that hang on no tag: region names, unknown names and names of another kind, `void`, keys, and second members
abbrev pub head_entry : Tables → ℕ → Bool → tree.Structure → Entry
head_entry g i union s =
    bare_tag i union s (is_clean ((region_parameters s).1 ++ head_faults (head_scope g i union s) union s.members ++ repeated [] s.members))
