-- How a struct or union is judged, from its members.
use Rattle.std.proofs.Common.{◌≡◌, ℕ, Bool, true, false, List, [], ◌∷◌, ◌++◌, refl, sym, ap, ◌∙◌, append_assoc}
use Rattle.std.specs.List.{list_all}
use Rattle.std.specs.Prelude.{None, Option, Some, is_none, is_some, length, not, ◌&&◌, ◌||◌}
use Rattle.cyc_tree.specs.Tree.{Structure, TypeName}
use Rattle.cyc_types.specs.Tags.{member_of, members_of}
use Rattle.cyc_types.specs.declared.tag.Member.{Member}
use Rattle.source_typing.specs.Extents.{fits_bytes}
use Rattle.source_typing.specs.Faults.{Fault, earliest, own_after, size_rule, sooner_of, test}
use Rattle.source_typing.proofs.RegionNames.{written_alike}
use Rattle.source_typing.specs.Scope.{Env}
use Rattle.source_typing.specs.Tables.{OfTag, Part, Tables}
use Rattle.source_typing.specs.Tags.{all_typed, member_faults, member_fitting, member_type, parts_by, region_parameters, repeated, settled_alone}
use Rattle.source_typing.specs.Tags.{struct_bytes, struct_sized, tag_entry, tag_faults, tag_scope}
use Rattle.source_typing.specs.Types.{StaticType}
use Rattle.source_typing.specs.Verdicts.{Faulty, Of, Unjudged, Verdict, after, faults_of, known}
use Rattle.source_typing.specs.Written.{RegionNamed}
use Rattle.check_faults.proofs.Earliest.{earliest_of_both, first_joined, found_sooner, sooner_some}
use Rattle.check_faults.proofs.Shortened.{shortened_after}
use Rattle.check_faults.specs.Faults.{first_of, sooner_found}
use Rattle.check_faults.specs.Verdicts.{Is, Short, fault_in, short_after, shortened}
use Rattle.check_structs.specs.Members.{scoped, type_alone}
use Rattle.check_structs.specs.Parameters.{SameNames}
use Rattle.check_structs.specs.Tags.{fits_as, known_short, member_by, or_own}
use Rattle.check_structs.proofs.HeadTypes.{clean_none}
use Rattle.cyc_tree.specs.Tree as tree
use Rattle.check_faults.specs.Faults as found
use Rattle.check_faults.specs.declared.fault.Fault as code

-- ---- what is known of a phrase

pub earliest_in : {A : Type 0} (v : Verdict A) → fault_in (shortened v) ≡ earliest (faults_of v)
earliest_in (Faulty f fs) = sooner_some f (earliest fs)
earliest_in Unjudged = refl
earliest_in (Of a) = refl

pub known_in : (v : Verdict StaticType) → known_short (shortened v) ≡ known v
known_in (Faulty f fs) = refl
known_in Unjudged = refl
known_in (Of t) = refl

-- ---- members

pub each_typed : (ms : List Member) → list_all (λ m. is_some (member_of m).type) ms ≡ all_typed (members_of ms)
each_typed [] = refl
each_typed (m ∷ ms) = ap (λ b. is_some (member_of m).type && b) (each_typed ms)

module _ (e : Env) (union : Bool) (m : tree.Member) (ms : List tree.Member) (of : Short StaticType) (is : of ≡ shortened (member_type e union m.of)) where
  -- the parts so far, with one member more
  pub parts_next : (name : List ℕ) (before all : List Part) → name ≡ m.name.text → before ++ parts_by e union (m ∷ ms) ≡ all
      → (before ++ record { name = name; type = known_short of } ∷ []) ++ parts_by e union ms ≡ all
  parts_next name before all same so_far =
      append_assoc before (record { name = name; type = known_short of } ∷ []) (parts_by e union ms)
      ∙ ap (λ (x : List ℕ). before ++ record { name = x; type = known_short of } ∷ parts_by e union ms) same
      ∙ ap (λ (t : Option StaticType). before ++ record { name = m.name.text; type = t } ∷ parts_by e union ms)
      (ap known_short is ∙ known_in (member_type e union m.of))
      ∙ so_far

  -- the fault so far
  pub fault_next : (found now all : Option Fault) → now ≡ first_of found (fault_in of)
      → first_of found (earliest (member_faults e union (m ∷ ms))) ≡ all → first_of now (earliest (member_faults e union ms)) ≡ all
  fault_next found now all next so_far =
      ap (λ o. first_of o (earliest (member_faults e union ms))) next
      ∙ first_joined found (fault_in of) (earliest (member_faults e union ms))
      ∙ ap (λ o. first_of found (first_of o (earliest (member_faults e union ms)))) (ap fault_in is ∙ earliest_in (member_type e union m.of))
      ∙ ap (first_of found) (sym (earliest_of_both (faults_of (member_type e union m.of)) (member_faults e union ms)))
      ∙ so_far

-- by region names that mean the same
module _ (union : Bool) (g : Tables) (i : ℕ) (a b : List RegionNamed) (same : SameNames a b) where
  type_alike : (t : TypeName) → member_type (scoped g i a) union t ≡ member_type (scoped g i b) union t
  type_alike t = ap (λ v. after (after v (settled_alone t.at)) (member_fitting (scoped g i b) union t.at)) (written_alike a b same g t)

  pub parts_alike : (ms : List tree.Member) → parts_by (scoped g i a) union ms ≡ parts_by (scoped g i b) union ms
  parts_alike [] = refl
  parts_alike (m ∷ ms) =
      ap (λ (v : Verdict StaticType). record { name = m.name.text; type = known v } ∷ parts_by (scoped g i a) union ms) (type_alike m.of)
      ∙ ap (λ (ps : List Part). record { name = m.name.text; type = known (member_type (scoped g i b) union m.of) } ∷ ps) (parts_alike ms)

  pub faults_alike : (ms : List tree.Member) → member_faults (scoped g i a) union ms ≡ member_faults (scoped g i b) union ms
  faults_alike [] = refl
  faults_alike (m ∷ ms) =
      ap (λ v. faults_of v ++ member_faults (scoped g i a) union ms) (type_alike m.of)
      ∙ ap (λ fs. faults_of (member_type (scoped g i b) union m.of) ++ fs) (faults_alike ms)

-- ---- faults

-- the faults that were found, or else its own
pub earliest_own : (own fs : List Fault) → earliest (own_after own fs) ≡ or_own (earliest fs) (earliest own)
earliest_own own [] = refl
earliest_own own (f ∷ fs) = by (earliest fs)
  where
    by : (o : Option Fault) → sooner_of f o ≡ or_own (sooner_of f o) (earliest own)
    by None = refl
    by (Some g) = refl

-- ---- a member's type

-- by what its type alone is
pub type_by : (union : Bool) (g : Tables) (names : List RegionNamed) (t : TypeName) (declared : StaticType → Bool) (s : Short StaticType)
    → s ≡ shortened (type_alone g names t)
    → short_after s (λ a. shortened (fits_as union declared t.at a)) ≡ shortened (member_by union declared g names t)
type_by union g names t declared s is =
    ap (λ o. short_after o (λ a. shortened (fits_as union declared t.at a))) is
    ∙ sym (shortened_after (type_alone g names t) (fits_as union declared t.at))

-- ---- a struct or union

-- only a struct can have too many bytes
bytes_same : (union : Bool) (g here : Tables) (s : Structure) (ps : List Part) → struct_bytes g s ps ≡ struct_bytes here s ps
    → struct_sized here union s ps ≡ struct_sized g union s ps
bytes_same true g here s ps h = refl
bytes_same false g here s ps h = ap (λ n. test (not (all_typed ps) || fits_bytes n) size_rule s.tag.at) (sym h)

module _ (union : Bool) (g here : Tables) (i : ℕ) (s : Structure) (names : List RegionNamed) (ps : List Part)
    (regions fault second now : Option code.Fault) (same : SameNames names (region_parameters s).0)
    (of_regions : found.faults_of regions ≡ earliest (region_parameters s).1) (parts : ps ≡ parts_by (scoped g i names) union s.members)
    (of_members : found.faults_of fault ≡ earliest (member_faults (scoped g i names) union s.members))
    (of_second : found.faults_of second ≡ earliest (repeated [] s.members))
    (bytes : (s : Structure) (ps : List Part) → struct_bytes g s ps ≡ struct_bytes here s ps)
    (is : found.faults_of now
    ≡ or_own (found.faults_of (sooner_found regions (sooner_found fault second))) (earliest (struct_sized here union s ps))) where
  abbrev e : Env
  e = tag_scope g i s

  abbrev own : List Fault
  own = member_faults e union s.members ++ repeated [] s.members

  here_parts : ps ≡ parts_by e union s.members
  here_parts = parts ∙ parts_alike union g i names (region_parameters s).0 same s.members

  own_found : found.faults_of (sooner_found fault second) ≡ earliest own
  own_found =
      found_sooner fault second
      ∙ ap (λ o. first_of o (found.faults_of second)) (of_members ∙ ap earliest (faults_alike union g i names (region_parameters s).0 same s.members))
      ∙ ap (first_of (earliest (member_faults e union s.members))) of_second
      ∙ sym (earliest_of_both (member_faults e union s.members) (repeated [] s.members))

  abbrev all : List Fault
  all = (region_parameters s).1 ++ member_faults e union s.members ++ repeated [] s.members

  parts_found : found.faults_of (sooner_found regions (sooner_found fault second)) ≡ earliest all
  parts_found =
      found_sooner regions (sooner_found fault second)
      ∙ ap (λ o. first_of o (found.faults_of (sooner_found fault second))) of_regions
      ∙ ap (first_of (earliest (region_parameters s).1)) own_found
      ∙ sym (earliest_of_both (region_parameters s).1 own)
      ∙ ap earliest (sym (append_assoc (region_parameters s).1 (member_faults e union s.members) (repeated [] s.members)))

  pub tag_fault : found.faults_of now ≡ earliest (tag_faults g i union s)
  tag_fault =
      is
      ∙ ap (λ o. or_own o (earliest (struct_sized here union s ps))) parts_found
      ∙ ap (λ ps. or_own (earliest all) (earliest (struct_sized here union s ps))) here_parts
      ∙ ap (λ fs. or_own (earliest all) (earliest fs))
      (bytes_same union g here s (parts_by e union s.members) (bytes s (parts_by e union s.members)))
      ∙ sym (earliest_own (struct_sized g union s (parts_by e union s.members)) all)

  pub tag_is : (sound : Bool) (n : ℕ) → sound ≡ is_none now → n ≡ length s.regions
      → OfTag (record { text = s.tag.text; is_union = union; order = i; regions = n; parts = ps; sound = sound })
      ≡ tag_entry g i union s
  tag_is sound n is_sound count =
      ap (λ (ps : List Part). OfTag (record { text = s.tag.text; is_union = union; order = i; regions = n; parts = ps; sound = sound })) here_parts
      ∙ ap (λ (n : ℕ). OfTag (record {
        text = s.tag.text;
        is_union = union;
        order = i;
        regions = n;
        parts = parts_by e union s.members;
        sound = sound;
      })) count
      ∙ ap (λ (b : Bool). OfTag (record {
        text = s.tag.text;
        is_union = union;
        order = i;
        regions = length s.regions;
        parts = parts_by e union s.members;
        sound = b;
      })) (is_sound ∙ clean_none now (tag_faults g i union s) tag_fault)
