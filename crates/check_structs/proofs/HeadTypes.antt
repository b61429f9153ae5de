-- The types of members before tags are judged, where the count of region arguments doesn't matter.
use Rattle.std.proofs.Common.{◌≡◌, ℕ, Bool, true, false, List, [], ◌∷◌, ◌++◌, refl, sym, ap, subst, ◌∙◌, append_assoc}
use Rattle.std.proofs.lemmas.List.{length-map, length-replicate}
use Rattle.std.proofs.lemmas.Slice.Eq.{bytes_eq-Decides}
use Rattle.std.specs.Prelude.{None, Option, Some, bytes_eq, if◌then◌else◌, is_none, is_some, length, not, ◌&&◌}
use Rattle.cyc_tree.specs.Tree.{TypeName}
use Rattle.source_typing.proofs.RegionNames.{all_alike}
use Rattle.source_typing.specs.Faults.{Fault, earliest, is_clean, type_rule}
use Rattle.source_typing.specs.Tables.{OfOther, OfTag, Tables, as_tag, find}
use Rattle.source_typing.specs.Tags.{argument_count, bare_tag, fits_member, head_entry, head_faults, head_fitting, head_type, head_written}
use Rattle.source_typing.specs.Tags.{region_parameters, repeated, settled_alone}
use Rattle.source_typing.specs.Types.{StaticType, same_bool}
use Rattle.source_typing.specs.Verdicts.{Faulty, Of, Unjudged, Verdict, after, faults_of, if_fits, refuse}
use Rattle.source_typing.specs.Written.{RegionNamed, all_found, argument_spots, base_of, regions_of_tag, spot, spots_of, written, written_on, written_with}
use Rattle.check_faults.proofs.Earliest.{sooner_none}
use Rattle.check_faults.specs.Verdicts.{Is, NotJudged, Short, Wrong, shortened}
use Rattle.check_types.specs.Arguments.{written_arguments}
use Rattle.check_types.specs.Naming.{tag_named}
use Rattle.check_types.specs.Tagged.{IsNamed, TagIs, base_tag, is_union_base, named_as, regions_named, tag_base, tag_name_of, type_tag}
use Rattle.check_types.specs.declared.tag_names.TagNames.{TagNames}
use Rattle.check_types.specs.declared.tagged.TagName.{TagName}
use Rattle.check_types.specs.declared.tagged.TagName.TheVariants as code
use Rattle.check_types.proofs.TagTypes.{named_by, regions_by}
use Rattle.check_types.proofs.PlainTypes.{tag_is_base}
use Rattle.check_structs.specs.FirstKnown.{AreHeads, AreNames, any_count, count_by}
use Rattle.check_structs.specs.Members.{scoped, type_alone}
use Rattle.check_structs.specs.Parameters.{SameNames}
use Rattle.cyc_tree.specs.Tree as tree
use Rattle.check_faults.specs.Faults as code_faults
use Rattle.check_faults.specs.declared.fault.Fault as code_fault

-- ---- a member's type

abbrev pub clean_short : Bool → Short StaticType → Bool
clean_short union (Wrong f) = false
clean_short union NotJudged = true
clean_short union (Is t) = fits_member union t

settled_as : (union : Bool) (at : ℕ) (v : Verdict StaticType)
    → is_clean (faults_of (after v (head_fitting union at))) ≡ clean_short union (shortened v)
settled_as union at (Faulty f fs) = refl
settled_as union at Unjudged = refl
settled_as union at (Of t) = by (fits_member union t)
  where
    by : (b : Bool) → is_clean (faults_of (if_fits b at t)) ≡ b
    by true = refl
    by false = refl

-- what is known of the type of a member by tables, and by tables in which its tag asks for the region arguments that it has
module _ (union : Bool) (g h : Tables) (i : ℕ) (names : List RegionNamed) (t : TypeName) where
  abbrev pub IsAs : Type 0
  IsAs = is_clean (faults_of (head_type (scoped g i names) union t)) ≡ clean_short union (shortened (type_alone h names t))

  of_written : head_written g t (all_found names (spots_of g t)) ≡ written h names t → IsAs
  of_written e =
      ap (λ v. is_clean (faults_of (after (after v (settled_alone t.at)) (head_fitting union t.at)))) e ∙ settled_as union t.at (type_alone h names t)

  of_base : spots_of g t ≡ spots_of h t → after (base_of g t.base) (λ n. let v : Verdict ℕ = Of (argument_count g t.base) in v) ≡ base_of h t.base → IsAs
  of_base same e =
      of_written (ap (λ v. written_on t (all_found names (spots_of g t)).0 (all_found names (spots_of g t)).1 v) e
      ∙ ap (λ ss. written_with h t (all_found names ss)) same)

-- ---- a type that is neither a struct nor a union

other_as : (union : Bool) (g : Tables) (i : ℕ) (names : List RegionNamed) (t : TypeName) → type_tag t ≡ None → IsAs union g g i names t
other_as union g i names t h = by t.base h
  where
    with_base : tree.Base → TypeName
    with_base b = record { at = t.at; base = b; pointers = t.pointers }

    by : (b : tree.Base) → base_tag b ≡ None → IsAs union g g i names (with_base b)
    by tree.Int h = of_base union g g i names (with_base tree.Int) refl refl
    by tree.Unsigned h = of_base union g g i names (with_base tree.Unsigned) refl refl
    by tree.Char h = of_base union g g i names (with_base tree.Char) refl refl
    by tree.Void h = of_base union g g i names (with_base tree.Void) refl refl
    by (tree.Handle r) h = of_written union g g i names (with_base (tree.Handle r)) refl
    by (tree.Key r) h = of_written union g g i names (with_base (tree.Key r)) refl
    by (tree.Struct tag rs) h = absurd cc
    by (tree.Union tag rs) h = absurd cc

-- ---- a struct's or union's

-- a name that means this alone
abbrev entry_of : List ℕ → TagName → Tables
entry_of x code.NoName = []
entry_of x (code.Tag u n) =
    record { name = x; entry = OfTag (record { text = x; is_union = u; order = 0; regions = n; parts = []; sound = true }) } ∷ []
entry_of x (code.NotJudged n) =
    record { name = x; entry = OfTag (record { text = x; is_union = false; order = 0; regions = n; parts = []; sound = false }) } ∷ []
entry_of x code.Other = record { name = x; entry = OfOther } ∷ []

entry_named : (x : List ℕ) (n : TagName) → tag_name_of (find (entry_of x n) x) ≡ n
entry_named x code.NoName = refl
entry_named x (code.Tag u n) =
    ap (λ (b : Bool). tag_name_of (if b then Some (OfTag (record { text = x; is_union = u; order = 0; regions = n; parts = []; sound = true })) else None))
    ((bytes_eq-Decides x x).1 refl)
entry_named x (code.NotJudged n) =
    ap (λ (b : Bool). tag_name_of (if b then Some (OfTag (record { text = x; is_union = false; order = 0; regions = n; parts = []; sound = false })) else None))
    ((bytes_eq-Decides x x).1 refl)
entry_named x code.Other = ap (λ (b : Bool). tag_name_of (if b then Some OfOther else None)) ((bytes_eq-Decides x x).1 refl)

-- the tables by which its type is read: where region arguments are written, its tag asks for so many
abbrev asked : Tables → List ℕ → TagName → List tree.RegionName → Tables
asked g x n [] = g
asked g x n (r ∷ rs) = entry_of x (any_count n (r ∷ rs))

no_arguments : (n : TagName) → any_count n [] ≡ n
no_arguments code.NoName = refl
no_arguments (code.Tag u m) = refl
no_arguments (code.NotJudged m) = refl
no_arguments code.Other = refl

asked_named : (g : Tables) (x : List ℕ) (n : TagName) (rs : List tree.RegionName) → tag_name_of (find g x) ≡ n
    → tag_name_of (find (asked g x n rs) x) ≡ any_count n rs
asked_named g x n [] h = h ∙ sym (no_arguments n)
asked_named g x n (r ∷ rs) h = entry_named x (any_count n (r ∷ rs))

same_spots : (g : Tables) (at : ℕ) (wanted : Bool) (x : tree.Name) (n : TagName) (rs : List tree.RegionName) (ps : List tree.Pointer)
    → let t : TypeName = record { at = at; base = tag_base wanted x rs; pointers = ps } in spots_of g t ≡ spots_of (asked g x.text n rs) t
same_spots g at true x n [] ps = refl
same_spots g at true x n (r ∷ rs) ps = refl
same_spots g at false x n [] ps = refl
same_spots g at false x n (r ∷ rs) ps = refl

asks_for : (g : Tables) (x : tree.Name) (u : Bool) (m : ℕ) (rs : List tree.RegionName) → tag_name_of (find g x.text) ≡ code.Tag u m
    → count_by m rs ≡ length (argument_spots g x rs)
asks_for g x u m [] h =
    sym (length-replicate (regions_of_tag (as_tag (find g x.text))) (spot false None) ∙ regions_by (find g x.text) ∙ ap regions_named h)
asks_for g x u m (r ∷ rs) h = sym (length-map (r ∷ rs) (λ r. spot false (Some r)))

asks_all : (g : Tables) (wanted : Bool) (x : tree.Name) (u : Bool) (m : ℕ) (rs : List tree.RegionName) → tag_name_of (find g x.text) ≡ code.Tag u m
    → count_by m rs ≡ argument_count g (tag_base wanted x rs)
asks_all g true x u m rs h = asks_for g x u m rs h
asks_all g false x u m rs h = asks_for g x u m rs h

based : (g : Tables) (wanted : Bool) (x : tree.Name) (rs : List tree.RegionName) (n : TagName) → tag_name_of (find g x.text) ≡ n
    → base_of g (tag_base wanted x rs) ≡ named_as wanted n x.at
based g true x rs n named = named_by (find g x.text) true x.at ∙ ap (λ n. named_as true n x.at) named
based g false x rs n named = named_by (find g x.text) false x.at ∙ ap (λ n. named_as false n x.at) named

tagged_as : (union : Bool) (g : Tables) (i : ℕ) (names : List RegionNamed) (at : ℕ) (wanted : Bool) (x : tree.Name) (rs : List tree.RegionName)
    (ps : List tree.Pointer) (n : TagName) → tag_name_of (find g x.text) ≡ n
    → IsAs union g (asked g x.text n rs) i names (record { at = at; base = tag_base wanted x rs; pointers = ps })
tagged_as union g i names at wanted x rs ps n named =
    of_base union g (asked g x.text n rs) i names (record { at = at; base = tag_base wanted x rs; pointers = ps }) (same_spots g at wanted x n rs ps)
    (ap with_count (based g wanted x rs n named)
    ∙ by n named
    ∙ sym (based (asked g x.text n rs) wanted x rs (any_count n rs) (asked_named g x.text n rs named)))
  where
    with_count : Verdict ℕ → Verdict ℕ
    with_count v = after v (λ m. Of (argument_count g (tag_base wanted x rs)))

    kind : (u c : Bool) (m : ℕ) → tag_name_of (find g x.text) ≡ code.Tag u m
        → with_count (if c then Of m else refuse type_rule x.at) ≡ (if c then Of (count_by m rs) else refuse type_rule x.at)
    kind u true m named = ap (λ (k : ℕ). let v : Verdict ℕ = Of k in v) (sym (asks_all g wanted x u m rs named))
    kind u false m named = refl

    by : (n : TagName) → tag_name_of (find g x.text) ≡ n → with_count (named_as wanted n x.at) ≡ named_as wanted (any_count n rs) x.at
    by (code.NotJudged m) named = refl
    by code.NoName named = refl
    by code.Other named = refl
    by (code.Tag u m) named = kind u (same_bool u wanted) m named

-- by which tables the type of a member is read, where its tag means this
pub record HeadAs (union : Bool) (g : Tables) (i : ℕ) (names : List RegionNamed) (t : TypeName) (n : TagName) : Type 0 where
  pub by : Tables
  pub tag : TagIs by t n
  pub is : IsAs union g by i names t

none_some : (x : tree.Name) → None ≡ Some x → ⊥
none_some x e = absurd cc

same_some : (x y : tree.Name) → Some x ≡ Some y → x ≡ y
same_some x y e = cc

pub head_as : (union : Bool) (g : Tables) (i : ℕ) (names : List RegionNamed) (t : TypeName) (n : TagName) → TagIs g t n
    → HeadAs union g i names t (any_count n (written_arguments t.base))
head_as union g i names t n tag = by (type_tag t) refl
  where
    rs : List tree.RegionName
    rs = written_arguments t.base

    by : (o : Option tree.Name) → type_tag t ≡ o → HeadAs union g i names t (any_count n rs)
    by None h = record {
      by = g;
      tag = λ x e. absurd (none_some x (sym h ∙ e));
      is = other_as union g i names t h;
    }
    by (Some x) h =
        let named = (tag x h).is in
        record {
          by = asked g x.text n rs;
          tag = λ y e. subst (λ (z : tree.Name). IsNamed (asked g x.text n rs) z.text (any_count n rs)) (same_some x y (sym h ∙ e))
              (record { is = asked_named g x.text n rs named });
          is =
              subst (λ b. IsAs union g (asked g x.text n rs) i names (record { at = t.at; base = b; pointers = t.pointers })) (sym (tag_is_base t x h))
              (tagged_as union g i names t.at (is_union_base t.base) x rs t.pointers n named);
        }

-- ---- members

pub clean_of_both : (fs gs : List Fault) → is_clean (fs ++ gs) ≡ (is_clean fs && is_clean gs)
clean_of_both [] gs = refl
clean_of_both (f ∷ fs) gs = refl

-- so far, with one more
pub clean_next : (clean own : Bool) (fs gs : List Fault) → own ≡ is_clean fs → ((clean && own) && is_clean gs) ≡ (clean && is_clean (fs ++ gs))
clean_next true own fs gs e = ap (λ b. b && is_clean gs) e ∙ sym (clean_of_both fs gs)
clean_next false own fs gs e = refl

pub and_true : (b : Bool) → (b && true) ≡ b
and_true true = refl
and_true false = refl

pub none_told : {A : Type 0} (o : Option A) (b : Bool) → is_some o ≡ not b → b ≡ is_none o
none_told None true h = refl
none_told None false h = absurd cc
none_told (Some a) true h = absurd cc
none_told (Some a) false h = refl

-- no fault is answered where there is none
pub clean_none : (o : Option code_fault.Fault) (fs : List Fault) → code_faults.faults_of o ≡ earliest fs → is_none o ≡ is_clean fs
clean_none None [] e = refl
clean_none None (f ∷ fs) e = absurd (sooner_none f (earliest fs) e)
clean_none (Some x) [] e = absurd cc
clean_none (Some x) (f ∷ fs) e = refl

-- by region names that mean the same
module _ (union : Bool) (g : Tables) (i : ℕ) (a b : List RegionNamed) (same : SameNames a b) where
  type_alike : (t : TypeName) → head_type (scoped g i a) union t ≡ head_type (scoped g i b) union t
  type_alike t =
      ap (λ x. after (after (head_written g t x) (settled_alone t.at)) (head_fitting union t.at)) (all_alike a b same (spots_of g t))

  pub heads_alike : (ms : List tree.Member) → head_faults (scoped g i a) union ms ≡ head_faults (scoped g i b) union ms
  heads_alike [] = refl
  heads_alike (m ∷ ms) =
      ap (λ v. faults_of v ++ head_faults (scoped g i a) union ms) (type_alike m.of)
      ∙ ap (λ fs. faults_of (head_type (scoped g i b) union m.of) ++ fs) (heads_alike ms)

-- ---- a struct or union

-- its tables before it is judged: its own name, and those of others
abbrev pub own_tables : Tables → ℕ → Bool → tree.Structure → Tables
own_tables g i union s = record { name = s.tag.text; entry = bare_tag i union s false } ∷ g

pub own_named : (g : Tables) (i : ℕ) (union : Bool) (s : tree.Structure) (others : TagNames) (own : List ℕ) (count : ℕ) → own ≡ s.tag.text
    → count ≡ length s.regions → AreNames others g → AreHeads own count others (own_tables g i union s)
own_named g i union s others own count same counted names x = record {
  is =
      by (bytes_eq s.tag.text x)
      ∙ ap (λ (y : List ℕ). if bytes_eq y x then code.NotJudged (length s.regions) else tag_named others x) (sym same)
      ∙ ap (λ (n : ℕ). if bytes_eq own x then code.NotJudged n else tag_named others x) (sym counted);
}
  where
    by : (b : Bool) → tag_name_of (if b then Some (bare_tag i union s false) else find g x)
        ≡ (if b then code.NotJudged (length s.regions) else tag_named others x)
    by true = refl
    by false = (names x).is

-- the name of a union, or else a struct, by what was read of its region parameters and members
pub tag_head : (union : Bool) (g : Tables) (i : ℕ) (s : tree.Structure) (names : List RegionNamed) (regions : Option code_fault.Fault)
    (sound own : Bool) (count : ℕ) → SameNames names (region_parameters s).0 → code_faults.faults_of regions ≡ earliest (region_parameters s).1
    → count ≡ length s.regions → own ≡ is_clean (head_faults (scoped (own_tables g i union s) i names) union s.members ++ repeated [] s.members)
    → sound ≡ (is_none regions && own)
    → (if sound then code.Tag union count else code.NotJudged count) ≡ tag_name_of (Some (head_entry g i union s))
tag_head union g i s names regions sound own count same of_regions counted is all =
    let own_g = own_tables g i union s in
    ap (λ (b : Bool). if b then code.Tag union count else code.NotJudged count)
    (all
    ∙ ap (λ b. b && own) (clean_none regions (region_parameters s).1 of_regions)
    ∙ ap (λ b. is_clean (region_parameters s).1 && b)
    (is ∙ ap (λ fs. is_clean (fs ++ repeated [] s.members)) (heads_alike union own_g i names (region_parameters s).0 same s.members))
    ∙ sym (clean_of_both (region_parameters s).1 (head_faults (scoped own_g i (region_parameters s).0) union s.members ++ repeated [] s.members))
    ∙ ap is_clean (sym (append_assoc (region_parameters s).1 (head_faults (scoped own_g i (region_parameters s).0) union s.members) (repeated [] s.members))))
    ∙ ap (λ (n : ℕ). if is_clean ((region_parameters s).1 ++ head_faults (scoped own_g i (region_parameters s).0) union s.members ++ repeated [] s.members)
    then code.Tag union n else code.NotJudged n) counted
