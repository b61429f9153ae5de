-- Types of structs and unions by what was read of their region arguments and pointers.
use Rattle.std.proofs.Common.{◌≡◌, ℕ, Bool, true, false, List, [], ◌∷◌, ◌++◌, length, map, refl, sym, ap, ◌∙◌}
use Rattle.std.specs.Prelude.{None, Option, Some, if◌then◌else◌, unwrap_or}
use Rattle.std.proofs.lemmas.List.{append_assoc}
use Rattle.cyc_tree.specs.Tree.{Name, TypeName}
use Rattle.cyc_types.specs.declared.region.RegionId.{RegionId}
use Rattle.source_typing.specs.Faults.{earliest, sooner_of, type_rule}
use Rattle.source_typing.specs.Regions.{Region}
use Rattle.source_typing.specs.Types.{PartialType, same_bool}
use Rattle.source_typing.specs.Verdicts.{Faulty, Of, Verdict, refuse}
use Rattle.source_typing.specs.Written.{
  Found,
  as_region,
  built,
  count_fits,
  counted_type,
  pointers_to,
  type_built,
  with_arguments,
  written_on,
}
use Rattle.check_faults.proofs.Shortened.{shortened_unless}
use Rattle.check_faults.specs.Faults.{faults_of, first_of}
use Rattle.check_faults.specs.Verdicts.{Is, Wrong, short_wrong, shortened}
use Rattle.check_faults.specs.declared.fault.Fault as code_fault
use Rattle.check_types.proofs.Places.{counted_spots}
use Rattle.check_types.proofs.TagTypes.{named_of}
use Rattle.check_types.specs.Arguments.{count_meets, spots_by, written_arguments}
use Rattle.check_types.specs.Reading.{led_by}
use Rattle.check_types.specs.Tagged.{IsRead, if_counted, is_union_base, named_as, regions_named, tag_base, tag_type}
use Rattle.check_types.specs.Written.{partial_regions}
use Rattle.check_types.specs.declared.layer.WrittenLayer.{WrittenLayer}
use Rattle.check_types.specs.declared.tagged.TagName.{TagName}
use Rattle.check_types.specs.declared.tagged.TagName.TheVariants as code
use Rattle.cyc_tree.specs.Tree as tree
use Rattle.source_typing.specs.Faults as rules

-- ---- the arguments of a struct or union

pub with_all : (make : List (Option Region) → PartialType) (before of_base : List Found) (ps : List tree.Pointer) (others : List Found)
    → with_arguments (length of_base) make before ps (of_base ++ others) ≡ pointers_to ps others (Some (make (map as_region (before ++ of_base))))
with_all make before [] ps others = ap (λ fs. pointers_to ps others (Some (make (map as_region fs)))) (sym (all before))
  where
    all : (fs : List Found) → fs ++ [] ≡ fs
    all [] = refl
    all (f ∷ fs) = ap (λ gs. f ∷ gs) (all fs)
with_all make before (f ∷ of_base) ps others =
    with_all make (before ++ f ∷ []) of_base ps others
    ∙ ap (λ fs. pointers_to ps others (Some (make (map as_region fs)))) (append_assoc before (f ∷ []) of_base)

counted_as : (union : Bool) (x : Name) (rs : List tree.RegionName) (n : ℕ) → count_fits (tag_base union x rs) n ≡ count_meets rs n
counted_as true x [] n = refl
counted_as true x (r ∷ rs) n = refl
counted_as false x [] n = refl
counted_as false x (r ∷ rs) n = refl

built_as : (union : Bool) (x : Name) (rs : List tree.RegionName) (n : ℕ) (ps : List tree.Pointer) (fs : List Found)
    → built (tag_base union x rs) n ps fs ≡ with_arguments n (tag_type union x.text) [] ps fs
built_as true x rs n ps fs = refl
built_as false x rs n ps fs = refl

-- ---- by what is answered of the tag

-- the faults of a tag and of the regions
wrong_first : {A : Type 0} (f : rules.Fault) (o : Option rules.Fault) → short_wrong {A = A} (sooner_of f o) ≡ Wrong (unwrap_or (sooner_of f o) f)
wrong_first f None = refl
wrong_first f (Some g) = refl

faulty_first : (t : TypeName) (fs : List Found) (bad : List rules.Fault) (e f : rules.Fault) → Wrong f ≡ shortened (let v : Verdict ℕ = Faulty e [] in v)
    → short_wrong (first_of (Some f) (earliest bad)) ≡ shortened (written_on t fs bad (Faulty e []))
faulty_first t fs bad e f h = let same : f ≡ e = cc in ap (λ y. short_wrong (sooner_of y (earliest bad))) same ∙ wrong_first e (earliest bad)

pub tagged_wrong : (t : TypeName) (at : ℕ) (fs : List Found) (bad : List rules.Fault) (union : Bool) (n : TagName) (f : rules.Fault)
    → Wrong f ≡ shortened (named_as union n at) → short_wrong (first_of (Some f) (earliest bad)) ≡ shortened (written_on t fs bad (named_as union n at))
tagged_wrong t at fs bad union (code.Tag u k) f h = by (same_bool u union) h
  where
    by : (c : Bool) → Wrong f ≡ shortened (if c then Of k else refuse type_rule at)
        → short_wrong (first_of (Some f) (earliest bad)) ≡ shortened (written_on t fs bad (if c then Of k else refuse type_rule at))
    by true h = absurd cc
    by false h = faulty_first t fs bad _ f h
tagged_wrong t at fs bad union code.NoName f h = faulty_first t fs bad _ f h
tagged_wrong t at fs bad union (code.NotJudged k) f h = absurd cc
tagged_wrong t at fs bad union code.Other f h = faulty_first t fs bad _ f h

module _ (t : TypeName) (x : Name) (n : TagName) (m : ℕ) (y : List Found × List rules.Fault) (arguments : List (Option RegionId))
    (o : Option (List WrittenLayer)) (bad : Option code_fault.Fault) (base : t.base ≡ tag_base (is_union_base t.base) x (written_arguments t.base))
    (read : IsRead t (regions_named n) y arguments o bad) (is : Is m ≡ shortened (named_as (is_union_base t.base) n x.at)) where
  abbrev rs : List tree.RegionName
  rs = written_arguments t.base

  abbrev union : Bool
  union = is_union_base t.base

  abbrev b : PartialType
  b = tag_type union x.text (partial_regions arguments)

  as_built : count_meets rs m ≡ true → built t.base m t.pointers y.0 ≡ led_by o b
  as_built h =
      let many : m ≡ length read.of_base =
      sym (counted_spots m rs h) ∙ ap (λ k. length (spots_by k rs)) (named_of union n x.at m is).1 ∙ sym read.count in
      ap (λ c. built c m t.pointers y.0) base
      ∙ built_as union x rs m t.pointers y.0
      ∙ ap (λ fs. with_arguments m (tag_type union x.text) [] t.pointers fs) read.found
      ∙ ap (λ k. with_arguments k (tag_type union x.text) [] t.pointers (read.of_base ++ read.of_pointers)) many
      ∙ with_all (tag_type union x.text) [] read.of_base t.pointers read.of_pointers
      ∙ ap (λ qs. pointers_to t.pointers read.of_pointers (Some (tag_type union x.text qs))) (sym read.regions)
      ∙ read.pointers b

  pub region_right : bad ≡ None → shortened (if_counted t.at (count_meets rs m) (type_built t.at (led_by o b)))
      ≡ shortened (written_on t y.0 y.1 (named_as union n x.at))
  region_right e =
      by (count_meets rs m) refl
      ∙ ap (λ c. shortened (counted_type t y.0 m c)) (sym (ap (λ c. count_fits c m) base ∙ counted_as union x rs m))
      ∙ sym (ap (λ v. shortened (written_on t y.0 y.1 v)) (named_of union n x.at m is).0
      ∙ shortened_unless y.1 (counted_type t y.0 m (count_fits t.base m)) (sym read.fault ∙ ap faults_of e))
    where
      by : (c : Bool) → count_meets rs m ≡ c
          → shortened (if_counted t.at c (type_built t.at (led_by o b))) ≡ shortened (counted_type t y.0 m c)
      by true h = ap (λ o. shortened (type_built t.at o)) (sym (as_built h))
      by false h = refl
