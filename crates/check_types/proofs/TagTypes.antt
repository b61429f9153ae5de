-- Types of structs and unions, and their tags.
use Rattle.std.proofs.Common.{◌≡◌, ℕ, Bool, true, false, List, [], ◌∷◌, ◌++◌, map, refl, sym, ap, ◌∙◌}
use Rattle.std.specs.Prelude.{None, Option, Some, if◌then◌else◌, is_none, replicate, ◌||◌}
use Rattle.cyc_tree.specs.Tree.{Name, TypeName}
use Rattle.source_typing.specs.Faults.{type_rule}
use Rattle.source_typing.specs.Tables.{Entry, OfBuiltin, OfFunction, OfOther, OfTag, OfValue, Tables, as_tag, find}
use Rattle.source_typing.specs.Types.{same_bool}
use Rattle.source_typing.specs.Verdicts.{Of, refuse}
use Rattle.source_typing.specs.Written.{
  Found,
  RegionNamed,
  Spot,
  all_found,
  any_missing,
  argument_spots,
  base_of,
  base_spots,
  if_sound,
  of_kind,
  regions_of_tag,
  spot,
  spots_of,
  tag_of,
  written,
  written_on,
  written_with,
}
use Rattle.check_faults.specs.Verdicts.{Is, shortened}
use Rattle.check_types.proofs.PlainTypes.{tag_is_base}
use Rattle.check_types.specs.Arguments.{spots_by, written_arguments}
use Rattle.check_types.specs.Tagged.{
  IsNamed,
  TagIs,
  is_union_base,
  named_as,
  regions_named,
  tag_base,
  tag_name_of,
  tagged_in,
  tagged_spots,
  type_tag,
}
use Rattle.check_types.specs.declared.tagged.TagName.{TagName}
use Rattle.check_types.specs.declared.tagged.TagName.TheVariants as code
use Rattle.cyc_tree.specs.Tree as tree
use Rattle.source_typing.specs.Faults as rules

-- ---- tags

pub named_by : (e : Option Entry) (union : Bool) (at : ℕ) → tag_of e union at ≡ named_as union (tag_name_of e) at
named_by None union at = refl
named_by (Some (OfTag t)) union at = by t.sound (same_bool t.is_union union) refl
  where
    by : (s c : Bool) → same_bool t.is_union union ≡ c
        → if_sound s (of_kind c t at) ≡ named_as union (if s then code.Tag t.is_union t.regions else code.NotJudged t.regions) at
    by true true e = ap (λ (c : Bool). if c then Of t.regions else refuse type_rule at) (sym e)
    by true false e = ap (λ (c : Bool). if c then Of t.regions else refuse type_rule at) (sym e)
    by false c e = refl
named_by (Some (OfValue w)) union at = refl
named_by (Some (OfFunction s)) union at = refl
named_by (Some (OfBuiltin n)) union at = refl
named_by (Some OfOther) union at = refl

-- how many region parameters a name's tag has
pub regions_by : (e : Option Entry) → regions_of_tag (as_tag e) ≡ regions_named (tag_name_of e)
regions_by None = refl
regions_by (Some (OfTag t)) = by t.sound
  where
    by : (s : Bool) → t.regions ≡ regions_named (if s then code.Tag t.is_union t.regions else code.NotJudged t.regions)
    by true = refl
    by false = refl
regions_by (Some (OfValue w)) = refl
regions_by (Some (OfFunction s)) = refl
regions_by (Some (OfBuiltin n)) = refl
regions_by (Some OfOther) = refl

-- a name that is one of this kind
pub named_of : (union : Bool) (n : TagName) (at m : ℕ) → Is m ≡ shortened (named_as union n at) → (named_as union n at ≡ Of m) × (m ≡ regions_named n)
named_of union (code.Tag u k) at m h = by (same_bool u union) h
  where
    by : (c : Bool) → Is m ≡ shortened (if c then Of k else refuse type_rule at) → ((if c then Of k else refuse type_rule at) ≡ Of m) × (m ≡ k)
    by true h = let same : m ≡ k = cc in (ap Of (sym same), same)
    by false h = absurd cc
named_of union code.NoName at m h = absurd cc
named_of union (code.NotJudged k) at m h = absurd cc
named_of union code.Other at m h = absurd cc

-- ---- a type

with_found : (g : Tables) (t : TypeName) (x : List Found × List rules.Fault) → written_with g t x ≡ written_on t x.0 x.1 (base_of g t.base)
with_found g t (fs, bad) = refl

base_by : (g : Tables) (union : Bool) (x : Name) (rs : List tree.RegionName) → base_of g (tag_base union x rs) ≡ tag_of (find g x.text) union x.at
base_by g true x rs = refl
base_by g false x rs = refl

spots_by_tag : (g : Tables) (union : Bool) (x : Name) (rs : List tree.RegionName) → base_spots g (tag_base union x rs) ≡ argument_spots g x rs
spots_by_tag g true x rs = refl
spots_by_tag g false x rs = refl

module _ (g : Tables) (t : TypeName) (x : Name) (n : TagName) (base : t.base ≡ tag_base (is_union_base t.base) x (written_arguments t.base))
    (named : IsNamed g x.text n) where
  abbrev union : Bool
  union = is_union_base t.base

  tag_is : base_of g t.base ≡ named_as union n x.at
  tag_is =
      ap (base_of g) base ∙ base_by g union x (written_arguments t.base) ∙ named_by (find g x.text) union x.at
      ∙ ap (λ n. named_as union n x.at) named.is

  arguments_are : (rs : List tree.RegionName) → argument_spots g x rs ≡ spots_by (regions_named n) rs
  arguments_are [] = ap (λ m. replicate m (spot false None)) (regions_by (find g x.text) ∙ ap regions_named named.is)
  arguments_are (r ∷ rs) = refl

  pub spots_are_by : spots_of g t ≡ tagged_spots (regions_named n) t
  spots_are_by =
      ap (λ b. base_spots g b ++ map (λ q. spot true q.region) t.pointers) base
      ∙ ap (λ ss. ss ++ map (λ q. spot true q.region) t.pointers)
      (spots_by_tag g union x (written_arguments t.base) ∙ arguments_are (written_arguments t.base))

  pub tagged_with : (y : List Found × List rules.Fault) → written_on t y.0 y.1 (named_as union n x.at) ≡ written_with g t y
  tagged_with y = ap (written_on t y.0 y.1) (sym tag_is) ∙ sym (with_found g t y)

pub tagged_written : (g : Tables) (names : List RegionNamed) (t : TypeName) (x : Name) (n : TagName)
    → type_tag t ≡ Some x → TagIs g t n → tagged_in names t x n ≡ written g names t
tagged_written g names t x n h tag =
    let base = tag_is_base t x h in
    tagged_with g t x n base (tag x h) (all_found names (tagged_spots (regions_named n) t))
    ∙ ap (λ ss. written_with g t (all_found names ss)) (sym (spots_are_by g t x n base (tag x h)))

-- ---- missing regions

pub tagged_misses : (g : Tables) (t : TypeName) (x : Name) (n : TagName) → type_tag t ≡ Some x → TagIs g t n
    → any_missing (tagged_spots (regions_named n) t) ≡ any_missing (spots_of g t)
tagged_misses g t x n h tag = ap any_missing (sym (spots_are_by g t x n (tag_is_base t x h) (tag x h)))

pub missing_both : (ss ts : List Spot) → (any_missing ss || any_missing ts) ≡ any_missing (ss ++ ts)
missing_both [] ts = refl
missing_both (s ∷ ss) ts = by (is_none s.written) (missing_both ss ts)
  where
    by : (b : Bool) → (any_missing ss || any_missing ts) ≡ any_missing (ss ++ ts) → ((b || any_missing ss) || any_missing ts) ≡ (b || any_missing (ss ++ ts))
    by true h = refl
    by false h = h
