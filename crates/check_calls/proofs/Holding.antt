-- What holds of all regions of a type.
use Rattle.std.specs.Prelude.{◌&&◌, slice_get}
use Rattle.std.specs.List.{list_all}
use Rattle.std.proofs.Common.{◌≡◌, ℕ, zero, suc, Bool, true, false, Option, Some, None, List, [], ◌∷◌, refl, sym, ◌∙◌, ap, ◌<◌, ◌≤◌, get_or, length}
use Rattle.std.proofs.lemmas.Option.{slice_get-get_or, slice_get_past}
use Rattle.cyc_types.specs.Layers.{pointed, pointer_to}
use Rattle.cyc_types.specs.Regions.{region_of, regions_of}
use Rattle.cyc_types.specs.declared.layer.Layer.{Layer}
use Rattle.cyc_types.specs.declared.layer.Layer.TheVariants as pointer
use Rattle.cyc_types.specs.declared.region.RegionId.{RegionId}
use Rattle.source_typing.specs.Fixing.{all_regions, each_region, is_known}
use Rattle.source_typing.specs.Regions.{Level, Region}
use Rattle.source_typing.specs.Types.{StaticType}
use Rattle.check_calls.specs.Fixings.{fixings_of, which_are_known}
use Rattle.check_calls.specs.Held.{layer_holds}
use Rattle.check_calls.specs.declared.fixing.Fixing as code

pub each_is : (holds : Region → Bool) (rs : List RegionId) → list_all (λ r. holds (region_of r)) rs ≡ each_region holds (regions_of rs)
each_is holds [] = refl
each_is holds (r ∷ rs) = ap (λ b. holds (region_of r) && b) (each_is holds rs)

under_one : (holds : Region → Bool) (l : Layer) (t : StaticType) → all_regions holds (pointer_to l t) ≡ layer_holds holds l && all_regions holds t
under_one holds (pointer.Thin n r) t = refl
under_one holds (pointer.Fat r) t = refl
under_one holds (pointer.Unique n) t = refl

turned : (a b c : Bool) → a && (b && c) ≡ (b && a) && c
turned true true c = refl
turned true false c = refl
turned false true c = refl
turned false false c = refl

pub under_all : (holds : Region → Bool) (ls : List Layer) (t : StaticType)
    → all_regions holds (pointed t ls) ≡ list_all (layer_holds holds) ls && all_regions holds t
under_all holds [] t = refl
under_all holds (l ∷ ls) t =
    under_all holds ls (pointer_to l t)
    ∙ ap (λ b. list_all (layer_holds holds) ls && b) (under_one holds l t)
    ∙ turned (list_all (layer_holds holds) ls) (layer_holds holds l) (all_regions holds t)

known_at : (fs : List (Option code.Fixing)) (k : ℕ) (f : Option code.Fixing) → slice_get fs k ≡ Some f
    → is_known (which_are_known (fixings_of (f ∷ []))) (Level 0) ≡ is_known (which_are_known (fixings_of fs)) (Level k)
known_at [] k f e = absurd cc
known_at (g ∷ fs) zero f e = ap (λ o. at_first o) (sym e)
  where
    at_first : Option (Option code.Fixing) → Bool
    at_first None = false
    at_first (Some x) = is_known (which_are_known (fixings_of (x ∷ []))) (Level 0)
known_at (g ∷ fs) (suc k) f e = known_at fs k f e

unknown_past : (fs : List (Option code.Fixing)) (k : ℕ) → slice_get fs k ≡ None → false ≡ is_known (which_are_known (fixings_of fs)) (Level k)
unknown_past [] k e = refl
unknown_past (g ∷ fs) zero e = absurd cc
unknown_past (g ∷ fs) (suc k) e = unknown_past fs k e

pub known_within : (fs : List (Option code.Fixing)) (k : ℕ) → k < length fs
    → is_known (which_are_known (fixings_of (get_or fs k None ∷ []))) (Level 0) ≡ is_known (which_are_known (fixings_of fs)) (Level k)
known_within fs k h = known_at fs k (get_or fs k None) (slice_get-get_or fs k None h)

pub unknown_beyond : (fs : List (Option code.Fixing)) (k : ℕ) → length fs ≤ k → false ≡ is_known (which_are_known (fixings_of fs)) (Level k)
unknown_beyond fs k h = unknown_past fs k (slice_get_past fs k h)

-- a type by its pointers and what is under them
module _ (holds : Region → Bool) (ls given : List Layer) (t : StaticType) (p b : Bool) (known : p ≡ list_all (layer_holds holds) given) (same : given ≡ ls)
    (under : b ≡ all_regions holds t) where
  both_known : p && b ≡ all_regions holds (pointed t ls)
  both_known =
      ap (λ x. x && b) known
      ∙ ap (λ l. list_all (layer_holds holds) l && b) same
      ∙ ap (λ x. list_all (layer_holds holds) ls && x) under
      ∙ sym (under_all holds ls t)

  pub pointers_known : p ≡ true → b ≡ all_regions holds (pointed t ls)
  pointers_known e = sym (ap (λ x. x && b) e) ∙ both_known

  pub pointers_unknown : p ≡ false → p ≡ all_regions holds (pointed t ls)
  pointers_unknown e = e ∙ sym (ap (λ x. x && b) e) ∙ both_known
