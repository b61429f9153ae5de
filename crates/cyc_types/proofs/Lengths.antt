-- Regions are the same where there are as many and each is the same.
use Rattle.std.proofs.Common.{◌≡◌, ℕ, false, List, [], ◌∷◌, length, refl, ap, ◌∙◌, arith, suc}
use Rattle.std.proofs.Math.Bool.{and-false}
use Rattle.std.specs.List.{list_all, zip}
use Rattle.std.specs.Prelude.{◌&&◌}
use Rattle.source_typing.specs.Regions.{same_id}
use Rattle.source_typing.specs.Types.{same_ids}
use Rattle.cyc_types.specs.Regions.{ids_agree, region_of, regions_of}
use Rattle.cyc_types.specs.declared.region.RegionId.{RegionId}

pub same_lengths : (rs qs : List RegionId) → length rs ≡ length qs → list_all ids_agree (zip rs qs) ≡ same_ids (regions_of rs) (regions_of qs)
same_lengths [] [] h = refl
same_lengths [] (q ∷ qs) h = grind (arith, h)
same_lengths (r ∷ rs) [] h = grind (arith, h)
same_lengths (r ∷ rs) (q ∷ qs) h = ap (λ b. same_id (region_of r) (region_of q) && b) (same_lengths rs qs (omega (arith, h)))

pub other_lengths : (rs qs : List RegionId) → (length rs ≡ length qs → ⊥) → same_ids (regions_of rs) (regions_of qs) ≡ false
other_lengths [] [] h = absurd (h refl)
other_lengths [] (q ∷ qs) h = refl
other_lengths (r ∷ rs) [] h = refl
other_lengths (r ∷ rs) (q ∷ qs) h =
    ap (λ b. same_id (region_of r) (region_of q) && b) (other_lengths rs qs (λ e. h (ap suc e)))
    ∙ and-false (same_id (region_of r) (region_of q))
