-- Regions are found alike by names that mean the same.
use Rattle.std.proofs.Common.{◌≡◌, ℕ, Bool, true, false, List, [], ◌∷◌, refl, ap, ◌∙◌}
use Rattle.std.specs.Prelude.{None, Option, Some}
use Rattle.cyc_tree.specs.Tree.{TypeName}
use Rattle.source_typing.specs.Tables.{Tables}
use Rattle.source_typing.specs.Written.{RegionNamed, Spot, all_found, find_region, found_before, found_by, found_named, spots_of, written, written_with}
use Rattle.cyc_tree.specs.Tree as tree

module _ (a b : List RegionNamed) (e : (x : List ℕ) → find_region a x ≡ find_region b x) where
  found_alike : (r : Option tree.RegionName) (p : Bool) → found_by a r p ≡ found_by b r p
  found_alike None p = refl
  found_alike (Some (tree.Heap at)) p = refl
  found_alike (Some (tree.Unique at)) true = refl
  found_alike (Some (tree.Unique at)) false = refl
  found_alike (Some (tree.Named n)) p = ap (λ o. found_named n.at o) (e n.text)

  pub all_alike : (ss : List Spot) → all_found a ss ≡ all_found b ss
  all_alike [] = refl
  all_alike (s ∷ ss) =
      ap (λ f. found_before f (all_found a ss)) (found_alike s.written s.of_pointer)
      ∙ ap (λ fs. found_before (found_by b s.written s.of_pointer) fs) (all_alike ss)

  pub written_alike : (g : Tables) (t : TypeName) → written g a t ≡ written g b t
  written_alike g t = ap (written_with g t) (all_alike (spots_of g t))
