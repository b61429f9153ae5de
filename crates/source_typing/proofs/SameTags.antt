-- Tables with the same tags: a type and the parameters of a head are read alike by them.
use Rattle.std.proofs.Common.{◌≡◌, ℕ, Bool, true, false, Option, None, List, [], ◌∷◌, refl, ap, ◌∙◌}
use Rattle.std.specs.Prelude.{◌++◌, map, replicate}
use Rattle.cyc_tree.specs.Tree as tree
use Rattle.cyc_tree.specs.Tree.{TypeName}
use Rattle.source_typing.specs.Faults.{Fault}
use Rattle.source_typing.specs.Functions.{AllSpotted, Parameters, Variables, and_parameter, if_parameter, parameter_type, read_parameters, take_spots}
use Rattle.source_typing.specs.Tables.{Tables, Tag, find, tag_in}
use Rattle.source_typing.specs.Tags.{settled_alone}
use Rattle.source_typing.specs.Types.{PartialType}
use Rattle.source_typing.specs.Verdicts.{Verdict, after}
use Rattle.source_typing.specs.Written.{Found, RegionNamed, Spot, all_found, argument_spots, base_of, base_spots, regions_of_tag, spot, spots_of, tag_of}
use Rattle.source_typing.specs.Written.{written}
use Rattle.source_typing.specs.Written.{written_on, written_with}

-- tables in which each name in a type means the same
pub record SameTags (g h : Tables) : Type 0 where
  pub tags : (x : List ℕ) (union : Bool) (at : ℕ) → tag_of (find g x) union at ≡ tag_of (find h x) union at
  pub regions : (x : List ℕ) → tag_in g x ≡ tag_in h x

module _ (g h : Tables) (k : SameTags g h) where
  base_same : (b : tree.Base) → base_of g b ≡ base_of h b
  base_same tree.Int = refl
  base_same tree.Unsigned = refl
  base_same tree.Char = refl
  base_same tree.Void = refl
  base_same (tree.Struct tag rs) = k.tags tag.text false tag.at
  base_same (tree.Union tag rs) = k.tags tag.text true tag.at
  base_same (tree.Handle r) = refl
  base_same (tree.Key r) = refl

  arguments_same : (tag : tree.Name) (rs : List tree.RegionName) → argument_spots g tag rs ≡ argument_spots h tag rs
  arguments_same tag [] = ap (λ (o : Option Tag). replicate (regions_of_tag o) (spot false None)) (k.regions tag.text)
  arguments_same tag (r ∷ rs) = refl

  base_spots_same : (b : tree.Base) → base_spots g b ≡ base_spots h b
  base_spots_same tree.Int = refl
  base_spots_same tree.Unsigned = refl
  base_spots_same tree.Char = refl
  base_spots_same tree.Void = refl
  base_spots_same (tree.Struct tag rs) = arguments_same tag rs
  base_spots_same (tree.Union tag rs) = arguments_same tag rs
  base_spots_same (tree.Handle r) = refl
  base_spots_same (tree.Key r) = refl

  pub spots_same : (t : TypeName) → spots_of g t ≡ spots_of h t
  spots_same t = ap (λ (ss : List Spot). ss ++ map (λ (p : tree.Pointer). spot true p.region) t.pointers) (base_spots_same t.base)

  built_same : (t : TypeName) (fs : List Found × List Fault) → written_with g t fs ≡ written_with h t fs
  built_same t (fs, bad) = ap (λ (v : Verdict ℕ). written_on t fs bad v) (base_same t.base)

  pub written_same : (names : List RegionNamed) (t : TypeName) → written g names t ≡ written h names t
  written_same names t =
      ap (λ (ss : List Spot). written_with g t (all_found names ss)) (spots_same t) ∙ built_same t (all_found names (spots_of h t))

  pub parameters_same : (vs : Variables) (ms : List tree.Member) → read_parameters g vs ms ≡ read_parameters h vs ms
  parameters_same vs [] = refl
  parameters_same vs (m ∷ ms) =
      let s : AllSpotted = take_spots vs (spots_of h m.of) in
      ap (λ (ss : List Spot). and_parameter (parameter_type g m.of (take_spots vs ss)) (read_parameters g (take_spots vs ss).after_all ms))
      (spots_same m.of)
      ∙ ap (λ (v : Verdict PartialType). and_parameter (after (after v (settled_alone m.of.at)) (if_parameter m.of.at)) (read_parameters g s.after_all ms))
      (built_same m.of (s.found, s.faults))
      ∙ ap (λ (ps : Parameters). and_parameter (parameter_type h m.of s) ps) (parameters_same s.after_all ms)
