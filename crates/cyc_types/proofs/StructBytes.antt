-- Whether a struct of members has too many bytes, by what is known of the structs and unions that they are.
use Rattle.std.proofs.Common.{◌≡◌, Bool, true, false, List, [], ◌∷◌, refl, sym, ap, ◌∙◌}
use Rattle.std.proofs.lemmas.Slice.Eq.{bytes_eq-Decides}
use Rattle.std.specs.Prelude.{None, Option, Some, if◌then◌else◌, is_some}
use Rattle.cyc_tree.specs.Tree.{Structure}
use Rattle.source_meaning.specs.Sizes.{Extent, extent_by, laid_out, no_extent, struct_extent, union_extent}
use Rattle.source_typing.specs.Extents.{fits_bytes, known_shape, layouts_of, part_shapes}
use Rattle.source_typing.specs.Tables.{Part}
use Rattle.source_typing.specs.Tags.{struct_bytes}
use Rattle.source_typing.specs.Types.{StaticType}
use Rattle.cyc_types.specs.InOrder.{are_known}
use Rattle.cyc_types.specs.Known.{Entry, entries_of}
use Rattle.cyc_types.specs.Measures.{bytes_and, limited, part_extent, quick_measure, struct_measure}
use Rattle.cyc_types.proofs.InLayouts.{extent_known}
use Rattle.cyc_types.proofs.Measured.{EachExtent, laid_as}

limited_fits : (e : Extent) → is_some (limited e) ≡ fits_bytes e.size
limited_fits e = by (fits_bytes e.size)
  where
    by : (b : Bool) → is_some (if b then Some e else None) ≡ b
    by true = refl
    by false = refl

module _ (all : List Entry) (known : are_known [] all ≡ true) where
  each_known : (ps : List Part)
      → EachExtent
      (extent_by (struct_extent (layouts_of true (entries_of all)) (layouts_of false (entries_of all))) (union_extent (layouts_of true (entries_of all))))
      (quick_measure all) ps
  each_known [] = tt
  each_known (p ∷ ps) = (by p.type, each_known ps)
    where
      by : (o : Option StaticType) → limited
          (extent_by (struct_extent (layouts_of true (entries_of all)) (layouts_of false (entries_of all))) (union_extent (layouts_of true (entries_of all)))
          (known_shape o)) ≡ part_extent (quick_measure all) o
      by None = refl
      by (Some t) = extent_known all known t

  pub struct_fits : (s : Structure) (ps : List Part) → is_some (struct_measure all ps) ≡ fits_bytes (struct_bytes (entries_of all) s ps)
  struct_fits s ps =
      let unions = layouts_of true (entries_of all) in
      let structs = layouts_of false (entries_of all) in
      let laid = laid_out (extent_by (struct_extent unions structs) (union_extent unions)) (no_extent s.tag.text) (part_shapes ps) in
      ap is_some (sym (laid_as (extent_by (struct_extent unions structs) (union_extent unions)) (quick_measure all) ps (bytes_and 0 1) true refl
      (each_known ps)))
      ∙ limited_fits laid
      ∙ sym (ap (λ b. fits_bytes (if b then laid else struct_extent unions structs s.tag.text).size) ((bytes_eq-Decides s.tag.text s.tag.text).1 refl))
