-- The cells that are known of structs in order are those of the rules.
use Rattle.std.proofs.Common.{◌≡◌, true≢false, ℕ, Bool, true, false, List, [], ◌∷◌, ◌++◌, refl, sym, ap, subst, ◌∙◌, arith, cond}
use Rattle.std.proofs.lemmas.Bool.{and_parts}
use Rattle.std.proofs.lemmas.List.{append_assoc, append-nil}
use Rattle.std.proofs.lemmas.Slice.Eq.{bytes_eq-Decides}
use Rattle.std.specs.Prelude.{None, Option, Some, bytes_eq, if◌then◌else◌, is_none, is_some, map}
use Rattle.source_meaning.specs.Placing.{Placed, all_placed, placed_by, struct_placed}
use Rattle.source_meaning.specs.Shapes.{Layout, Shape}
use Rattle.source_meaning.specs.Sizes.{Extent, extent_by, laid_out, largest, no_extent, struct_extent, union_extent}
use Rattle.source_typing.specs.Extents.{fits_bytes, known_shape, layouts_of, layouts_onto, part_shapes}
use Rattle.source_typing.specs.Tables.{Part, each_part, if_known}
use Rattle.source_typing.specs.Types.{Char, Fat, Handle, Int, Key, Null, StaticType, Struct, Thin, Union, Unique, Unsigned, Void, same_bool, shape_of}
use Rattle.cyc_types.specs.Cells.{KindAt, cells_found, cells_in, found_cells, kept_with, kind_placed, known_cells, no_cells_of, part_cells, quick_cells, spread}
use Rattle.cyc_types.specs.Cells.{struct_cells, with_tag}
use Rattle.cyc_types.specs.InOrder.{are_known, is_known}
use Rattle.cyc_types.specs.Known.{Entry, entries_of, found, is_declared, named_by}
use Rattle.cyc_types.specs.Measures.{bytes_with, extent_in, limited, quick_measure, quick_tag, stored, struct_measure, union_bytes}
use Rattle.cyc_types.specs.Tags.{members_of}
use Rattle.cyc_types.specs.declared.tag.Known.{Known}
use Rattle.cyc_types.proofs.InLayouts.{AllUnions, DeclaredUnions, HasStructs, all_unions, declared_unions, has_unions, largest_small, layout_of, layouts_known}
use Rattle.cyc_types.proofs.InLayouts.{members, next_struct, one_more, part_measure, same_as, struct_bytes, union_fits, union_parts}
use Rattle.cyc_types.proofs.InOrder.{facts, is_nothing, same_bytes}
use Rattle.cyc_types.proofs.Measured.{if_fits, if_over}
use Rattle.cyc_types.proofs.PlacedCells.{EachPlaced, fitting, placed_as}
use Rattle.cyc_types.proofs.Spread.{not_spread, spread_more}
use Rattle.cyc_types.proofs.StillMeasured.{part_measure_still}

-- ---- no union has too many bytes

abbrev FitUnions : List Layout → Type 0
FitUnions unions = (tag : List ℕ) → fits_bytes (union_extent unions tag).size ≡ true

unions_fit : (all : List Entry) → are_known [] all ≡ true → FitUnions (layouts_of true (entries_of all))
unions_fit all known tag =
    ap (λ ps. fits_bytes (bytes_with (largest (extent_by no_extent no_extent) 0 ps)).size) (has_unions all known tag)
    ∙ by (found all tag)
  where
    within : (ps : List Part) (b : Bool) → fits_bytes (bytes_with (largest (extent_by no_extent no_extent) 0 (cond b (part_shapes ps) []))).size ≡ true
    within ps true = union_fits (largest (extent_by no_extent no_extent) 0 (part_shapes ps)) (largest_small ps 0 (omega arith))
    within ps false = refl

    by : (k : Option Known) → fits_bytes (bytes_with (largest (extent_by no_extent no_extent) 0 (union_parts k))).size ≡ true
    by None = refl
    by (Some k) = within (members_of k.tag.members.items) k.tag.is_union

-- ---- one more struct

abbrev HasCells : List Layout → List Layout → (List ℕ → List KindAt) → Type 0
HasCells unions ls of = (tag : List ℕ) → fitting (struct_extent unions ls tag) (map kind_placed (struct_placed unions ls tag)) ≡ of tag

fitting_either : (b : Bool) (x y : Extent) (ps qs : List Placed)
    → fitting (cond b x y) (map kind_placed (cond b ps qs)) ≡ cond b (fitting x (map kind_placed ps)) (fitting y (map kind_placed qs))
fitting_either true x y ps qs = refl
fitting_either false x y ps qs = refl

fitting_kept : (e : Extent) (o : Option Extent) (cs ds : List KindAt) (b : Bool) → fits_bytes e.size ≡ b → limited e ≡ o
    → (fits_bytes e.size ≡ true → cs ≡ ds) → fitting e cs ≡ kept_with o ds
fitting_kept e o cs ds true h same own =
    ap (λ b. if b then cs else []) h ∙ own h ∙ ap (λ o. kept_with o ds) (sym (if_fits e h) ∙ same)
fitting_kept e o cs ds false h same own =
    ap (λ b. if b then cs else []) h ∙ ap (λ o. kept_with o ds) (sym (if_over e h) ∙ same)

type_cells : (unions ls : List Layout) (of : List ℕ → List KindAt) → FitUnions unions → HasCells unions ls of → (t : StaticType)
    → fitting (extent_by (struct_extent unions ls) (union_extent unions) (shape_of t)) (map kind_placed (placed_by (struct_placed unions ls) (shape_of t)))
    ≡ quick_cells of t
type_cells unions ls of fit cells (Struct tag rs) = cells tag
type_cells unions ls of fit cells (Union tag rs) = ap (λ b. if b then quick_cells of (Union tag rs) else []) (fit tag)
type_cells unions ls of fit cells Int = refl
type_cells unions ls of fit cells Unsigned = refl
type_cells unions ls of fit cells Char = refl
type_cells unions ls of fit cells Void = refl
type_cells unions ls of fit cells Null = refl
type_cells unions ls of fit cells (Thin m r t) = refl
type_cells unions ls of fit cells (Fat r t) = refl
type_cells unions ls of fit cells (Unique m t) = refl
type_cells unions ls of fit cells (Handle r) = refl
type_cells unions ls of fit cells (Key r) = refl

module _ (unions ls : List Layout) (acc after : List Entry) (structs : HasStructs unions ls acc) (declared : DeclaredUnions unions acc) where
  abbrev extent : Shape → Extent
  extent = extent_by (struct_extent unions ls) (union_extent unions)

  abbrev placed : Shape → List Placed
  placed = placed_by (struct_placed unions ls)

  abbrev all : List Entry
  all = acc ++ after

  -- the cells of those so far
  abbrev so_far : List ℕ → List KindAt
  so_far = spread (known_cells all) no_cells_of acc

  part_placed : FitUnions unions → HasCells unions ls so_far → (o : Option StaticType)
      → fitting (extent (known_shape o)) (map kind_placed (placed (known_shape o))) ≡ part_cells (quick_cells so_far) o
  part_placed fit cells None = refl
  part_placed fit cells (Some t) = type_cells unions ls so_far fit cells t

  each_placed : FitUnions unions → HasCells unions ls so_far → (ps : List Part) → each_part (is_declared acc) ps ≡ true
      → EachPlaced extent placed (quick_measure all) (quick_cells so_far) ps
  each_placed fit cells [] h = tt
  each_placed fit cells (p ∷ ps) h =
      let both = and_parts (if_known (is_declared acc) p.type) (each_part (is_declared acc) ps) h in (
        part_measure unions ls acc structs declared p.type both.0 ∙ part_measure_still acc after p.type both.0,
        part_placed fit cells p.type,
        each_placed fit cells ps both.1,
      )

  of_union : (e : Entry) → e.1.tag.is_union ≡ true → is_none (found acc e.0.now) ≡ true → (tag : List ℕ) (b : Bool) → bytes_eq tag e.0.now ≡ b
      → so_far tag ≡ cond b (known_cells all so_far e.1) (so_far tag)
  of_union e h new tag true same =
      not_spread (known_cells all) no_cells_of acc tag
      (subst (λ x. found acc x ≡ None) (sym ((bytes_eq-Decides tag e.0.now).0 same)) (is_nothing (found acc e.0.now) new))
      ∙ sym (ap (λ b. cond b [] (kept_with (stored e.1) (struct_cells all so_far (members e)))) h)
  of_union e h new tag false same = refl

  next_cells : FitUnions unions → HasCells unions ls so_far → (e : Entry) (u : Bool) → e.1.tag.is_union ≡ u → is_known acc e.0.now e.1 ≡ true
      → HasCells unions (cond (same_bool false u) (layout_of e ∷ ls) ls) (with_tag e.0.now (known_cells all so_far e.1) so_far)
  next_cells fit cells e true h known tag =
      cells tag ∙ of_union e h (facts acc e.0.now e.1 known).new tag (bytes_eq tag e.0.now) refl
  next_cells fit cells e false h known tag =
      let of = facts acc e.0.now e.1 known in
      let laid = laid_out extent (no_extent tag) (part_shapes (members e)) in
      let placed_all = all_placed placed extent 0 (part_shapes (members e)) in
      let measure : limited laid ≡ stored e.1 =
      struct_bytes unions ls acc structs declared (members e) tag of.declared
      ∙ sym (same_as (stored e.1) (quick_tag acc e.1.tag) of.counted
      ∙ ap (λ b. cond b (Some (union_bytes (members e))) (struct_measure acc (members e))) h) in
      let here : fitting laid (map kind_placed placed_all) ≡ known_cells all so_far e.1 =
      fitting_kept laid (stored e.1) (map kind_placed placed_all) (struct_cells all so_far (members e)) (fits_bytes laid.size) refl measure
      (λ fits. placed_as extent placed (quick_measure all) (quick_cells so_far) (members e) (no_extent tag) fits
      (each_placed fit cells (members e) of.declared))
      ∙ sym (ap (λ b. cond b [] (kept_with (stored e.1) (struct_cells all so_far (members e)))) h) in
      fitting_either (bytes_eq e.0.now tag) laid (struct_extent unions ls tag) placed_all (struct_placed unions ls tag)
      ∙ ap (λ b. cond b (fitting laid (map kind_placed placed_all)) (fitting (struct_extent unions ls tag) (map kind_placed (struct_placed unions ls tag))))
      (same_bytes e.0.now tag)
      ∙ ap (λ cs. cond (bytes_eq tag e.0.now) cs (fitting (struct_extent unions ls tag) (map kind_placed (struct_placed unions ls tag)))) here
      ∙ ap (cond (bytes_eq tag e.0.now) (known_cells all so_far e.1)) (cells tag)

-- ---- all

module _ (unions : List Layout) (all : List Entry) (of : AllUnions unions all) (fit : FitUnions unions) where
  -- where the others are all of them, with those so far
  cells_onto : (acc es : List Entry) (ls : List Layout) → acc ++ es ≡ all → are_known acc es ≡ true
      → HasStructs unions ls acc → HasCells unions ls (spread (known_cells all) no_cells_of acc)
      → HasCells unions (layouts_onto false ls (entries_of es)) (spread (known_cells all) no_cells_of all)
  cells_onto acc [] ls whole known structs cells =
      subst (λ l. HasCells unions ls (spread (known_cells all) no_cells_of l)) (sym (append-nil acc) ∙ whole) cells
  cells_onto acc (e ∷ es) ls whole known structs cells =
      let both = and_parts (is_known acc e.0.now e.1) (are_known (acc ++ e ∷ []) es) known in
      let declared = declared_unions unions acc (e ∷ es) (subst (AllUnions unions) (sym whole) of) in
      let next_structs = subst (λ l. HasStructs unions l (acc ++ e ∷ [])) (sym (one_more false e ls))
      (next_struct unions ls acc structs declared e e.1.tag.is_union refl both.0) in
      let own : HasCells unions (cond (same_bool false e.1.tag.is_union) (layout_of e ∷ ls) ls)
      (with_tag e.0.now (known_cells all (spread (known_cells all) no_cells_of acc) e.1) (spread (known_cells all) no_cells_of acc)) =
      subst (λ l. HasCells unions ls (spread (known_cells l) no_cells_of acc)
      → HasCells unions (cond (same_bool false e.1.tag.is_union) (layout_of e ∷ ls) ls)
      (with_tag e.0.now (known_cells l (spread (known_cells l) no_cells_of acc) e.1) (spread (known_cells l) no_cells_of acc)))
      whole (λ c. next_cells unions ls acc (e ∷ es) structs declared fit c e e.1.tag.is_union refl both.0) cells in
      let next : HasCells unions (layouts_onto false ls (named_by e ∷ [])) (spread (known_cells all) no_cells_of (acc ++ e ∷ [])) =
      subst (λ l. HasCells unions l (spread (known_cells all) no_cells_of (acc ++ e ∷ []))) (sym (one_more false e ls))
      (λ tag. own tag ∙ sym (ap (λ (f : List ℕ → List KindAt). f tag) (spread_more (known_cells all) no_cells_of acc (e ∷ [])))) in
      cells_onto (acc ++ e ∷ []) es (layouts_onto false ls (named_by e ∷ [])) (append_assoc acc (e ∷ []) es ∙ whole) both.1 next_structs next

pub cells_known : (all : List Entry) → are_known [] all ≡ true → (t : StaticType)
    → fitting (extent_in (entries_of all) t) (cells_in (entries_of all) t) ≡ cells_found all t
cells_known all known t =
    let unions = layouts_of true (entries_of all) in
    let structs = layouts_of false (entries_of all) in
    type_cells unions structs (found_cells all) (unions_fit all known)
    (subst (λ ls. HasCells unions ls (found_cells all)) (layouts_known all known false)
    (cells_onto unions all (all_unions all known) (unions_fit all known) [] all [] refl known (λ tag. refl) (λ tag. refl))) t

-- the cells of a type whose bytes aren't too many
pub cells_fit : (all : List Entry) → are_known [] all ≡ true → (t : StaticType) (e : Extent)
    → Some e ≡ limited (extent_in (entries_of all) t) → cells_found all t ≡ cells_in (entries_of all) t
cells_fit all known t e h = by (fits_bytes (extent_in (entries_of all) t).size) refl
  where
    by : (b : Bool) → fits_bytes (extent_in (entries_of all) t).size ≡ b → cells_found all t ≡ cells_in (entries_of all) t
    by true f = sym (cells_known all known t) ∙ ap (λ b. if b then cells_in (entries_of all) t else []) f
    by false f = absurd (true≢false (ap is_some (h ∙ if_over (extent_in (entries_of all) t) f)))
