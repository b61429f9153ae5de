-- A global without fault has as many bytes by the rules as by its meaning, where the rules lay out the structs of the program.
use Rattle.std.proofs.Common.{◌≡◌, ℕ, suc, ◌+◌, ◌*◌, Bool, true, false, max, Option, Some, None, List, [], ◌∷◌, refl, sym, ap, ◌∙◌}
use Rattle.std.specs.Prelude.{bytes_eq, if◌then◌else◌}
use Rattle.cyc_tree.specs.Tree as tree
use Rattle.cyc_tree.specs.Tree.{Item}
use Rattle.source_lowering.specs.Layouts.{extent_of}
use Rattle.source_meaning.specs.Programs.{global_shape}
use Rattle.source_meaning.specs.Shapes.{ArrayShape, Layout, Part, Shape, StructShape, UnionShape, parts_of, settled, written}
use Rattle.source_meaning.specs.Sizes.{Extent, extent_by, laid_out, no_extent, rounded_up, struct_extent, union_extent}
use Rattle.source_meaning.specs.Steps.{World}
use Rattle.source_typing.specs.Extents.{layouts_of, size_by, size_of, variable_size}
use Rattle.source_typing.specs.Functions.{function_faults}
use Rattle.source_typing.specs.Globals.{count_of, global_faults, global_size, global_type}
use Rattle.source_typing.specs.Programs.{items_from}
use Rattle.source_typing.specs.Scope.{Env, at_item}
use Rattle.source_typing.specs.Tables.{Tables}
use Rattle.source_typing.proofs.Inversion.{none_of_both}
use Rattle.source_typing.specs.Types.{StaticType, shape_of}
use Rattle.accepted_proof.proofs.Globals.{GlobalGood, counted_shape, global_good, shape_here, size_by_entry}
use Rattle.accepted_proof.proofs.good.Types.{KnowsTags}
use Rattle.accepted_proof.proofs.lowered.StructSizes.{union_alike}

abbrev pub IsSized : World → Tables → ℕ → Item → Type 0
IsSized w g i (tree.StructItem s) = Unit {0}
IsSized w g i (tree.UnionItem s) = Unit {0}
IsSized w g i (tree.GlobalItem x) = ((extent_of w (global_shape x.initial (settled (written x.of)))).size ≡ global_size (at_item false g i) x)
IsSized w g i (tree.FunctionItem f) = Unit {0}

abbrev pub AreSized : World → Tables → ℕ → List Item → Type 0
AreSized w g i [] = Unit {0}
AreSized w g i (x ∷ is) = IsSized w g i x × AreSized w g (suc i) is

-- unions that have the same members, in whatever order
abbrev pub SameUnions : (unions others : List Layout) → Type 0
SameUnions ls ms = (tag : List ℕ) → parts_of ls tag ≡ parts_of ms tag

-- what is measured alike by structs and unions is so in all shapes
shape_same : (f h c d : List ℕ → Extent) (s : Shape) → ((tag : List ℕ) → f tag ≡ h tag) → ((tag : List ℕ) → c tag ≡ d tag)
    → extent_by f c s ≡ extent_by h d s
shape_same f h c d (StructShape tag) a b = a tag
shape_same f h c d (UnionShape tag) a b = b tag
shape_same f h c d (ArrayShape n s) a b =
    ap (λ (e : Extent). record { size = n * e.size; align = e.align }) (shape_same f h c d s a b)
shape_same f h c d _ a b = refl

laid_same : (e d : Shape → Extent) (so_far : Extent) (ps : List Part) → ((s : Shape) → e s ≡ d s) → laid_out e so_far ps ≡ laid_out d so_far ps
laid_same e d so_far [] h = refl
laid_same e d so_far (p ∷ ps) h =
    ap (λ (x : Extent). laid_out e (record { size = rounded_up so_far.size x.align + x.size; align = max so_far.align x.align }) ps) (h p.shape)
    ∙ laid_same e d (record { size = rounded_up so_far.size (d p.shape).align + (d p.shape).size; align = max so_far.align (d p.shape).align }) ps h

structs_same : (ls ms structs : List Layout) (tag : List ℕ) → SameUnions ls ms → struct_extent ls structs tag ≡ struct_extent ms structs tag
structs_same ls ms [] tag k = refl
structs_same ls ms (l ∷ structs) tag k = by (bytes_eq l.tag tag) (λ x. structs_same ls ms structs x k)
  where
    by : (b : Bool) → ((x : List ℕ) → struct_extent ls structs x ≡ struct_extent ms structs x)
        → (if b then laid_out (extent_by (struct_extent ls structs) (union_extent ls)) (no_extent tag) l.parts else struct_extent ls structs tag)
        ≡ (if b then laid_out (extent_by (struct_extent ms structs) (union_extent ms)) (no_extent tag) l.parts else struct_extent ms structs tag)
    by true others =
        laid_same (extent_by (struct_extent ls structs) (union_extent ls)) (extent_by (struct_extent ms structs) (union_extent ms)) (no_extent tag) l.parts
        (λ s. shape_same (struct_extent ls structs) (struct_extent ms structs) (union_extent ls) (union_extent ms) s others
        (λ x. union_alike ls ms x (k x)))
    by false others = others tag

pub size_same : (structs ls ms : List Layout) (t : StaticType) → SameUnions ls ms → size_by structs ls t ≡ size_by structs ms t
size_same structs ls ms t k =
    ap (λ (e : Extent). e.size) (shape_same (struct_extent ls structs) (struct_extent ms structs) (union_extent ls) (union_extent ms) (shape_of t)
    (λ x. structs_same ls ms structs x k) (λ x. union_alike ls ms x (k x)))

module _ (w : World) (g : Tables) (structs : layouts_of false g ≡ w.structs) (unions : SameUnions (layouts_of true g) w.unions) where
  -- an object, or an array of so many
  pub object_sized : (t : StaticType) → (extent_of w (shape_of t)).size ≡ size_of g t
  object_sized t =
      sym (ap (λ (ls : List Layout). size_by ls (layouts_of true g) t) structs ∙ size_same w.structs (layouts_of true g) w.unions t unions)

  counted_sized : (o : Option ℕ) (t : StaticType) → (extent_of w (counted_shape o (shape_of t))).size ≡ variable_size g o t
  counted_sized None t = object_sized t
  counted_sized (Some n) t = ap (λ (z : ℕ). n * z) (object_sized t)

  global_sized : (i : ℕ) (x : tree.Global) → GlobalGood g i x
      → (extent_of w (global_shape x.initial (settled (written x.of)))).size ≡ global_size (at_item false g i) x
  global_sized i x h =
      let s : Env = at_item false g i in
      ap (λ (z : Shape). (extent_of w z).size) (shape_here g i x h)
      ∙ (counted_sized (count_of x.initial) h.type
      ∙ sym (size_by_entry s x h.type (global_faults s x) (count_of x.initial) (global_type s x) h.entry))

  pub globals_sized : (i : ℕ) (is : List Item) → KnowsTags g → items_from false g i is ≡ []
      → AreSized w g i is
  globals_sized i [] tags p = tt
  globals_sized i (tree.StructItem s ∷ is) tags p = (tt, globals_sized (suc i) is tags p)
  globals_sized i (tree.UnionItem s ∷ is) tags p = (tt, globals_sized (suc i) is tags p)
  globals_sized i (tree.GlobalItem x ∷ is) tags p =
      let d = none_of_both (global_faults (at_item false g i) x) (items_from false g (suc i) is) p in
      (global_sized i x (global_good g i x tags d.0), globals_sized (suc i) is tags d.1)
  globals_sized i (tree.FunctionItem x ∷ is) tags p =
      let d = none_of_both (function_faults false g i x) (items_from false g (suc i) is) p in
      (tt, globals_sized (suc i) is tags d.1)
