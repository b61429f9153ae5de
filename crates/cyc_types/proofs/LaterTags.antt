-- Structs and unions of which no members are known have no bytes to be counted, whichever stand behind others.
use Rattle.std.proofs.Common.{◌≡◌, ℕ, Bool, true, false, List, [], ◌∷◌, ◌++◌, refl, sym, ap, subst, ◌∙◌, max, true≢false}
use Rattle.std.proofs.lemmas.Slice.Eq.{bytes_eq-Decides}
use Rattle.std.specs.Prelude.{bytes_eq, if◌then◌else◌, ◌*◌, ◌+◌}
use Rattle.std.proofs.lemmas.Bool.{or_parts}
use Rattle.cyc_tree.specs.Tree.{Structure}
use Rattle.source_meaning.proofs.Layouts.{no_parts}
use Rattle.source_meaning.specs.Shapes.{CharShape, FatShape, Layout, Shape, StructShape, UnionShape, VoidShape, has_tag, parts_of}
use Rattle.source_meaning.specs.Sizes.{Extent, extent_by, laid_out, largest, no_extent, rounded_up, struct_extent, union_extent}
use Rattle.source_typing.specs.Extents.{is_named_before, layouts_of, layouts_onto, meant_first, part_shapes}
use Rattle.source_typing.specs.Tables.{Entry, Named, OfBuiltin, OfFunction, OfOther, OfTag, OfValue, Part, Tables, Tag}
use Rattle.source_typing.specs.Tags.{struct_bytes}
use Rattle.source_typing.specs.Types.{same_bool}
use Rattle.cyc_types.specs.FirstTags.{AreEmpty, AreOwn, IsEmpty, IsOwn}
use Rattle.source_meaning.specs.Shapes as shapes

-- ---- names that are passed

abbrev after_names : List (List ℕ) → Tables → List (List ℕ)
after_names before [] = before
after_names before (n ∷ ns) = (if is_named_before before n.name then after_names before ns else after_names (n.name ∷ before) ns)

-- what follows counts after what stands before it
onto_both : (union : Bool) (so_far : List Layout) (before : List (List ℕ)) (g h : Tables)
    → layouts_onto union so_far (meant_first before (g ++ h))
    ≡ layouts_onto union (layouts_onto union so_far (meant_first before g)) (meant_first (after_names before g) h)
onto_both union so_far before [] h = refl
onto_both union so_far before (n ∷ ns) h =
    by (is_named_before before n.name) (onto_both union so_far before ns h)
    (onto_both union (layouts_onto union so_far (n ∷ [])) (n.name ∷ before) ns h)
  where
    by : (b : Bool)
        → layouts_onto union so_far (meant_first before (ns ++ h))
        ≡ layouts_onto union (layouts_onto union so_far (meant_first before ns)) (meant_first (after_names before ns) h)
        → layouts_onto union (layouts_onto union so_far (n ∷ [])) (meant_first (n.name ∷ before) (ns ++ h))
        ≡ layouts_onto union (layouts_onto union (layouts_onto union so_far (n ∷ [])) (meant_first (n.name ∷ before) ns))
        (meant_first (after_names (n.name ∷ before) ns) h)
        → layouts_onto union so_far (if b then meant_first before (ns ++ h) else n ∷ meant_first (n.name ∷ before) (ns ++ h))
        ≡ layouts_onto union (layouts_onto union so_far (if b then meant_first before ns else n ∷ meant_first (n.name ∷ before) ns))
        (meant_first (if b then after_names before ns else after_names (n.name ∷ before) ns) h)
    by true same next = same
    by false same next = next

-- ---- layouts have names that are passed

abbrev Within : List Layout → List (List ℕ) → Type 0
Within ls before = (x : List ℕ) → is_named_before before x ≡ false → has_tag ls x ≡ false

within_more : (ls : List Layout) (before : List (List ℕ)) (y : List ℕ) → Within ls before → Within ls (y ∷ before)
within_more ls before y within x h = within x (or_parts (bytes_eq y x) (is_named_before before x) h).1

within_next : (ls : List Layout) (before : List (List ℕ)) (y : List ℕ) (l : Layout) → l.tag ≡ y → Within ls before → Within (l ∷ ls) (y ∷ before)
within_next ls before y l same within x h =
    let both = or_parts (bytes_eq y x) (is_named_before before x) h in
    ap (λ z. if bytes_eq z x then true else has_tag ls x) same
    ∙ ap (λ (b : Bool). if b then true else has_tag ls x) both.0
    ∙ within x both.1

within_one : (union : Bool) (ls : List Layout) (before : List (List ℕ)) (n : Named) → IsOwn n.name n.entry → Within ls before
    → Within (layouts_onto union ls (n ∷ [])) (n.name ∷ before)
within_one union ls before n own within = by n.entry own
  where
    of : (b : Bool) (t : Tag) → same_bool union t.is_union ≡ b → t.text ≡ n.name
        → Within (layouts_onto union ls (record { name = n.name; entry = OfTag t } ∷ [])) (n.name ∷ before)
    of b t h own = kind union t.is_union
      where
        kind : (u v : Bool) → Within (layouts_onto u ls (record { name = n.name; entry = OfTag (record t { is_union = v }) } ∷ [])) (n.name ∷ before)
        kind true true = within_next ls before n.name (record { tag = t.text; parts = part_shapes t.parts }) own within
        kind true false = within_more ls before n.name within
        kind false true = within_more ls before n.name within
        kind false false = within_next ls before n.name (record { tag = t.text; parts = part_shapes t.parts }) own within

    by : (e : Entry) → IsOwn n.name e → Within (layouts_onto union ls (record { name = n.name; entry = e } ∷ [])) (n.name ∷ before)
    by (OfTag t) own = of (same_bool union t.is_union) t refl own
    by (OfValue w) own = within_more ls before n.name within
    by (OfFunction s) own = within_more ls before n.name within
    by (OfBuiltin k) own = within_more ls before n.name within
    by OfOther own = within_more ls before n.name within

within_all : (union : Bool) (ls : List Layout) (before : List (List ℕ)) (g : Tables) → AreOwn g → Within ls before
    → Within (layouts_onto union ls (meant_first before g)) (after_names before g)
within_all union ls before [] own within = within
within_all union ls before (n ∷ ns) (own, others) within =
    by (is_named_before before n.name) (within_all union ls before ns others within)
    (within_all union (layouts_onto union ls (n ∷ [])) (n.name ∷ before) ns others (within_one union ls before n own within))
  where
    by : (b : Bool)
        → Within (layouts_onto union ls (meant_first before ns)) (after_names before ns)
        → Within (layouts_onto union (layouts_onto union ls (n ∷ [])) (meant_first (n.name ∷ before) ns)) (after_names (n.name ∷ before) ns)
        → Within (layouts_onto union ls (if b then meant_first before ns else n ∷ meant_first (n.name ∷ before) ns))
        (if b then after_names before ns else after_names (n.name ∷ before) ns)
    by true same next = same
    by false same next = next

-- ---- what has no members changes nothing

record AddsNone (more ls : List Layout) : Type 0 where
  parts : (x : List ℕ) → parts_of more x ≡ parts_of ls x
  extent : (unions : List Layout) (x : List ℕ) → struct_extent unions more x ≡ struct_extent unions ls x

adds_itself : (ls : List Layout) → AddsNone ls ls
adds_itself ls = record { parts = λ x. refl; extent = λ unions x. refl }

no_bytes : (unions ls : List Layout) (x : List ℕ) → has_tag ls x ≡ false → struct_extent unions ls x ≡ no_extent x
no_bytes unions [] x h = refl
no_bytes unions (l ∷ ls) x h = by (bytes_eq l.tag x) h (no_bytes unions ls x)
  where
    by : (b : Bool) → (if b then true else has_tag ls x) ≡ false → (has_tag ls x ≡ false → struct_extent unions ls x ≡ no_extent x)
        → (if b then laid_out (extent_by (struct_extent unions ls) (union_extent unions)) (no_extent x) l.parts else struct_extent unions ls x) ≡ no_extent x
    by true h others = absurd (true≢false h)
    by false h others = others h

adds_empty : (l : Layout) (ls : List Layout) → l.parts ≡ [] → has_tag ls l.tag ≡ false → AddsNone (l ∷ ls) ls
adds_empty l ls none new = record {
  parts = λ x. parts x (bytes_eq l.tag x) refl;
  extent = λ unions x. extent unions x (bytes_eq l.tag x) refl;
}
  where
    new_at : (x : List ℕ) → bytes_eq l.tag x ≡ true → has_tag ls x ≡ false
    new_at x at = sym (ap (has_tag ls) ((bytes_eq-Decides l.tag x).0 at)) ∙ new

    parts : (x : List ℕ) (b : Bool) → bytes_eq l.tag x ≡ b → (if b then l.parts else parts_of ls x) ≡ parts_of ls x
    parts x true at = none ∙ sym (no_parts ls x (new_at x at))
    parts x false at = refl

    extent : (unions : List Layout) (x : List ℕ) (b : Bool) → bytes_eq l.tag x ≡ b
        → (if b then laid_out (extent_by (struct_extent unions ls) (union_extent unions)) (no_extent x) l.parts else struct_extent unions ls x)
        ≡ struct_extent unions ls x
    extent unions x true at =
        ap (laid_out (extent_by (struct_extent unions ls) (union_extent unions)) (no_extent x)) none ∙ sym (no_bytes unions ls x (new_at x at))
    extent unions x false at = refl

adds_both : (ls more most : List Layout) → AddsNone most more → AddsNone more ls → AddsNone most ls
adds_both ls more most first second = record {
  parts = λ x. first.parts x ∙ second.parts x;
  extent = λ unions x. first.extent unions x ∙ second.extent unions x;
}

adds_one : (union : Bool) (ls : List Layout) (n : Named) → IsEmpty n.entry → IsOwn n.name n.entry → has_tag ls n.name ≡ false
    → AddsNone (layouts_onto union ls (n ∷ [])) ls
adds_one union ls n none own new = by n.entry none own
  where
    of : (u v : Bool) (t : Tag) → t.parts ≡ [] → t.text ≡ n.name
        → AddsNone (layouts_onto u ls (record { name = n.name; entry = OfTag (record t { is_union = v }) } ∷ [])) ls
    of true true t none own =
        adds_empty (record { tag = t.text; parts = part_shapes t.parts }) ls (ap part_shapes none) (ap (has_tag ls) own ∙ new)
    of true false t none own = adds_itself ls
    of false true t none own = adds_itself ls
    of false false t none own =
        adds_empty (record { tag = t.text; parts = part_shapes t.parts }) ls (ap part_shapes none) (ap (has_tag ls) own ∙ new)

    by : (e : Entry) → IsEmpty e → IsOwn n.name e → AddsNone (layouts_onto union ls (record { name = n.name; entry = e } ∷ [])) ls
    by (OfTag t) none own = of union t.is_union t none own
    by (OfValue w) none own = adds_itself ls
    by (OfFunction s) none own = adds_itself ls
    by (OfBuiltin k) none own = adds_itself ls
    by OfOther none own = adds_itself ls

adds_all : (union : Bool) (ls : List Layout) (before : List (List ℕ)) (g : Tables) → AreEmpty g → AreOwn g → Within ls before
    → AddsNone (layouts_onto union ls (meant_first before g)) ls
adds_all union ls before [] none own within = adds_itself ls
adds_all union ls before (n ∷ ns) (none, all_none) (own, all_own) within =
    by (is_named_before before n.name) refl (adds_all union ls before ns all_none all_own within)
    (adds_all union (layouts_onto union ls (n ∷ [])) (n.name ∷ before) ns all_none all_own (within_one union ls before n own within))
  where
    by : (b : Bool) → is_named_before before n.name ≡ b
        → AddsNone (layouts_onto union ls (meant_first before ns)) ls
        → AddsNone (layouts_onto union (layouts_onto union ls (n ∷ [])) (meant_first (n.name ∷ before) ns)) (layouts_onto union ls (n ∷ []))
        → AddsNone (layouts_onto union ls (if b then meant_first before ns else n ∷ meant_first (n.name ∷ before) ns)) ls
    by true at same next = same
    by false at same next =
        adds_both ls (layouts_onto union ls (n ∷ [])) (layouts_onto union (layouts_onto union ls (n ∷ [])) (meant_first (n.name ∷ before) ns)) next
        (adds_one union ls n none own (within n.name at))

adds_later : (union : Bool) (g later : Tables) → AreOwn g → AreEmpty later → AreOwn later → AddsNone (layouts_of union (g ++ later)) (layouts_of union g)
adds_later union g later own none own_later =
    subst (λ ls. AddsNone ls (layouts_of union g)) (sym (onto_both union [] [] g later))
    (adds_all union (layouts_of union g) (after_names [] g) later none own_later (within_all union [] [] g own (λ x h. refl)))

-- ---- bytes

union_same : (most ls : List Layout) → AddsNone most ls → (x : List ℕ) → union_extent most x ≡ union_extent ls x
union_same most ls adds x =
    ap (λ ps. record { size = rounded_up (4 + largest (extent_by no_extent no_extent) 0 ps) 4; align = 4 }) (adds.parts x)

module _ (s t u v : List ℕ → Extent) (structs : (x : List ℕ) → s x ≡ t x) (unions : (x : List ℕ) → u x ≡ v x) where
  shape_same : (shape : Shape) → extent_by s u shape ≡ extent_by t v shape
  shape_same (StructShape tag) = structs tag
  shape_same (UnionShape tag) = unions tag
  shape_same (shapes.ArrayShape count of) = ap (λ e. record { size = count * e.size; align = e.align }) (shape_same of)
  shape_same shapes.CharShape = refl
  shape_same (shapes.FatShape to) = refl
  shape_same shapes.VoidShape = refl
  shape_same shapes.IntShape = refl
  shape_same shapes.UnsignedShape = refl
  shape_same (shapes.ThinShape n how to) = refl
  shape_same shapes.HandleShape = refl
  shape_same shapes.KeyShape = refl

  laid_same : (so_far : Extent) (ps : List shapes.Part) → laid_out (extent_by s u) so_far ps ≡ laid_out (extent_by t v) so_far ps
  laid_same so_far [] = refl
  laid_same so_far (p ∷ ps) =
      laid_same (next (extent_by s u p.shape)) ps ∙ ap (λ e. laid_out (extent_by t v) (next e) ps) (shape_same p.shape)
    where
      next : Extent → Extent
      next e = record { size = rounded_up so_far.size e.align + e.size; align = max so_far.align e.align }

structs_same : (u v : List Layout) → ((x : List ℕ) → union_extent u x ≡ union_extent v x) → (ls : List Layout) (x : List ℕ)
    → struct_extent u ls x ≡ struct_extent v ls x
structs_same u v unions [] x = refl
structs_same u v unions (l ∷ ls) x =
    ap (λ e. if bytes_eq l.tag x then e else struct_extent u ls x)
    (laid_same (struct_extent u ls) (struct_extent v ls) (union_extent u) (union_extent v) (structs_same u v unions ls) unions (no_extent x) l.parts)
    ∙ ap (λ e. if bytes_eq l.tag x then laid_out (extent_by (struct_extent v ls) (union_extent v)) (no_extent x) l.parts else e)
    (structs_same u v unions ls x)

-- a struct has as many bytes, whichever stand later of which no members are known
pub later_bytes : (g later : Tables) (s : Structure) (ps : List Part) → AreOwn g → AreEmpty later → AreOwn later
    → struct_bytes (g ++ later) s ps ≡ struct_bytes g s ps
later_bytes g later s ps own none own_later =
    let all = g ++ later in
    let structs = adds_later false g later own none own_later in
    let unions = union_same (layouts_of true all) (layouts_of true g) (adds_later true g later own none own_later) in
    ap (λ e. (if bytes_eq s.tag.text s.tag.text then e else struct_extent (layouts_of true all) (layouts_of false all) s.tag.text).size)
    (laid_same (struct_extent (layouts_of true all) (layouts_of false all)) (struct_extent (layouts_of true g) (layouts_of false g))
    (union_extent (layouts_of true all)) (union_extent (layouts_of true g))
    (λ x. structs_same (layouts_of true all) (layouts_of true g) unions (layouts_of false all) x ∙ structs.extent (layouts_of true g) x)
    unions (no_extent s.tag.text) (part_shapes ps))
    ∙ ap (λ e. (if bytes_eq s.tag.text s.tag.text
    then laid_out (extent_by (struct_extent (layouts_of true g) (layouts_of false g)) (union_extent (layouts_of true g))) (no_extent s.tag.text)
    (part_shapes ps)
    else e).size)
    (structs_same (layouts_of true all) (layouts_of true g) unions (layouts_of false all) s.tag.text ∙ structs.extent (layouts_of true g) s.tag.text)

-- tables of the same layouts
pub same_bytes : (g h : Tables) (s : Structure) (ps : List Part) → ((union : Bool) → layouts_of union g ≡ layouts_of union h)
    → struct_bytes g s ps ≡ struct_bytes h s ps
same_bytes g h s ps same =
    ap (λ us. (struct_extent us (record { tag = s.tag.text; parts = part_shapes ps } ∷ layouts_of false g) s.tag.text).size) (same true)
    ∙ ap (λ ls. (struct_extent (layouts_of true h) (record { tag = s.tag.text; parts = part_shapes ps } ∷ ls) s.tag.text).size) (same false)
