-- The one cell of a union: how many bytes it has, and its parts.
use Rattle.std.proofs.Common.{◌≡◌, ◌∙◌, ℕ, ◌+◌, ◌-◌, ◌≤◌, max, Bool, true, false, refl, sym, ap, subst, arith}
use Rattle.std.proofs.Common.{List, [], ◌∷◌, ◌++◌, map, Option, Some, None, if◌then◌else◌}
use Rattle.std.specs.Prelude.{◌||◌, IfSome, bytes_eq, is_some, option_map}
use Rattle.std.proofs.lemmas.Bool.{true≢false, false≢true}
use Rattle.source_meaning.specs.Shapes.{Shape, IntShape, UnsignedShape, CharShape, VoidShape, ThinShape, FatShape, HandleShape}
use Rattle.source_meaning.specs.Shapes.{KeyShape, StructShape, UnionShape, ArrayShape}
use Rattle.source_meaning.specs.Shapes.{Part, Layout, has_tag, parts_of}
use Rattle.source_meaning.specs.Sizes.{Extent, extent_by, largest, no_extent, rounded_up, union_extent}
use Rattle.source_meaning.specs.Steps.{World}
use Rattle.core_meaning.specs.Memory.{Blank, PartShape}
use Rattle.core_meaning.specs.Memory as memory
use Rattle.source_lowering.specs.Layouts.{has_fat, is_fat, layout_of, padding, part_shape_of, union_pieces}
use Rattle.source_lowering.proofs.UnionSizes.{IsSmall, value_size, word_small}
use Rattle.cyc_core.specs.Trees.{cell_bytes, made_parts, part_layout}
use Rattle.lower_checks.specs.Cells.{cell_for}
use Rattle.lower_checks.specs.Unions.{AreCells, AreUnionsLaid, HaveCells, Union, cell_by, first_union, union_room, union_tree, union_with}
use Rattle.lower_checks.specs.declared.unions.Union as code

-- ---- a member

-- it has a word at most, or is a fat pointer
cell_small : (s : Shape) → is_some (cell_for s) ≡ true → IsSmall s
cell_small IntShape h = word_small IntShape refl (omega arith) (omega arith)
cell_small UnsignedShape h = word_small UnsignedShape refl (omega arith) (omega arith)
cell_small CharShape h = word_small CharShape refl (omega arith) (omega arith)
cell_small VoidShape h = absurd cc h
cell_small (ThinShape n o t) h = word_small (ThinShape n o t) refl (omega arith) (omega arith)
cell_small (FatShape t) h = record { some = omega arith; few = omega arith; word = λ e. absurd (true≢false e); fat = λ e. omega arith }
cell_small HandleShape h = word_small HandleShape refl (omega arith) (omega arith)
cell_small KeyShape h = word_small KeyShape refl (omega arith) (omega arith)
cell_small (StructShape tag) h = absurd cc h
cell_small (UnionShape tag) h = absurd cc h
cell_small (ArrayShape n s) h = absurd cc h

-- ---- the largest member

abbrev most_of : ℕ → List Part → ℕ
most_of most ps = largest (extent_by no_extent no_extent) most ps

record IsMost (most : ℕ) (ps : List Part) : Type 0 where
  least : most ≤ most_of most ps
  few : most ≤ 12 → most_of most ps ≤ 12
  word : has_fat ps ≡ false → most ≤ 4 → most_of most ps ≤ 4
  fat : has_fat ps ≡ true → 12 ≤ most_of most ps

more_most : (most : ℕ) (p : Part) (ps : List Part) → IsSmall p.shape → IsMost (max most (value_size p.shape)) ps → IsMost most (p ∷ ps)
more_most most p ps one others = record {
  least = omega (arith, others.least);
  few = λ less. others.few (omega (arith, one.few, less));
  word = λ e less. by_word (is_fat p.shape) refl e less;
  fat = λ e. by_fat (is_fat p.shape) refl e;
}
  where
    by_word : (b : Bool) → is_fat p.shape ≡ b → b || has_fat ps ≡ false → most ≤ 4 → most_of most (p ∷ ps) ≤ 4
    by_word true f e less = absurd (true≢false e)
    by_word false f e less = let few = one.word f in others.word e (omega (arith, few, less))

    by_fat : (b : Bool) → is_fat p.shape ≡ b → b || has_fat ps ≡ true → 12 ≤ most_of most (p ∷ ps)
    by_fat true f e = let many = one.fat f in omega (arith, many, others.least)
    by_fat false f e = others.fat e

is_most : (most : ℕ) (ps : List Part) → AreCells ps → IsMost most ps
is_most most [] h = record { least = omega arith; few = λ less. less; word = λ e less. less; fat = λ e. absurd (false≢true e) }
is_most most (p ∷ ps) h = more_most most p ps (cell_small p.shape h.0) (is_most (max most (value_size p.shape)) ps h.1)

some_most : (ps : List Part) → HaveCells ps → 1 ≤ most_of 0 ps
some_most [] h = absurd h.0
some_most (p ∷ ps) h =
    let one = (cell_small p.shape h.1.0).some in let more = (is_most (max 0 (value_size p.shape)) ps h.1.1).least in omega (arith, one, more)

rounded_size : (fat : Bool) (l : ℕ) → 1 ≤ l → l ≤ 12 → (fat ≡ false → l ≤ 4) → (fat ≡ true → 12 ≤ l) → rounded_up (4 + l) 4 ≡ cell_bytes (cell_by fat)
rounded_size true l some few word of_fat = let most = of_fat refl in omega (arith, few, most)
rounded_size false l some few word of_fat = let less = word refl in omega (arith, some, less)

-- the bytes of a union with such members
abbrev bytes_with : List Part → ℕ
bytes_with ps = rounded_up (4 + most_of 0 ps) 4

bytes_are : (ps : List Part) → HaveCells ps → bytes_with ps ≡ cell_bytes (cell_by (has_fat ps))
bytes_are ps h =
    let most = is_most 0 ps h.1 in
    rounded_size (has_fat ps) (most_of 0 ps) (some_most ps h) (most.few (omega arith)) (λ e. most.word e (omega arith)) most.fat

-- ---- the union of a tag

-- there is one where one has the tag
pub has_union : (unions : List Layout) (tag : List ℕ) → is_some (first_union unions tag) ≡ has_tag unions tag
has_union [] tag = refl
has_union (l ∷ ls) tag = by (bytes_eq l.tag tag) (has_union ls tag)
  where
    by : (own : Bool) → is_some (first_union ls tag) ≡ has_tag ls tag
        → is_some (if own then Some (union_with l.parts) else first_union ls tag) ≡ (if own then true else has_tag ls tag)
    by true others = refl
    by false others = others

-- its members, which have cells
pub record IsOf (unions : List Layout) (tag : List ℕ) (u : Union) : Type 0 where
  pub parts : u ≡ union_with (parts_of unions tag)
  pub cells : HaveCells (parts_of unions tag)

pub union_found : (unions : List Layout) (tag : List ℕ) (u : Union) → AreUnionsLaid unions → first_union unions tag ≡ Some u → IsOf unions tag u
union_found [] tag u laid is = absurd cc is
union_found (l ∷ ls) tag u laid is = by (bytes_eq l.tag tag) refl is (λ e. union_found ls tag u laid.1 e)
  where
    by : (own : Bool) → bytes_eq l.tag tag ≡ own → (if own then Some (union_with l.parts) else first_union ls tag) ≡ Some u
        → (first_union ls tag ≡ Some u → IsOf ls tag u) → IsOf (l ∷ ls) tag u
    by true own is more =
        let parts : parts_of (l ∷ ls) tag ≡ l.parts = ap (λ b. if b then l.parts else parts_of ls tag) own in
        let same : union_with l.parts ≡ u = cc is in
        record {
          parts = sym same ∙ ap union_with (sym parts);
          cells = subst HaveCells (sym parts) laid.0;
        }
    by false own is more =
        let parts : parts_of (l ∷ ls) tag ≡ parts_of ls tag = ap (λ b. if b then l.parts else parts_of ls tag) own in
        let others = more is in
        record {
          parts = others.parts ∙ ap union_with (sym parts);
          cells = subst HaveCells (sym parts) others.cells;
        }

-- its bytes; where there is none, those of a tag
abbrev extent_with : List Part → Extent
extent_with ps = record { size = bytes_with ps; align = 4 }

room_with : (fat : Bool) (ps : List Part) (bytes : ℕ) → bytes ≡ cell_bytes (cell_by fat)
    → union_room (Some (record { parts = ps; cell = cell_by fat })) ≡ record { size = bytes; align = 4 }
room_with true ps bytes is = ap (λ (n : ℕ). record { size = n; align = 4 }) (sym is)
room_with false ps bytes is = ap (λ (n : ℕ). record { size = n; align = 4 }) (sym is)

pub union_same : (unions : List Layout) (tag : List ℕ) → AreUnionsLaid unions → union_extent unions tag ≡ union_room (first_union unions tag)
union_same [] tag laid = refl
union_same (l ∷ ls) tag laid = by (bytes_eq l.tag tag) (union_same ls tag laid.1)
  where
    by : (own : Bool) → extent_with (parts_of ls tag) ≡ union_room (first_union ls tag)
        → extent_with (if own then l.parts else parts_of ls tag) ≡ union_room (if own then Some (union_with l.parts) else first_union ls tag)
    by true others = sym (room_with (has_fat l.parts) l.parts (bytes_with l.parts) (bytes_are l.parts laid.0))
    by false others = others

-- ---- the parts of its cell

-- a part of four bytes that holds nothing, and what is behind it
abbrev blank_and : ℕ → List PartShape → List PartShape
blank_and offset behind = record { offset = offset; width = 4; first = Blank } ∷ behind

-- the parts of a cell from a byte on, without those of padding
pub union_parts : (at : ℕ) (s : Shape) (fat : Bool) → made_parts (cell_by fat) at ≡ map (part_shape_of (record { offset = at; shape = s })) (union_pieces fat)
union_parts at s true =
    let zero_is : at ≡ at + 0 = omega arith in
    let third : at + 4 + 4 ≡ at + 8 = omega arith in
    let fourth : at + 4 + 4 + 4 ≡ at + 12 = omega arith in
    ap (λ n. blank_and n (blank_and (at + 4) (blank_and (at + 4 + 4) (blank_and (at + 4 + 4 + 4) [])))) zero_is
    ∙ ap (λ n. blank_and (at + 0) (blank_and (at + 4) (blank_and n (blank_and (at + 4 + 4 + 4) [])))) third
    ∙ ap (λ n. blank_and (at + 0) (blank_and (at + 4) (blank_and (at + 8) (blank_and n [])))) fourth
union_parts at s false =
    let zero_is : at ≡ at + 0 = omega arith in
    ap (λ n. blank_and n (blank_and (at + 4) [])) zero_is

-- an object that is a union
abbrev cells_and : List (List PartShape) → ℕ → memory.Layout
cells_and cells bytes = record { cells = cells; bytes = bytes }

layout_with : (s : Shape) (fat : Bool) (bytes : ℕ) → bytes ≡ cell_bytes (cell_by fat)
    → part_layout (cell_by fat)
    ≡ cells_and ((map (part_shape_of (record { offset = 0; shape = s })) (union_pieces fat) ++ padding (0 + bytes) (bytes - (0 + bytes))) ∷ []) bytes
layout_with s true bytes is =
    ap (λ n. cells_and ((map (part_shape_of (record { offset = 0; shape = s })) (union_pieces true) ++ padding (0 + n) (n - (0 + n))) ∷ []) n) (sym is)
layout_with s false bytes is =
    ap (λ n. cells_and ((map (part_shape_of (record { offset = 0; shape = s })) (union_pieces false) ++ padding (0 + n) (n - (0 + n))) ∷ []) n) (sym is)

pub union_layout : (w : World) (tag : List ℕ) (u : Union) → AreUnionsLaid w.unions → first_union w.unions tag ≡ Some u
    → part_layout u.cell ≡ layout_of w (UnionShape tag)
union_layout w tag u laid is =
    let of = union_found w.unions tag u laid is in
    let parts : List Part = parts_of w.unions tag in
    ap (λ (x : Union). part_layout x.cell) of.parts ∙ layout_with (UnionShape tag) (has_fat parts) (bytes_with parts) (bytes_are parts of.cells)

-- the bytes of its cell
pub union_bytes : (unions : List Layout) (tag : List ℕ) (u : Union) → AreUnionsLaid unions → first_union unions tag ≡ Some u
    → (union_extent unions tag).size ≡ cell_bytes u.cell
union_bytes unions tag u laid is =
    let of = union_found unions tag u laid is in
    bytes_are (parts_of unions tag) of.cells ∙ ap (λ (x : Union). cell_bytes x.cell) (sym of.parts)

-- ---- as the code finds it

pub found_union : (w : World) (tag : List ℕ) (found : Option code.Union) → AreUnionsLaid w.unions → option_map union_tree found ≡ first_union w.unions tag
    → IfSome found (λ u. part_layout u.cell ≡ layout_of w (UnionShape tag))
found_union w tag None laid is = tt
found_union w tag (Some u) laid is = union_layout w tag (union_tree u) laid (sym is)

-- none has the tag where none is found
pub none_has : (unions : List Layout) (tag : List ℕ) (found : Option code.Union) → found ≡ None → option_map union_tree found ≡ first_union unions tag
    → has_tag unions tag ≡ true → ⊥
none_has unions tag None none is has = false≢true (ap is_some is ∙ has_union unions tag ∙ has)
none_has unions tag (Some u) none is has = absurd cc none

-- where there is none, its bytes are those of a tag
pub no_union : (unions : List Layout) (tag : List ℕ) → AreUnionsLaid unions → first_union unions tag ≡ None → (union_extent unions tag).size ≡ 4
no_union unions tag laid none = ap (λ (e : Extent). e.size) (union_same unions tag laid ∙ ap union_room none)
