-- A struct of the table is laid out as its shape is.
use Rattle.std.proofs.Common.{◌≡◌, ◌∙◌, ℕ, zero, suc, ◌+◌, ◌-◌, refl, sym, ap, arith, List, [], ◌∷◌, ◌++◌, map, Option, Some, None}
use Rattle.std.specs.Prelude.{IfSome, option_map}
use Rattle.source_meaning.specs.Shapes.{Shape, IntShape, UnsignedShape, CharShape, VoidShape, ThinShape, FatShape, HandleShape, KeyShape, StructShape}
use Rattle.source_meaning.specs.Shapes.{UnionShape, ArrayShape}
use Rattle.source_meaning.specs.Shapes.{parts_of}
use Rattle.source_meaning.specs.Shapes as shapes
use Rattle.source_meaning.specs.Sizes.{Extent, struct_extent}
use Rattle.source_meaning.specs.Placing.{Placed, struct_placed}
use Rattle.source_meaning.specs.Steps.{World}
use Rattle.core_meaning.specs.Memory.{Blank, Content, PartShape, Layout, Null, Word}
use Rattle.source_lowering.specs.Layouts as rules
use Rattle.source_lowering.specs.Layouts.{extent_of, has_fat, layout_of, next_at, padded, padding}
use Rattle.cyc_core.specs.Trees.{cell_bytes, cell_parts, layout_tree, made_parts, padding_parts}
use Rattle.cyc_core.specs.declared.layout.CellLayout.{CellLayout}
use Rattle.cyc_core.specs.declared.operation.Cell.{Cell}
use Rattle.cyc_core.specs.declared.operation.Cell.TheVariants as cell
use Rattle.lower_checks.specs.declared.layouts.Known.{Known}
use Rattle.lower_checks.specs.Structs.{CellAt, IsFound, IsKnown, all_filled, cell_in, laid_cell, next_cell, placed_cell}
use Rattle.lower_checks.specs.Unions.{AreUnionsLaid, Union, cell_by, first_union}
use Rattle.lower_checks.proofs.UnionCells.{union_bytes, union_found, union_parts}

-- ---- one cell

padding_same : (at n : ℕ) → padding_parts at n ≡ padding at n
padding_same at zero = refl
padding_same at (suc n) = ap (λ ps. record { offset = at; width = 1; first = Blank } ∷ ps) (padding_same (at + 1) n)

-- a part, and the bytes behind it
abbrev part_and : ℕ → ℕ → Content → List PartShape → List PartShape
part_and offset width first behind = record { offset = offset; width = width; first = first } ∷ behind

parts_same : (at width next : ℕ) (first : Content)
    → part_and at width first (padding_parts (at + width) (next - (at + width)))
    ≡ part_and (at + 0) width first (padding (at + width) (next - (at + width)))
parts_same at width next first =
    let here : at ≡ at + 0 = omega arith in
    ap (part_and at width first) (padding_same (at + width) (next - (at + width)))
    ∙ ap (λ n. part_and n width first (padding (at + width) (next - (at + width)))) here

-- the parts of a fat pointer, and the bytes behind them
abbrev fat_and : ℕ → ℕ → ℕ → List PartShape → List PartShape
fat_and first count index behind = part_and first 4 Null (part_and count 4 (Word 0) (part_and index 4 (Word 0) behind))

fat_same : (at next : ℕ)
    → fat_and at (at + 4) (at + 4 + 4) (padding_parts (at + 12) (next - (at + 12)))
    ≡ fat_and (at + 0) (at + 4) (at + 8) (padding (at + 12) (next - (at + 12)))
fat_same at next =
    let here : at ≡ at + 0 = omega arith in
    let behind : at + 4 + 4 ≡ at + 8 = omega arith in
    ap (fat_and at (at + 4) (at + 4 + 4)) (padding_same (at + 12) (next - (at + 12)))
    ∙ ap (λ n. fat_and n (at + 4) (at + 4 + 4) (padding (at + 12) (next - (at + 12)))) here
    ∙ ap (λ n. fat_and (at + 0) (at + 4) n (padding (at + 12) (next - (at + 12)))) behind

-- a cell in code, up to where the next one begins
abbrev parts_up_to : ℕ → ℕ → Cell → List PartShape
parts_up_to at next c = made_parts c at ++ padding_parts (at + cell_bytes c) (next - (at + cell_bytes c))

-- a cell of a shape, up to where the next one begins
abbrev shape_parts : World → ℕ → ℕ → Shape → List PartShape
shape_parts w at next s =
    rules.cell_parts w.unions (record { offset = at; shape = s }) ++ padding (at + (extent_of w s).size) (next - (at + (extent_of w s).size))

-- so it is where the shape is a union's
union_up_to : (w : World) (at next : ℕ) (tag : List ℕ) (c : Cell) (found : Option Union) → AreUnionsLaid w.unions → first_union w.unions tag ≡ found
    → option_map (λ (u : Union). u.cell) found ≡ Some c → parts_up_to at next c ≡ shape_parts w at next (UnionShape tag)
union_up_to w at next tag c None laid found is = absurd cc is
union_up_to w at next tag c (Some u) laid found is =
    let of = union_found w.unions tag u laid found in
    let fat = has_fat (parts_of w.unions tag) in
    let c_is : c ≡ u.cell = cc is in
    let by : u.cell ≡ cell_by fat = ap (λ (x : Union). x.cell) of.parts in
    let end = at + (extent_of w (UnionShape tag)).size in
    ap (parts_up_to at next) c_is
    ∙ ap (λ n. made_parts u.cell at ++ padding_parts (at + n) (next - (at + n))) (sym (union_bytes w.unions tag u laid found))
    ∙ ap (λ ps. made_parts u.cell at ++ ps) (padding_same end (next - end))
    ∙ ap (λ x. made_parts x at ++ padding end (next - end)) by
    ∙ ap (λ ps. ps ++ padding end (next - end)) (union_parts at (UnionShape tag) fat)

shape_same : (w : World) (at next : ℕ) (s : Shape) (c : Cell) → AreUnionsLaid w.unions → cell_in w.unions s ≡ Some c
    → parts_up_to at next c ≡ shape_parts w at next s
shape_same w at next IntShape c laid is = let c_is : c ≡ cell.Word = cc is in ap (parts_up_to at next) c_is ∙ parts_same at 4 next (Word 0)
shape_same w at next UnsignedShape c laid is = let c_is : c ≡ cell.Word = cc is in ap (parts_up_to at next) c_is ∙ parts_same at 4 next (Word 0)
shape_same w at next CharShape c laid is = let c_is : c ≡ cell.Byte = cc is in ap (parts_up_to at next) c_is ∙ parts_same at 1 next (Word 0)
shape_same w at next VoidShape c laid is = absurd cc is
shape_same w at next (ThinShape n o t) c laid is = let c_is : c ≡ cell.Pointer = cc is in ap (parts_up_to at next) c_is ∙ parts_same at 4 next Null
shape_same w at next (FatShape t) c laid is = let c_is : c ≡ cell.Fat = cc is in ap (parts_up_to at next) c_is ∙ fat_same at next
shape_same w at next HandleShape c laid is = let c_is : c ≡ cell.Handle = cc is in ap (parts_up_to at next) c_is ∙ parts_same at 4 next Blank
shape_same w at next KeyShape c laid is = let c_is : c ≡ cell.Handle = cc is in ap (parts_up_to at next) c_is ∙ parts_same at 4 next Blank
shape_same w at next (StructShape tag) c laid is = absurd cc is
shape_same w at next (UnionShape tag) c laid is = union_up_to w at next tag c (first_union w.unions tag) laid refl is
shape_same w at next (ArrayShape n s) c laid is = absurd cc is

-- ---- all cells

next_is : (unions : List shapes.Layout) (bytes : ℕ) (ps : List Placed) (cs : List CellLayout) → map (placed_cell unions) ps ≡ map laid_cell cs
    → next_cell bytes cs ≡ next_at bytes ps
next_is unions bytes [] [] is = refl
next_is unions bytes [] (c ∷ cs) is = absurd cc is
next_is unions bytes (p ∷ ps) [] is = absurd cc is
next_is unions bytes (p ∷ ps) (c ∷ cs) is =
    let first : placed_cell unions p ≡ laid_cell c = cc is in
    ap (λ (x : CellAt). x.offset) (sym first)

cells_same : (w : World) (bytes : ℕ) (ps : List Placed) (cs : List CellLayout) → AreUnionsLaid w.unions
    → map (placed_cell w.unions) ps ≡ map laid_cell cs
    → map cell_parts (all_filled bytes cs) ≡ padded w.unions (extent_of w) bytes ps
cells_same w bytes [] [] laid is = refl
cells_same w bytes [] (c ∷ cs) laid is = absurd cc is
cells_same w bytes (p ∷ ps) [] laid is = absurd cc is
cells_same w bytes (p ∷ ps) (c ∷ cs) laid is =
    let first : placed_cell w.unions p ≡ laid_cell c = cc is in
    let others : map (placed_cell w.unions) ps ≡ map laid_cell cs = cc is in
    let at_is : c.offset ≡ p.offset = ap (λ (x : CellAt). x.offset) (sym first) in
    let cell_is : cell_in w.unions p.shape ≡ Some c.cell = ap (λ (x : CellAt). x.cell) first in
    ap (λ n. parts_up_to n (next_cell bytes cs) c.cell ∷ map cell_parts (all_filled bytes cs)) at_is
    ∙ ap (λ n. parts_up_to p.offset n c.cell ∷ map cell_parts (all_filled bytes cs)) (next_is w.unions bytes ps cs others)
    ∙ ap (λ these. these ∷ map cell_parts (all_filled bytes cs)) (shape_same w p.offset (next_at bytes ps) p.shape c.cell laid cell_is)
    ∙ ap (λ rest. shape_parts w p.offset (next_at bytes ps) p.shape ∷ rest) (cells_same w bytes ps cs laid others)

-- ---- a struct

abbrev cells_and : List (List PartShape) → ℕ → Layout
cells_and cells bytes = record { cells = cells; bytes = bytes }

pub known_layout : (w : World) (tag : List ℕ) (k : Known) → AreUnionsLaid w.unions → IsKnown w.unions w.structs tag k
    → layout_tree k.layout.value ≡ layout_of w (StructShape tag)
known_layout w tag k laid is =
    let bytes = k.layout.value.bytes in
    let size_is : bytes ≡ (struct_extent w.unions w.structs tag).size = ap (λ (e : Extent). e.size) (sym is.room) in
    ap (λ (cs : List CellLayout). cells_and (map cell_parts cs) bytes) is.filled
    ∙ ap (λ cells. cells_and cells bytes) (cells_same w bytes (struct_placed w.unions w.structs tag) k.layout.value.cells.items laid is.cells)
    ∙ ap (λ n. cells_and (padded w.unions (extent_of w) n (struct_placed w.unions w.structs tag)) n) size_is

pub found_layout : (w : World) (tag : List ℕ) (found : Option Known) → AreUnionsLaid w.unions → IsFound w.unions w.structs tag found
    → IfSome found (λ k. layout_tree k.layout.value ≡ layout_of w (StructShape tag))
found_layout w tag None laid is = tt
found_layout w tag (Some k) laid is = known_layout w tag k laid is
