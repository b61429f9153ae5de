-- Cells are placed member by member, as far as the bytes aren't too many.
use Rattle.std.proofs.Common.{◌≡◌, ℕ, ◌≤◌, ◌+◌, true, List, [], ◌∷◌, ◌++◌, refl, sym, ap, ◌∙◌, arith, map, max}
use Rattle.std.proofs.lemmas.List.{map-append}
use Rattle.std.specs.Prelude.{Option, Some, if◌then◌else◌}
use Rattle.source_meaning.proofs.Layouts.{laid_above}
use Rattle.source_meaning.specs.Placing.{Placed, all_placed, moved}
use Rattle.source_meaning.specs.Shapes.{Shape}
use Rattle.source_meaning.specs.Sizes.{Extent, laid_out, rounded_up}
use Rattle.source_typing.specs.Extents.{fits_bytes, known_shape, part_shapes}
use Rattle.source_typing.specs.Tables.{Part}
use Rattle.source_typing.specs.Types.{StaticType}
use Rattle.cyc_types.specs.Cells.{KindAt, cells_after, kind_placed, moved_by, part_cells, placed_onto}
use Rattle.cyc_types.specs.Measures.{bytes_and, limited, part_extent, placed_after}
use Rattle.cyc_types.proofs.Measured.{if_fits}

map_moved : (at : ℕ) (ps : List Placed) → map (moved_by at) (map kind_placed ps) ≡ map kind_placed (map (moved at) ps)
map_moved at [] = refl
map_moved at (p ∷ ps) = ap (λ cs. moved_by at (kind_placed p) ∷ cs) (map_moved at ps)

pub map_here : (cs : List KindAt) → map (moved_by 0) cs ≡ cs
map_here [] = refl
map_here (c ∷ cs) =
    let here : 0 + c.offset ≡ c.offset = omega arith in
    ap (λ n. record { offset = n; kind = c.kind } ∷ map (moved_by 0) cs) here ∙ ap (λ ds. c ∷ ds) (map_here cs)

-- none where the bytes are too many
abbrev pub fitting : Extent → List KindAt → List KindAt
fitting e cs = (if fits_bytes e.size then cs else [])

less_fits : (n m : ℕ) → n ≤ m → fits_bytes m ≡ true → fits_bytes n ≡ true
less_fits n m le h = grind (arith, le, h)

-- what is so of each member
abbrev pub EachPlaced : (Shape → Extent) → (Shape → List Placed) → (StaticType → Option Extent) → (StaticType → List KindAt) → List Part → Type 0
EachPlaced extent placed of cells [] = Unit {0}
EachPlaced extent placed of cells (p ∷ ps) =
    (limited (extent (known_shape p.type)) ≡ part_extent of p.type)
    × (fitting (extent (known_shape p.type)) (map kind_placed (placed (known_shape p.type))) ≡ part_cells cells p.type)
    × EachPlaced extent placed of cells ps

pub placed_as : (extent : Shape → Extent) (placed : Shape → List Placed) (of : StaticType → Option Extent) (cells : StaticType → List KindAt)
    → (ps : List Part) (s : Extent) → fits_bytes (laid_out extent s (part_shapes ps)).size ≡ true → EachPlaced extent placed of cells ps
    → map kind_placed (all_placed placed extent s.size (part_shapes ps)) ≡ placed_onto of cells (Some s) ps
placed_as extent placed of cells [] s h each = refl
placed_as extent placed of cells (p ∷ ps) s h each =
    let shape = known_shape p.type in
    let e = extent shape in
    let at = rounded_up s.size e.align in
    let next = bytes_and (at + e.size) (max s.align e.align) in
    let rest = part_cells cells p.type in
    let next_fits : fits_bytes (at + e.size) ≡ true = less_fits (at + e.size) (laid_out extent next (part_shapes ps)).size
    (laid_above extent next (part_shapes ps)) h in
    let more : e.size ≤ at + e.size = omega arith in
    let own_fits : fits_bytes e.size ≡ true = less_fits e.size (at + e.size) more next_fits in
    let own : map kind_placed (placed shape) ≡ rest = sym (ap (λ b. if b then map kind_placed (placed shape) else []) own_fits) ∙ each.1 in
    let measure : Some e ≡ part_extent of p.type = sym (if_fits e own_fits) ∙ each.0 in
    map-append kind_placed (map (moved at) (placed shape)) (all_placed placed extent (at + e.size) (part_shapes ps))
    ∙ ap (λ cs. cs ++ map kind_placed (all_placed placed extent (at + e.size) (part_shapes ps)))
    (sym (map_moved at (placed shape)) ∙ ap (map (moved_by at)) own)
    ∙ ap (λ cs. map (moved_by at) rest ++ cs) (placed_as extent placed of cells ps next h each.2)
    ∙ sym (ap (λ o. map (moved_by at) rest ++ placed_onto of cells o ps) (if_fits next next_fits))
    ∙ ap (λ o. cells_after s o rest ++ placed_onto of cells (placed_after s o) ps) measure
