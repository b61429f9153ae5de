-- The bytes of a global, and of those behind it.
use Rattle.std.specs.Prelude.{length, slice_get, unwrap_or}
use Rattle.std.proofs.Common.{◌≡◌, ℕ, suc, ◌+◌, ◌-◌, ◌*◌, ◌%◌, ◌<◌, ◌≤◌, List, [], ◌∷◌, ◌++◌}
use Rattle.std.proofs.Common.{map, refl, sym, ap, ◌∙◌, arith, append_assoc, length-append}
use Rattle.core_meaning.specs.Memory.{Content, Word, shape_in}
use Rattle.core_meaning.specs.Core as core
use Rattle.cyc_core.specs.declared.layout.Layout.{Layout}
use Rattle.cyc_core.specs.declared.program.Datum.{Datum}
use Rattle.cyc_core.specs.declared.program.Datum.TheVariants as datum
use Rattle.cyc_core.specs.Trees.{layout_tree, part_first, datum_tree}
use Rattle.core_lines.specs.Selected.{rounded}
use Rattle.core_meaning.specs.Layouts.{IsNothing}
use Rattle.core_lines.specs.Statics.{zeros, element_bytes, datum_bytes, data_bytes}
use Rattle.core_lines.proofs.memory.DataBytes.{zeros_length}
use Rattle.rv32_layout.specs.Sizes.{cells_size, datum_size}
use Rattle.rv32_layout.proofs.Cells.{begins_with_nothing}
use Rattle.rv32_layout.proofs.Elements.{elements_are_zeros}
use Rattle.rv32_layout.proofs.Strings.{text_length}

-- ---- elements of a layout

-- what their parts begin as
abbrev whole_first : Layout → ℕ → ℕ → Content
whole_first l k j = part_first (shape_in (slice_get (layout_tree l).cells (k % length (layout_tree l).cells)) j)

first_is_nothing : (l : Layout) (k j : ℕ) → IsNothing (whole_first l k j)
first_is_nothing l k j = begins_with_nothing l.cells.items (k % length (layout_tree l).cells) j

pub whole_zeros : (os : List ℕ) (l : Layout) (count : ℕ)
    → element_bytes os (layout_tree l).cells (whole_first l) 0 count ≡ zeros (count * cells_size l.cells.items)
whole_zeros os l count = elements_are_zeros os (whole_first l) (first_is_nothing l) 0 count l.cells.items

-- ---- how many they are

datum_length : (os : List ℕ) (d : Datum) → length (datum_bytes os (datum_tree d)) ≡ datum_size d
datum_length os (datum.Byte b) = refl
datum_length os (datum.Word w) = refl
datum_length os datum.Null = refl
datum_length os (datum.Text bytes) = text_length os (λ k j. Word (unwrap_or (slice_get bytes.items k) 0)) 0 (length bytes.items + 1)
datum_length os (datum.Address object) = refl
datum_length os (datum.Bounds object count) = refl
datum_length os (datum.Whole l count) = ap length (whole_zeros os l.value count) ∙ zeros_length (count * cells_size l.value.cells.items)

-- as many as those of the others, behind its end
data_more : (os : List ℕ) (at next : ℕ) (d : Datum) (ds : List core.Datum) → next ≡ rounded at + datum_size d
    → next + length (data_bytes os next ds) ≡ at + length (data_bytes os at (datum_tree d ∷ ds))
data_more os at next d ds ends =
    let padding = zeros (rounded at - at) in
    let end = rounded at + length (datum_bytes os (datum_tree d)) in
    let rest = data_bytes os end ds in
    let zeros_long = zeros_length (rounded at - at) in
    let long = datum_length os d in
    let same : next ≡ end = omega (arith, ends, long) in
    ap (λ n. n + length (data_bytes os n ds)) same
    ∙ omega (arith, zeros_long, length-append padding (datum_bytes os (datum_tree d) ++ rest), length-append (datum_bytes os (datum_tree d)) rest)

-- the same, where the global is the first of those that are left
pub data_of_rest : (os : List ℕ) (globals : List Datum) (d : Datum) (others : List Datum) (at next whole : ℕ) → globals ≡ d ∷ others
    → next ≡ rounded at + datum_size d
    → at + length (data_bytes os at (map datum_tree globals)) ≡ whole → next + length (data_bytes os next (map datum_tree others)) ≡ whole
data_of_rest os globals d others at next whole here ends so_far =
    data_more os at next d (map datum_tree others) ends ∙ ap (λ gs. at + length (data_bytes os at (map datum_tree gs))) (sym here) ∙ so_far

-- it ends where all of them do, or before
pub ends_within : (os : List ℕ) (globals : List Datum) (d : Datum) (others : List Datum) (at whole : ℕ) → globals ≡ d ∷ others
    → at + length (data_bytes os at (map datum_tree globals)) ≡ whole → rounded at + datum_size d ≤ whole
ends_within os globals d others at whole here so_far =
    let rest = data_of_rest os globals d others at (rounded at + datum_size d) whole here refl so_far in omega (arith, rest)

-- so it is as long as all of them at most, where those before it are written
pub size_within : (os : List ℕ) (globals : List Datum) (d : Datum) (others : List Datum) (written : List ℕ) (at : ℕ) (whole : List ℕ) → globals ≡ d ∷ others
    → at ≡ length written → written ++ data_bytes os at (map datum_tree globals) ≡ whole → datum_size d ≤ length whole
size_within os globals d others written at whole here is so_far =
    let long = length-append written (data_bytes os at (map datum_tree globals)) in
    let all : at + length (data_bytes os at (map datum_tree globals)) ≡ length whole = omega (arith, long, is, ap length so_far) in
    let within = ends_within os globals d others at (length whole) here all in
    omega (arith, within)

-- ---- what they are

-- its bytes are appended, and those of the others would follow
data_joined : (os : List ℕ) (old new : List ℕ) (low next : ℕ) (d : Datum) (ds : List core.Datum) → low ≡ length old → next ≡ length new
    → new ≡ old ++ (zeros (rounded low - low) ++ datum_bytes os (datum_tree d)) → new ++ data_bytes os next ds ≡ old ++ data_bytes os low (datum_tree d ∷ ds)
data_joined os old new low next d ds begins ends is =
    let padding = zeros (rounded low - low) in
    let here = datum_bytes os (datum_tree d) in
    let end = rounded low + length here in
    let rest = data_bytes os end ds in
    let zeros_long = zeros_length (rounded low - low) in
    let behind : next ≡ end = omega (arith, ap length is, length-append old (padding ++ here), length-append padding here, zeros_long) in
    ap (λ n. new ++ data_bytes os n ds) behind ∙ ap (λ x. x ++ rest) is ∙ append_assoc old (padding ++ here) rest ∙
    ap (λ x. old ++ x) (append_assoc padding here rest)

-- the same, where the global is the first of those that are left
pub rest_joined : (os : List ℕ) (globals : List Datum) (d : Datum) (others : List Datum) (old new : List ℕ) (low next : ℕ) (whole : List ℕ)
    → globals ≡ d ∷ others
    → low ≡ length old → next ≡ length new → new ≡ old ++ (zeros (rounded low - low) ++ datum_bytes os (datum_tree d))
    → old ++ data_bytes os low (map datum_tree globals) ≡ whole → new ++ data_bytes os next (map datum_tree others) ≡ whole
rest_joined os globals d others old new low next whole here begins ends is so_far =
    data_joined os old new low next d (map datum_tree others) begins ends is ∙
    ap (λ gs. old ++ data_bytes os low (map datum_tree gs)) (sym here) ∙ so_far

-- one zero, and those behind it
pub zero_joined : (old new : List ℕ) (k n : ℕ) → k < n → new ≡ old ++ 0 ∷ [] → new ++ zeros (n - (k + 1)) ≡ old ++ zeros (n - k)
zero_joined old new k n less is =
    let more : suc (n - (k + 1)) ≡ n - k = omega (arith, less) in
    ap (λ x. x ++ zeros (n - (k + 1))) is ∙ append_assoc old (0 ∷ []) (zeros (n - (k + 1))) ∙ ap (λ m. old ++ zeros m) more
