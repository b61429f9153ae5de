-- What the globals of a program hold at first.
use Rattle.std.specs.Prelude.{if◌then◌else◌, slice_get, nat_lt, unwrap_or}
use Rattle.std.proofs.Common.{
  ◌≡◌,
  ℕ,
  zero,
  suc,
  ◌+◌,
  ◌*◌,
  ◌/◌,
  ◌%◌,
  Bool,
  true,
  false,
  Option,
  Some,
  None,
  List,
  [],
  ◌∷◌,
  length,
  map,
  refl,
  ap,
  ◌∙◌,
  sym,
  arith,
}
use Rattle.std.proofs.Math.Nat.{div-one, mod-one}
use Rattle.std.proofs.lemmas.Bool.Decides.{nat_tests}
use Rattle.core_meaning.specs.Memory.{Born, Content, Word, Part, PartShape, Layout, shape_in, blank_of, blanks}
use Rattle.core_meaning.specs.Meaning.{first_memory}
use Rattle.cyc_core.specs.declared.program.Datum.{Datum}
use Rattle.cyc_core.specs.declared.program.Datum.TheVariants as datum
use Rattle.cyc_core.specs.declared.operation.Cell.{Cell}
use Rattle.cyc_core.specs.declared.operation.Cell.TheVariants as cell
use Rattle.cyc_core.specs.Trees.{bytes_of, made_parts, part_layout, part_first, layout_tree, bounds_first, datum_layout, datum_count, datum_first, datum_tree}
use Rattle.core_eval.specs.declared.value.Value.{Value}
use Rattle.core_eval.specs.declared.value.Value.TheVariants as value
use Rattle.core_eval.specs.declared.held.Held.{Held}
use Rattle.core_eval.specs.declared.held.Held.TheVariants as held
use Rattle.core_eval.specs.Values.{spot_of, content_of, width_of, values_in, parts_from, part_of, part_in, slot_at}
use Rattle.core_eval.specs.Elements.{scalar, char_slot, text_cells, first_element, first_object}
use Rattle.core_eval.proofs.Parts.{shape_of, shape_part, nothing_at, made_part}
use Rattle.core_eval.proofs.Elements.{one_element, blanks_shaped, block_part}

-- what a part begins as
abbrev filled : Option Part → Content → Option Part
filled None v = None
filled (Some p) v = Some (record p { content = v })

-- a part of a cell with what it begins as
begun_part : (b : Bool) (before : ℕ) (s : Option PartShape)
    → filled (if b then shape_part false before s else None) (part_first s) ≡ (if b then shape_part true before s else None)
begun_part true before None = refl
begun_part true before (Some s) = refl
begun_part false before s = refl

-- a global of one cell
scalar_part : (c : Cell) (wide : ℕ) (v : Value) (h : Held) → made_parts c 0 ≡ shape_of 0 wide v ∷ [] → (u : Value) → values_in h ≡ u ∷ []
    → bytes_of (width_of h) ≡ wide → (k j : ℕ)
    → filled (blanks (part_layout c) 1 k j) (content_of u) ≡ part_in (slice_get (scalar h) k) j
scalar_part c wide v h made u values width zero j =
    ap (λ p. filled p (content_of u)) (one_element (part_layout c) 0 j ∙ ap (λ shapes. blank_of 0 (slice_get shapes j)) made)
    ∙ by j
    ∙ sym (ap (λ w. parts_from 0 w 0 (values_in h) j) width ∙ ap (λ vs. parts_from 0 wide 0 vs j) values)
  where
    none_below : (j : ℕ) → nat_lt j 0 ≡ false
    none_below j = grind (arith, nat_tests)

    by : (j : ℕ) → filled (blank_of 0 (slice_get (shape_of 0 wide v ∷ []) j)) (content_of u) ≡ parts_from 0 wide 0 (u ∷ []) j
    by zero = refl
    by (suc j) = sym (ap (λ b. nothing_at b (0 + wide + j)) (none_below j))
scalar_part c wide v h made u values width (suc k) j = ap (λ p. filled p (content_of u)) (one_element (part_layout c) (suc k) j)

-- a fat pointer
bounds_part : (object count k j : ℕ) → filled (blanks (part_layout cell.Fat) 1 k j) (bounds_first object count j)
    ≡ part_in (slice_get (first_object (datum.Bounds object count)) k) j
bounds_part object count k j = ap (λ p. filled p (bounds_first object count j)) (one_element (part_layout cell.Fat) k j) ∙ by k j
  where
    none_below : (j : ℕ) → nat_lt j 0 ≡ false
    none_below j = grind (arith, nat_tests)

    by : (k j : ℕ) → filled (blank_of 0 (shape_in (slice_get (part_layout cell.Fat).cells k) j)) (bounds_first object count j)
        ≡ part_in (slice_get (first_object (datum.Bounds object count)) k) j
    by zero zero = refl
    by zero (suc zero) = refl
    by zero (suc (suc zero)) = refl
    by zero (suc (suc (suc j))) = sym (ap (λ b. nothing_at b (0 + 4 + 4 + 4 + j)) (none_below j))
    by (suc k) j = refl

-- a string
char_at : (at k : ℕ) (bs : List ℕ) → slice_get (text_cells at bs) k
    ≡ (if nat_lt k (length bs + 1) then Some (char_slot (at + k) (unwrap_or (slice_get bs k) 0)) else None)
char_at at zero [] =
    let there : nat_lt 0 1 ≡ true = grind (arith, nat_tests) in
    let here : at ≡ at + 0 = omega arith in
    ap (λ (o : ℕ). Some (char_slot o 0)) here ∙ sym (ap (λ b. if b then Some (char_slot (at + 0) 0) else None) there)
char_at at (suc k) [] =
    let past : nat_lt (suc k) 1 ≡ false = grind (arith, nat_tests) in sym (ap (λ b. if b then Some (char_slot (at + suc k) 0) else None) past)
char_at at zero (b ∷ bs) =
    let there : nat_lt 0 (length (b ∷ bs) + 1) ≡ true = grind (arith, nat_tests) in
    let here : at ≡ at + 0 = omega arith in
    ap (λ (o : ℕ). Some (char_slot o b)) here ∙ sym (ap (λ t. if t then Some (char_slot (at + 0) b) else None) there)
char_at at (suc k) (b ∷ bs) =
    let same : nat_lt k (length bs + 1) ≡ nat_lt (suc k) (length (b ∷ bs) + 1) = grind (arith, nat_tests) in
    let on : suc at + k ≡ at + suc k = omega arith in
    let c : ℕ = unwrap_or (slice_get bs k) 0 in
    char_at (suc at) k bs
    ∙ ap (λ (o : ℕ). if nat_lt k (length bs + 1) then Some (char_slot o c) else None) on
    ∙ ap (λ t. if t then Some (char_slot (at + suc k) c) else None) same

-- a part of a char
abbrev char_part : ℕ → Content → ℕ → Option Part
char_part offset v j = filled (blank_of offset (slice_get (made_parts cell.Byte 0) j)) v

one_char : (k b j : ℕ) → char_part (k * 1) (Word b) j ≡ part_of (char_slot (0 + k) b) j
one_char k b zero = let e : k * 1 + 0 ≡ 0 + k = omega arith in ap (λ (o : ℕ). Some (made_part o 1 (value.Word b))) e
one_char k b (suc j) = let none : nat_lt j 0 ≡ false = grind (arith, nat_tests) in sym (ap (λ t. nothing_at t (0 + k + 1 + j)) none)

text_part : (bs : List ℕ) (k j : ℕ) → filled (blanks (part_layout cell.Byte) (length bs + 1) k j) (Word (unwrap_or (slice_get bs k) 0))
    ≡ part_in (slice_get (text_cells 0 bs) k) j
text_part bs k j =
    ap (λ (q : ℕ). filled (if nat_lt q (length bs + 1) then blank_of (q * 1) (shape_in (slice_get (part_layout cell.Byte).cells (k % 1)) j) else None) (Word b))
    (div-one k)
    ∙ ap (λ (r : ℕ). filled (if nat_lt k (length bs + 1) then blank_of (k * 1) (shape_in (slice_get (part_layout cell.Byte).cells r) j) else None) (Word b))
    (mod-one k)
    ∙ by (nat_lt k (length bs + 1)) ∙ sym (ap (λ s. part_in s j) (char_at 0 k bs))
  where
    b : ℕ
    b = unwrap_or (slice_get bs k) 0

    by : (there : Bool) → filled (if there then blank_of (k * 1) (slice_get (made_parts cell.Byte 0) j) else None) (Word b)
        ≡ part_in (if there then Some (char_slot (0 + k) b) else None) j
    by true = one_char k b j
    by false = refl

datum_part : (d : Datum) (k j : ℕ) → filled (blanks (datum_layout d) (datum_count d) k j) (datum_first d k j) ≡ part_in (slice_get (first_object d) k) j
datum_part (datum.Byte b) k j = scalar_part cell.Byte 1 (value.Word 0) (held.Byte (value.Word b)) refl (value.Word b) refl refl k j
datum_part (datum.Word w) k j = scalar_part cell.Word 4 (value.Word 0) (held.Word (value.Word w)) refl (value.Word w) refl refl k j
datum_part datum.Null k j = scalar_part cell.Pointer 4 value.Null (held.Word value.Null) refl value.Null refl refl k j
datum_part (datum.Text bytes) k j = text_part bytes.items k j
datum_part (datum.Address object) k j =
    let v = first_element object in scalar_part cell.Pointer 4 value.Null (held.Word v) refl v refl refl k j
datum_part (datum.Bounds object count) k j = bounds_part object count k j
datum_part (datum.Whole l count) k j =
    let tree : Layout = layout_tree l.value in
    let shape : Option PartShape = shape_in (slice_get tree.cells (k % length tree.cells)) j in
    ap (λ p. filled p (part_first shape)) (blanks_shaped tree count k j)
    ∙ begun_part (nat_lt (k / length tree.cells) count) (k / length tree.cells * tree.bytes) shape
    ∙ block_part true l.value count k j

filled_same : (d : Datum) (k j : ℕ) (p : Option Part) → blanks (datum_layout d) (datum_count d) k j ≡ p
    → (first_memory (datum_tree d ∷ [])).parts (spot_of (Born 0) 0 k) j ≡ filled p (datum_first d k j)
filled_same d k j None e = rw e refl
filled_same d k j (Some p) e = rw e refl

pub first_part : (ds : List Datum) (i k j : ℕ)
    → (first_memory (map datum_tree ds)).parts (spot_of (Born 0) i k) j ≡ part_in (slot_at (map first_object ds) i k) j
first_part [] i k j = refl
first_part (d ∷ ds) zero k j = filled_same d k j (blanks (datum_layout d) (datum_count d) k j) refl ∙ datum_part d k j
first_part (d ∷ ds) (suc i) k j = first_part ds i k j
