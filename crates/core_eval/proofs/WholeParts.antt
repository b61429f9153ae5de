-- What the parts of a cell are after a copy, and after a clearing.
use Rattle.std.specs.Prelude.{if◌then◌else◌, ◌&&◌, nat_lt, map, slice_get, option_map}
use Rattle.std.proofs.Common.{
  ◌≡◌,
  ℕ,
  zero,
  suc,
  ◌+◌,
  ◌-◌,
  ◌*◌,
  ◌/◌,
  ◌%◌,
  ◌<◌,
  Bool,
  true,
  false,
  Option,
  Some,
  None,
  List,
  [],
  ◌∷◌,
  length,
  refl,
  ap,
  ◌∙◌,
  sym,
  suc-mul,
  arith,
}
use Rattle.std.proofs.lemmas.Bool.{and_parts}
use Rattle.std.proofs.lemmas.Bool.Decides.{nat_tests}
use Rattle.std.proofs.lemmas.List.{length-map, length-append}
use Rattle.core_meaning.specs.Memory.{Spot, Part, PartShape, Layout, Memory}
use Rattle.core_meaning.specs.Operations.{cells_on, part_of, on_from, copied, in_element, cleared}
use Rattle.cyc_core.specs.declared.layout.CellLayout.{CellLayout}
use Rattle.cyc_core.specs.Trees.{cell_parts}
use Rattle.core_eval.specs.declared.value.Slot.{Slot}
use Rattle.core_eval.specs.declared.held.Held.{Held}
use Rattle.core_eval.specs.Values.{part_in, first_held}
use Rattle.core_eval.specs.Elements.{each_element}
use Rattle.core_eval.specs.Whole.{
  is_cell,
  is_alike,
  are_cells,
  are_alike,
  are_elements,
  elements_alike,
  held_by,
  values_from,
  begins_as,
  first_elements,
}
use Rattle.core_eval.proofs.Parts.{cell_shapes}
use Rattle.core_eval.proofs.Elements.{element_at, no_element}
use Rattle.core_eval.proofs.Filled.{filled_slot}
use Rattle.core_eval.proofs.CopiedParts.{copied_by, cleared_by, held_copied, held_cleared}

-- ---- what a copy and what a clearing change

module _ (l : Layout) (m : Memory) (to : Spot) where
  pub copied_part : (from : Spot) (t : Spot) (j : ℕ) (o : Option Part) (s : Option PartShape) → m.parts t j ≡ o
      → part_of l (cells_on (length l.cells) to t) j ≡ s
      → (copied l to from m).parts t j ≡ copied_by o s (m.parts (on_from from (cells_on (length l.cells) to t)) j)
  copied_part from t j None s e f = rw e refl
  copied_part from t j (Some p) None e f = rw (e, f) refl
  copied_part from t j (Some p) (Some s) e f = rw (e, f) refl

  pub cleared_part : (count : ℕ) (t : Spot) (j : ℕ) (o : Option Part) → m.parts t j ≡ o
      → (cleared l count to m).parts t j ≡ cleared_by o (part_of l (in_element l (cells_on (count * length l.cells) to t)) j)
  cleared_part count t j None e = rw e refl
  cleared_part count t j (Some p) e = rw e refl

-- ---- the values of a copy

-- where a list of values comes from
pub values_at : (slots : ℕ → Option Slot) (cs : List CellLayout) (k q : ℕ) (v : Held) → slice_get (values_from slots k cs) q ≡ Some v
    → (c : CellLayout) × (slice_get cs q ≡ Some c) × (v ≡ held_by c (slots (k + q)))
values_at slots [] k q v e = absurd (cc)
values_at slots (c ∷ cs) k zero v e =
    let same : held_by c (slots k) ≡ v = cc in (c, refl, sym same ∙ ap (λ n. held_by c (slots n)) (let z : k ≡ k + 0 = omega arith in z))
values_at slots (c ∷ cs) k (suc q) v e =
    let (d, at, is) = values_at slots cs (k + 1) q v e in (d, at, is ∙ ap (λ n. held_by d (slots n)) (let z : k + 1 + q ≡ k + suc q = omega arith in z))

pub values_long : (slots : ℕ → Option Slot) (cs : List CellLayout) (k : ℕ) → length (values_from slots k cs) ≡ length (map cell_parts cs)
values_long slots [] k = refl
values_long slots (c ∷ cs) k = ap suc (values_long slots cs (k + 1))

-- each cell that lies as it has to is there
pub cell_there : (slots : ℕ → Option Slot) (byte : ℕ) (cs : List CellLayout) (k q : ℕ) (c : CellLayout) → are_cells slots k byte cs ≡ true
    → slice_get cs q ≡ Some c → is_cell (slots (k + q)) byte c ≡ true
cell_there slots byte [] k q c laid at = absurd (cc)
cell_there slots byte (d ∷ cs) k zero c laid at =
    let same : d ≡ c = cc in
    ap (λ n. is_cell (slots n) byte c) (let z : k + 0 ≡ k = omega arith in z) ∙ ap (is_cell (slots k) byte) (sym same)
    ∙ first (is_cell (slots k) byte d) laid
  where
    first : (b : Bool) → b && are_cells slots (k + 1) byte cs ≡ true → b ≡ true
    first true e = refl
    first false e = cc
cell_there slots byte (d ∷ cs) k (suc q) c laid at =
    ap (λ n. is_cell (slots n) byte c) (let z : k + suc q ≡ k + 1 + q = omega arith in z)
    ∙ cell_there slots byte cs (k + 1) q c (second (is_cell (slots k) byte d) laid) at
  where
    second : (b : Bool) → b && are_cells slots (k + 1) byte cs ≡ true → are_cells slots (k + 1) byte cs ≡ true
    second true e = e
    second false e = cc

-- and may have a pointer where that may
pub alike_there : (slots : ℕ → Option Slot) (cs : List CellLayout) (k q : ℕ) (c : CellLayout) → are_alike slots k cs ≡ true → slice_get cs q ≡ Some c
    → is_alike (slots (k + q)) c ≡ true
alike_there slots [] k q c alike at = absurd (cc)
alike_there slots (d ∷ cs) k zero c alike at =
    let same : d ≡ c = cc in
    ap (λ n. is_alike (slots n) c) (let z : k + 0 ≡ k = omega arith in z) ∙ ap (is_alike (slots k)) (sym same)
    ∙ (and_parts (is_alike (slots k) d) (are_alike slots (k + 1) cs) alike).0
alike_there slots (d ∷ cs) k (suc q) c alike at =
    ap (λ n. is_alike (slots n) c) (let z : k + suc q ≡ k + 1 + q = omega arith in z)
    ∙ alike_there slots cs (k + 1) q c (and_parts (is_alike (slots k) d) (are_alike slots (k + 1) cs) alike).1 at

pub cell_at : (cs : List CellLayout) (q : ℕ) (c : CellLayout) → slice_get cs q ≡ Some c → slice_get (map cell_parts cs) q ≡ Some (cell_parts c)
cell_at [] q c e = cc
cell_at (d ∷ cs) zero c e = let same : d ≡ c = cc in ap (λ x. Some (cell_parts x)) same
cell_at (d ∷ cs) (suc q) c e = cell_at cs q c e

-- ---- the values of a clearing

-- each element's cells lie as they have to
pub element_laid : (slots : ℕ → Option Slot) (cs : List CellLayout) (bytes n e k byte : ℕ) → e < n → are_elements slots k byte cs bytes n ≡ true
    → are_cells slots (k + e * length cs) (byte + e * bytes) cs ≡ true
element_laid slots cs bytes zero e k byte less laid = absurd (omega (arith, less))
element_laid slots cs bytes (suc n) zero k byte less laid =
    ap (λ (x : ℕ). are_cells slots x (byte + 0 * bytes) cs) (let z : k + 0 * length cs ≡ k = omega arith in z)
    ∙ ap (λ (x : ℕ). are_cells slots k x cs) (let z : byte + 0 * bytes ≡ byte = omega arith in z)
    ∙ (and_parts _ _ laid).0
element_laid slots cs bytes (suc n) (suc e) k byte less laid =
    let cells : k + suc e * length cs ≡ k + length cs + e * length cs = (let times = suc-mul e (length cs) in omega (arith, times)) in
    let more : byte + suc e * bytes ≡ byte + bytes + e * bytes = (let times = suc-mul e bytes in omega (arith, times)) in
    ap (λ (x : ℕ). are_cells slots x (byte + suc e * bytes) cs) cells
    ∙ ap (λ (x : ℕ). are_cells slots (k + length cs + e * length cs) x cs) more
    ∙ element_laid slots cs bytes n e (k + length cs) (byte + bytes) (omega (arith, less)) (and_parts _ _ laid).1

-- and may have pointers as those have
pub element_alike : (slots : ℕ → Option Slot) (cs : List CellLayout) (n e k : ℕ) → e < n → elements_alike slots k cs n ≡ true
    → are_alike slots (k + e * length cs) cs ≡ true
element_alike slots cs zero e k less alike = absurd (omega (arith, less))
element_alike slots cs (suc n) zero k less alike =
    ap (λ (x : ℕ). are_alike slots x cs) (let z : k + 0 * length cs ≡ k = omega arith in z) ∙ (and_parts _ _ alike).0
element_alike slots cs (suc n) (suc e) k less alike =
    let cells : k + suc e * length cs ≡ k + length cs + e * length cs = (let times = suc-mul e (length cs) in omega (arith, times)) in
    ap (λ (x : ℕ). are_alike slots x cs) cells ∙ element_alike slots cs n e (k + length cs) (omega (arith, less)) (and_parts _ _ alike).1

-- elements that are tested one after the other
pub alike_passed : (slots : ℕ → Option Slot) (cs : List CellLayout) (k n count : ℕ) (whole : Bool) → n < count → elements_alike slots k cs (count - n) ≡ whole
    → (k' : ℕ) → are_alike slots k cs ≡ true → k' ≡ k + length cs → elements_alike slots k' cs (count - (n + 1)) ≡ whole
alike_passed slots cs k n count whole less so_far k' alike cells =
    let left : count - n ≡ suc (count - (n + 1)) = omega (arith, less) in
    ap (λ x. elements_alike slots x cs (count - (n + 1))) cells
    ∙ sym (ap (λ b. b && elements_alike slots (k + length cs) cs (count - (n + 1))) alike)
    ∙ sym (ap (elements_alike slots k cs) left) ∙ so_far

module _ (slots : ℕ → Option Slot) (cs : List CellLayout) (bytes k byte n count : ℕ) (whole : Bool) (less : n < count)
    (so_far : are_elements slots k byte cs bytes (count - n) ≡ whole) where
  one_more : (are_cells slots k byte cs && are_elements slots (k + length cs) (byte + bytes) cs bytes (count - (n + 1))) ≡ whole
  one_more =
      let left : count - n ≡ suc (count - (n + 1)) = omega (arith, less) in
      sym (ap (are_elements slots k byte cs bytes) left) ∙ so_far

  pub element_passed : (k' byte' : ℕ) → are_cells slots k byte cs ≡ true → k' ≡ k + length cs → byte' ≡ byte + bytes
      → are_elements slots k' byte' cs bytes (count - (n + 1)) ≡ whole
  element_passed k' byte' laid cells more =
      ap (λ x. are_elements slots x byte' cs bytes (count - (n + 1))) cells
      ∙ ap (λ x. are_elements slots (k + length cs) x cs bytes (count - (n + 1))) more
      ∙ sym (ap (λ b. b && are_elements slots (k + length cs) (byte + bytes) cs bytes (count - (n + 1))) laid) ∙ one_more

  pub element_failed : are_cells slots k byte cs ≡ false → false ≡ whole
  element_failed unlaid =
      sym (ap (λ b. b && are_elements slots (k + length cs) (byte + bytes) cs bytes (count - (n + 1))) unlaid) ∙ one_more

-- the cell that begins as a value
pub record IsFirst (cs : List CellLayout) (count q : ℕ) (v : Held) : Type 0 where
  pub cell : CellLayout
  pub there : slice_get cs (q % length cs) ≡ Some cell
  pub value : v ≡ first_held cell.cell
  pub within : q / length cs < count

pub first_at : (cs : List CellLayout) (count q : ℕ) (v : Held) → slice_get (first_elements cs count) q ≡ Some v → IsFirst cs count q v
first_at cs count q v e = by cs refl
  where
    from_element : (b : Bool) (o : Option CellLayout) → nat_lt (q / length cs) count ≡ b → slice_get cs (q % length cs) ≡ o
        → (if b then option_map begins_as o else None) ≡ Some v → IsFirst cs count q v
    from_element false o less at is = cc
    from_element true None less at is = cc
    from_element true (Some c) less at is = record {
      cell = c;
      there = at;
      value = (let same : begins_as c ≡ v = cc in sym same);
      within = grind (arith, nat_tests, less);
    }

    by : (ds : List CellLayout) → cs ≡ ds → IsFirst cs count q v
    by [] none = absurd (let no : None ≡ Some v = sym (ap (λ l. slice_get l q) (no_element (λ e. begins_as) cs 0 count none)) ∙ e in cc)
    by (d ∷ ds) some =
        let long : length cs ≡ suc (length ds) = ap length some in
        from_element (nat_lt (q / length cs) count) (slice_get cs (q % length cs)) refl refl
        (sym (element_at (λ e. begins_as) cs 0 count q (omega (arith, long))) ∙ e)

pub first_long : (cs : List CellLayout) (e count : ℕ) → length (each_element (λ e. begins_as) cs e count) ≡ count * length cs
first_long cs e zero = let z : 0 ≡ 0 * length cs = omega arith in z
first_long cs e (suc count) =
    let others = first_long cs (suc e) count in
    let one = length-map cs begins_as in
    let both = length-append (map begins_as cs) (each_element (λ e. begins_as) cs (suc e) count) in
    let times = suc-mul count (length cs) in
    omega (arith, others, one, both, times)

-- ---- what a cell gets

-- what a cell gets from another one
pub cell_copied : (o : Option Slot) (c : CellLayout) (from : Option Slot) (byte more j : ℕ) → is_alike o c ≡ true → is_alike from c ≡ true
    → is_cell o byte c ≡ true → is_cell from more c ≡ true
    → copied_by (part_in o j) (slice_get (cell_parts c) j) (part_in from j) ≡ part_in (filled_slot (Some (held_by c from)) o) j
cell_copied None c from byte more j alike alike_from laid laid_from = refl
cell_copied (Some s) c None byte more j alike alike_from laid laid_from = absurd (cc)
cell_copied (Some s) c (Some from) byte more j alike alike_from laid laid_from =
    ap (λ shapes. copied_by (part_in (Some s) j) (slice_get shapes j) (part_in (Some from) j)) (cell_shapes c)
    ∙ held_copied s.held (first_held c.cell) from.held s.offset s.padding c.offset c.padding from.offset from.padding j
    alike alike_from (and_parts _ _ laid).1 (and_parts _ _ laid_from).1

-- what a cell begins with
pub cell_cleared : (o : Option Slot) (c : CellLayout) (byte j : ℕ) → is_alike o c ≡ true → is_cell o byte c ≡ true
    → cleared_by (part_in o j) (slice_get (cell_parts c) j) ≡ part_in (filled_slot (Some (first_held c.cell)) o) j
cell_cleared None c byte j alike laid = refl
cell_cleared (Some s) c byte j alike laid =
    ap (λ shapes. cleared_by (part_in (Some s) j) (slice_get shapes j)) (cell_shapes c)
    ∙ held_cleared s.held (first_held c.cell) s.offset s.padding c.offset c.padding j alike (and_parts _ _ laid).1
