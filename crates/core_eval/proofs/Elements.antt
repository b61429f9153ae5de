-- How objects begin, as Core has them: of one cell, or of many elements.
use Rattle.std.specs.Prelude.{if◌then◌else◌, nat_lt, slice_get, option_map}
use Rattle.std.proofs.Common.{
  ◌≡◌,
  ℕ,
  zero,
  suc,
  ◌+◌,
  ◌-◌,
  ◌*◌,
  ◌/◌,
  ◌%◌,
  ◌<◌,
  ◌≤◌,
  Bool,
  true,
  false,
  Option,
  Some,
  None,
  List,
  [],
  ◌∷◌,
  ◌++◌,
  length,
  map,
  refl,
  ap,
  ◌∙◌,
  sym,
  append_assoc,
  suc-mul,
  mod-lt,
  arith,
}
use Rattle.std.proofs.lemmas.Bool.Decides.{nat_tests}
use Rattle.std.proofs.lemmas.List.{length-map}
use Rattle.std.proofs.lemmas.Nat.{div-add-mod', div-mul-add, mod-mul-add}
use Rattle.std.proofs.Math.Nat.{div-eq_of_lt, mod-eq_of_lt}
use Rattle.core_meaning.specs.Memory as memory
use Rattle.core_meaning.specs.Memory.{PartShape, Part, shape_in, blank_of, blanks}
use Rattle.cyc_core.specs.declared.operation.Cell.{Cell}
use Rattle.cyc_core.specs.declared.layout.CellLayout.{CellLayout}
use Rattle.cyc_core.specs.declared.layout.Layout.{Layout}
use Rattle.cyc_core.specs.declared.layout.Local as code
use Rattle.cyc_core.specs.declared.layout.Local.TheVariants as local
use Rattle.cyc_core.specs.Trees.{made_parts, part_layout, cell_parts, layout_tree, local_layout, local_count}
use Rattle.core_eval.specs.Values.{part_in, first_held, blanked}
use Rattle.core_eval.specs.Elements.{each_element, slot_from, block_cells, scalar, blank_object}
use Rattle.core_eval.proofs.Parts.{shape_part, cell_part, one_part}
use Rattle.cyc_words.proofs.Lists.{got_before}

-- ---- something of each cell of so many elements

-- one element more is pushed
pub element_pushed : {A : Type 0} (f : ℕ → CellLayout → A) (cells : List CellLayout) (e count : ℕ) (xs xs' whole : List A) → e < count
    → xs' ≡ xs ++ map (f e) cells → xs ++ each_element f cells e (count - e) ≡ whole
    → xs' ++ each_element f cells (e + 1) (count - (e + 1)) ≡ whole
element_pushed f cells e count xs xs' whole less pushed so_far =
    let left : count - e ≡ suc (count - (e + 1)) = omega (arith, less) in
    let next : e + 1 ≡ suc e = omega arith in
    ap (λ l. l ++ each_element f cells (e + 1) (count - (e + 1))) pushed
    ∙ append_assoc xs (map (f e) cells) (each_element f cells (e + 1) (count - (e + 1)))
    ∙ ap (λ (n : ℕ). xs ++ (map (f e) cells ++ each_element f cells n (count - (e + 1)))) next
    ∙ sym (ap (λ (n : ℕ). xs ++ each_element f cells e n) left) ∙ so_far

get_right : {A : Type 0} (xs ys : List A) (k : ℕ) → length xs ≤ k → slice_get (xs ++ ys) k ≡ slice_get ys (k - length xs)
get_right [] ys k h = ap (slice_get ys) (let z : k ≡ k - 0 = omega arith in z)
get_right (x ∷ xs) ys zero h = absurd (omega (arith, h))
get_right (x ∷ xs) ys (suc k) h =
    get_right xs ys k (omega (arith, h)) ∙ ap (slice_get ys) (let z : k - length xs ≡ suc k - suc (length xs) = omega arith in z)

get_mapped : {A B : Type 0} (f : A → B) (xs : List A) (k : ℕ) → slice_get (map f xs) k ≡ option_map f (slice_get xs k)
get_mapped f [] k = refl
get_mapped f (x ∷ xs) zero = refl
get_mapped f (x ∷ xs) (suc k) = get_mapped f xs k

module _ {A : Type 0} (f : ℕ → CellLayout → A) (cs : List CellLayout) where
  -- how many cells an element has
  abbrev size : ℕ
  size = length cs

  -- that of the r-th cell of the q-th element from the e-th on
  abbrev pub in_element : (e count q r : ℕ) → Option A
  in_element e count q r = (if nat_lt q count then option_map (f (e + q)) (slice_get cs r) else None)

  in_first : (e count y : ℕ) → y < size → slice_get (map (f e) cs) y ≡ in_element e (suc count) (y / size) (y % size)
  in_first e count y less =
      let there : nat_lt 0 (suc count) ≡ true = grind (arith, nat_tests) in
      let here : e + 0 ≡ e = omega arith in
      get_mapped (f e) cs y
      ∙ sym (ap (λ q. in_element e (suc count) q (y % size)) (div-eq_of_lt less)
      ∙ ap (λ r. in_element e (suc count) 0 r) (mod-eq_of_lt less)
      ∙ ap (λ b. if b then option_map (f (e + 0)) (slice_get cs y) else None) there
      ∙ ap (λ (n : ℕ). option_map (f n) (slice_get cs y)) here)

  one_later : (e count q r : ℕ) → in_element (suc e) count q r ≡ in_element e (suc count) (suc q) r
  one_later e count q r =
      let same : nat_lt q count ≡ nat_lt (suc q) (suc count) = grind (arith, nat_tests) in
      let on : suc e + q ≡ e + suc q = omega arith in
      ap (λ b. if b then option_map (f (suc e + q)) (slice_get cs r) else None) same
      ∙ ap (λ (n : ℕ). if nat_lt (suc q) (suc count) then option_map (f n) (slice_get cs r) else None) on

  pub element_at : (e count y : ℕ) → 0 < size → slice_get (each_element f cs e count) y ≡ in_element e count (y / size) (y % size)
  element_at e zero y some =
      let none : nat_lt (y / size) 0 ≡ false = grind (arith, nat_tests) in
      sym (ap (λ b. if b then option_map (f (e + y / size)) (slice_get cs (y % size)) else None) none)
  element_at e (suc count) y some = by (λ rest. element_at (suc e) count rest some) (nat_lt y size) refl
    where
      by : ((rest : ℕ) → slice_get (each_element f cs (suc e) count) rest ≡ in_element (suc e) count (rest / size) (rest % size)) → (b : Bool)
          → nat_lt y size ≡ b → slice_get (each_element f cs e (suc count)) y ≡ in_element e (suc count) (y / size) (y % size)
      by later true t =
          let less : y < size = grind (arith, nat_tests, t) in
          let long = length-map cs (f e) in
          got_before (map (f e) cs) (each_element f cs (suc e) count) y (omega (arith, less, long)) ∙ in_first e count y less
      by later false t =
          let more : size ≤ y = grind (arith, nat_tests, t) in
          let long = length-map cs (f e) in
          let rest = y - size in
          let within : rest % size < size = mod-lt rest some in
          let split : suc (rest / size) * size + rest % size ≡ y =
          (let whole = div-add-mod' rest size in let times = suc-mul (rest / size) size in omega (arith, whole, times, more)) in
          let quotient : suc (rest / size) ≡ y / size = sym (div-mul-add (suc (rest / size)) size (rest % size) within) ∙ ap (λ n. n / size) split in
          let left : rest % size ≡ y % size = sym (mod-mul-add (suc (rest / size)) size (rest % size) within) ∙ ap (λ n. n % size) split in
          get_right (map (f e) cs) (each_element f cs (suc e) count) y (omega (arith, more, long))
          ∙ ap (λ (n : ℕ). slice_get (each_element f cs (suc e) count) (y - n)) long
          ∙ later rest
          ∙ one_later e count (rest / size) (rest % size)
          ∙ ap (λ q. in_element e (suc count) q (rest % size)) quotient ∙ ap (λ r. in_element e (suc count) (y / size) r) left

  -- where there is nothing in an element
  pub no_element : (e count : ℕ) → cs ≡ [] → each_element f cs e count ≡ []
  no_element e zero none = refl
  no_element e (suc count) none = ap (λ l. map (f e) l ++ each_element f cs (suc e) count) none ∙ no_element (suc e) count none

-- ---- what Core's memory has

-- what a part of a cell is of an object of so many elements, at its beginning
abbrev pub shaped : (begun : Bool) → memory.Layout → ℕ → ℕ → ℕ → Option Part
shaped begun l count k j =
    (if nat_lt (k / length l.cells) count then shape_part begun (k / length l.cells * l.bytes) (shape_in (slice_get l.cells (k % length l.cells)) j) else None)

blank_shape : (before : ℕ) (s : Option PartShape) → blank_of before s ≡ shape_part false before s
blank_shape before None = refl
blank_shape before (Some s) = refl

pub blanks_shaped : (l : memory.Layout) (count k j : ℕ) → blanks l count k j ≡ shaped false l count k j
blanks_shaped l count k j =
    ap (λ p. if nat_lt (k / length l.cells) count then p else None)
    (blank_shape (k / length l.cells * l.bytes) (shape_in (slice_get l.cells (k % length l.cells)) j))

none_if : (b begun : Bool) (before : ℕ) → (if b then shape_part begun before None else None) ≡ None
none_if true begun before = refl
none_if false begun before = refl

module _ (begun : Bool) (l : Layout) (count k j : ℕ) where
  cell_in_element : (b : Bool) (e : ℕ) (o : Option CellLayout) (r : ℕ) (cs : List CellLayout) → slice_get cs r ≡ o
      → (if b then shape_part begun (e * l.bytes) (shape_in (slice_get (map cell_parts cs) r) j) else None)
      ≡ part_in (if b then option_map (slot_from begun (e * l.bytes)) o else None) j
  cell_in_element false e o r cs at = refl
  cell_in_element true e None r cs at =
      ap (λ s. shape_part begun (e * l.bytes) (shape_in s j)) (get_mapped cell_parts cs r ∙ ap (option_map cell_parts) at)
  cell_in_element true e (Some c) r cs at =
      ap (λ s. shape_part begun (e * l.bytes) (shape_in s j)) (get_mapped cell_parts cs r ∙ ap (option_map cell_parts) at)
      ∙ cell_part begun c (e * l.bytes) j

  -- a part of a block of so many elements
  pub block_part : shaped begun (layout_tree l) count k j ≡ part_in (slice_get (block_cells begun l count) k) j
  block_part = by l.cells.items refl
    where
      counted : length (map cell_parts l.cells.items) ≡ length l.cells.items
      counted = length-map l.cells.items cell_parts

      shaped_by : ℕ → Option Part
      shaped_by n = (if nat_lt (k / n) count then shape_part begun (k / n * l.bytes) (shape_in (slice_get (map cell_parts l.cells.items) (k % n)) j) else None)

      by : (cs : List CellLayout) → l.cells.items ≡ cs → shaped begun (layout_tree l) count k j ≡ part_in (slice_get (block_cells begun l count) k) j
      by [] none =
          let n = length (map cell_parts l.cells.items) in
          ap (λ (cs : List CellLayout). if nat_lt (k / n) count then shape_part begun (k / n * l.bytes) (shape_in (slice_get (map cell_parts cs) (k % n)) j)
          else None) none
          ∙ none_if (nat_lt (k / n) count) begun (k / n * l.bytes)
          ∙ sym (ap (λ cells. part_in (slice_get cells k) j) (no_element (λ n. slot_from begun (n * l.bytes)) l.cells.items 0 count none))
      by (c ∷ cs) some =
          let n = length l.cells.items in
          let long : n ≡ suc (length cs) = ap length some in
          let first : 0 + k / n ≡ k / n = omega arith in
          ap shaped_by counted
          ∙ cell_in_element (nat_lt (k / n) count) (k / n) (slice_get l.cells.items (k % n)) (k % n) l.cells.items refl
          ∙ sym (ap (λ o. part_in o j) (element_at (λ n. slot_from begun (n * l.bytes)) l.cells.items 0 count k (omega (arith, long))
          ∙ ap (λ (e : ℕ). if nat_lt (k / n) count then option_map (slot_from begun (e * l.bytes)) (slice_get l.cells.items (k % n)) else None) first))

-- a block of so many elements that holds nothing as yet
pub block_parts : (l : Layout) (count k j : ℕ) → blanks (layout_tree l) count k j ≡ part_in (slice_get (block_cells false l count) k) j
block_parts l count k j = blanks_shaped (layout_tree l) count k j ∙ block_part false l count k j

-- ---- an object of one cell

-- a cell that there isn't
no_cell : (shapes : List (List PartShape)) (k j before : ℕ) → length shapes ≤ k → blank_of before (shape_in (slice_get shapes k) j) ≡ None
no_cell [] k j before le = refl
no_cell (s ∷ shapes) zero j before le = absurd (omega (arith, le))
no_cell (s ∷ shapes) (suc k) j before le = no_cell shapes k j before (omega (arith, le))

quotient_more : (n k q : ℕ) → k / n ≡ q → 0 < n → n ≤ k → 1 ≤ q
quotient_more n k zero e some le = absurd (let none : n * (k / n) ≡ n * 0 = ap (λ x. n * x) e in omega (arith, none))
quotient_more n k (suc q) e some le = omega arith

-- one element of a layout is its cells
pub one_element : (l : memory.Layout) (k j : ℕ) → blanks l 1 k j ≡ blank_of 0 (shape_in (slice_get l.cells k) j)
one_element l k j = by (length l.cells) refl (nat_lt k (length l.cells)) refl
  where
    at_last : (n : ℕ) → length l.cells ≡ n → n ≤ k → blanks l 1 k j ≡ None
    at_last zero e le = by_now (nat_lt (k / length l.cells) 1)
      where
        by_now : (b : Bool) → (if b then blank_of (k / length l.cells * l.bytes) (shape_in (slice_get l.cells (k % length l.cells)) j) else None) ≡ None
        by_now true = no_cell l.cells (k % length l.cells) j (k / length l.cells * l.bytes) (omega (arith, e))
        by_now false = refl
    at_last (suc n) e le =
        let more = quotient_more (length l.cells) k (k / length l.cells) refl (omega (arith, e)) (omega (arith, e, le)) in
        let no : nat_lt (k / length l.cells) 1 ≡ false = grind (arith, nat_tests, more) in
        ap (λ b. if b then blank_of (k / length l.cells * l.bytes) (shape_in (slice_get l.cells (k % length l.cells)) j) else None) no

    by : (n : ℕ) → length l.cells ≡ n → (b : Bool) → nat_lt k (length l.cells) ≡ b → blanks l 1 k j ≡ blank_of 0 (shape_in (slice_get l.cells k) j)
    by n e true within =
        let less : k < length l.cells = grind (arith, nat_tests, within) in
        ap (λ (x : ℕ). if nat_lt x 1 then blank_of (x * l.bytes) (shape_in (slice_get l.cells (k % length l.cells)) j) else None) (div-eq_of_lt less)
        ∙ ap (λ (x : ℕ). blank_of x (shape_in (slice_get l.cells (k % length l.cells)) j)) (let z : 0 * l.bytes ≡ 0 = omega arith in z)
        ∙ ap (λ (x : ℕ). blank_of 0 (shape_in (slice_get l.cells x) j)) (mod-eq_of_lt less)
    by n e false past =
        let le : length l.cells ≤ k = grind (arith, nat_tests, past) in
        at_last n e (omega (arith, e, le)) ∙ sym (no_cell l.cells k j 0 le)

scalar_blank : (c : Cell) (k j : ℕ) → blank_of 0 (shape_in (slice_get (made_parts c 0 ∷ []) k) j) ≡ part_in (slice_get (scalar (blanked (first_held c))) k) j
scalar_blank c zero j = blank_shape 0 (slice_get (made_parts c 0) j) ∙ one_part false c j
scalar_blank c (suc k) j = refl

-- ---- a local, which holds nothing as yet

pub blank_part : (l : code.Local) (k j : ℕ) → blanks (local_layout l) (local_count l) k j ≡ part_in (slice_get (blank_object l) k) j
blank_part (local.Scalar c) k j = one_element (part_layout c) k j ∙ scalar_blank c k j
blank_part (local.Whole l count) k j = block_parts l.value count k j
