-- The elements of an object in Core: where their cells and parts lie.
use Rattle.std.proofs.Common.{◌≡◌, ℕ, suc, ◌+◌, ◌<◌, List, [], ◌∷◌, length, Some, None, ap, ◌∙◌, subst, arith, true}
use Rattle.std.specs.Prelude.{◌*◌, ◌/◌, ◌%◌, nat_lt, if◌then◌else◌, slice_get}
use Rattle.std.proofs.Math.Nat.{mod-eq_of_lt, mul-add-mod_self_right, mul_comm}
use Rattle.std.proofs.lemmas.Nat.{div-mul-add, mul-add-lt}
use Rattle.std.proofs.lemmas.Bool.Decides.{nat_tests}
use Rattle.core_meaning.specs.Memory as core
use Rattle.core_meaning.specs.Memory.{Part, PartShape, Layout, shape_in, blank_of, blanks}
use Rattle.source_lowering.specs.Simulation.{PartIs, AreShaped, AreMade}

abbrev pub spot_in : core.Region → ℕ → ℕ → core.Spot
spot_in r index cell = record { region = r; object = index; cell = cell }

-- the parts of an object of so many elements lie there
abbrev pub HasBlanks : core.Memory → core.Region → ℕ → Layout → ℕ → Type 0
HasBlanks c r index l count = (cell j : ℕ) (p : Part) → blanks l count cell j ≡ Some p → PartIs c (spot_in r index cell) j p.offset p.width

-- ---- lists further on

pub further_on : (xs ys : List PartShape) (j : ℕ) (y : PartShape) → ((i : ℕ) → slice_get xs (j + i) ≡ slice_get (y ∷ ys) i) → (i : ℕ)
    → slice_get xs (suc j + i) ≡ slice_get ys i
further_on xs ys j y same i = ap (slice_get xs) one_on ∙ same (suc i)
  where
    one_on : suc j + i ≡ j + suc i
    one_on = omega arith

pub here_on : (xs ys : List PartShape) (j : ℕ) (y : PartShape) → ((i : ℕ) → slice_get xs (j + i) ≡ slice_get (y ∷ ys) i) → slice_get xs j ≡ Some y
here_on xs ys j y same = ap (slice_get xs) none_on ∙ same 0
  where
    none_on : j ≡ j + 0
    none_on = omega arith

-- ---- the numbers of cells

-- that of a cell of an element
abbrev pub element_cell : Layout → (k i : ℕ) → ℕ
element_cell l k i = k * length l.cells + i

pub cell_below : (l : Layout) (count k i : ℕ) → k < count → i < length l.cells → element_cell l k i < count * length l.cells
cell_below l count k i less inside =
    subst (λ z. element_cell l k i < z) (mul_comm (length l.cells) count) (mul-add-lt k (length l.cells) i count less inside)

pub element_number : (l : Layout) (k i : ℕ) → i < length l.cells → element_cell l k i / length l.cells ≡ k
element_number l k i inside = div-mul-add k (length l.cells) i inside

pub cell_number : (l : Layout) (k i : ℕ) → i < length l.cells → element_cell l k i % length l.cells ≡ i
cell_number l k i inside = mul-add-mod_self_right k (length l.cells) i ∙ mod-eq_of_lt inside

-- ---- where they lie

-- what is known of an array's cell
pub element_blank : (l : Layout) (count k i j : ℕ) (xs : List PartShape) → k < count → i < length l.cells → slice_get l.cells i ≡ Some xs
    → blanks l count (element_cell l k i) j ≡ blank_of (k * l.bytes) (slice_get xs j)
element_blank l count k i j xs less inside is =
    ap (λ z. if nat_lt z count then blank_of (z * l.bytes) (shape_in (slice_get l.cells (element_cell l k i % length l.cells)) j) else None)
    (element_number l k i inside) ∙
    ap (λ b. if b then blank_of (k * l.bytes) (shape_in (slice_get l.cells (element_cell l k i % length l.cells)) j) else None) there ∙
    ap (λ z. blank_of (k * l.bytes) (shape_in z j)) (ap (slice_get l.cells) (cell_number l k i inside) ∙ is)
  where
    there : nat_lt k count ≡ true
    there = grind (arith, nat_tests, less)

-- parts, from one on, are shaped as they are in the list
shaped_all : (c : core.Memory) (t : core.Spot) (before j : ℕ) (all xs : List PartShape) → ((i : ℕ) → slice_get all (j + i) ≡ slice_get xs i)
    → ((i : ℕ) (x : PartShape) → slice_get all i ≡ Some x → PartIs c t i (before + x.offset) x.width) → AreShaped c t before j xs
shaped_all c t before j all [] same h = tt
shaped_all c t before j all (x ∷ xs) same h =
    (h j x (here_on all xs j x same), shaped_all c t before (suc j) all xs (further_on all xs j x same) h)

-- the cells of an element, from one on
element_cells : (c : core.Memory) (r : core.Region) (index : ℕ) (l : Layout) (count k i : ℕ) (xs : List (List PartShape)) → k < count
    → i + length xs ≡ length l.cells → ((j : ℕ) → slice_get l.cells (i + j) ≡ slice_get xs j) → HasBlanks c r index l count
    → AreMade c (spot_in r index (element_cell l k i)) (k * l.bytes) xs
element_cells c r index l count k i [] less number same here = tt
element_cells c r index l count k i (x ∷ xs) less number same here = (
  shaped_all c (spot_in r index (element_cell l k i)) (k * l.bytes) 0 x x (λ j. ap (slice_get x) (zero_on j))
      (λ j y e. here (element_cell l k i) j (record { offset = k * l.bytes + y.offset; width = y.width; content = core.Blank })
      (element_blank l count k i j x less inside (ap (slice_get l.cells) none_on ∙ same 0) ∙ ap (blank_of (k * l.bytes)) e)),
  subst (λ z. AreMade c (spot_in r index z) (k * l.bytes) xs) next
      (element_cells c r index l count k (suc i) xs less (omega (arith, number)) (λ j. ap (slice_get l.cells) (one_on j) ∙ same (suc j)) here),
)
  where
    inside : i < length l.cells
    inside = omega (arith, number)

    zero_on : (j : ℕ) → 0 + j ≡ j
    zero_on j = omega arith

    none_on : i ≡ i + 0
    none_on = omega arith

    one_on : (j : ℕ) → suc i + j ≡ i + suc j
    one_on j = omega arith

    next : k * length l.cells + suc i ≡ k * length l.cells + i + 1
    next = omega arith

pub element_made : (c : core.Memory) (r : core.Region) (index : ℕ) (l : Layout) (count k : ℕ) → k < count → HasBlanks c r index l count
    → AreMade c (spot_in r index (k * length l.cells)) (k * l.bytes) l.cells
element_made c r index l count k less here =
    subst (λ z. AreMade c (spot_in r index z) (k * l.bytes) l.cells) no_more
    (element_cells c r index l count k 0 l.cells less (omega arith) (λ j. ap (slice_get l.cells) (zero_on j)) here)
  where
    zero_on : (j : ℕ) → 0 + j ≡ j
    zero_on j = omega arith

    no_more : k * length l.cells + 0 ≡ k * length l.cells
    no_more = omega arith
