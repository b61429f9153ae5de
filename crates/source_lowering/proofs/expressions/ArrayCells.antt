-- The elements of an array in the source: their cells, and what they begin with.
use Rattle.std.proofs.Common.{◌≡◌, ℕ, suc, ◌+◌, ◌<◌, List, [], ◌∷◌, map, length, Bool, true, false, Option, Some, None, refl, sym, ap, ◌∙◌, subst, arith}
use Rattle.std.specs.Prelude.{◌*◌, ◌/◌, ◌%◌, nat_lt, if◌then◌else◌, slice_get}
use Rattle.std.proofs.Math.Nat.{mod-eq_of_lt, mul-add-mod_self_right, mul_comm, div-mul-le_self, lt_of_mul-lt-mul_right}
use Rattle.std.proofs.lemmas.Nat.{mul-add-lt, div-add-mod'}
use Rattle.std.proofs.lemmas.List.{length-map}
use Rattle.std.proofs.lemmas.Bool.Decides.{nat_tests}
use Rattle.std.proofs.lemmas.Option.{none-some}
use Rattle.source_meaning.specs.Shapes.{Shape}
use Rattle.source_meaning.specs.Memory as source
use Rattle.source_meaning.specs.Memory.{Cell, array_of}
use Rattle.source_meaning.specs.Values.{is_lent}
use Rattle.source_lowering.specs.Simulation.{AreCells}
use Rattle.source_lowering.proofs.expressions.Making.{cell_with, spot_of, IsUnlentObject, cells_unlent}

-- a cell of an element
pub array_cell : (count k i : ℕ) (cells : List Cell) → k < count → i < length cells → array_of count cells (k * length cells + i) ≡ slice_get cells i
array_cell count k i cells less inside =
    ap (λ b. if b then slice_get cells ((k * length cells + i) % length cells) else None) there ∙
    ap (slice_get cells) (mul-add-mod_self_right k (length cells) i ∙ mod-eq_of_lt inside)
  where
    below : k * length cells + i < count * length cells
    below = subst (λ z. k * length cells + i < z) (mul_comm (length cells) count) (mul-add-lt k (length cells) i count less inside)

    there : nat_lt (k * length cells + i) (count * length cells) ≡ true
    there = grind (arith, nat_tests, below)

-- those of an element, from one on
cells_of_element : (m : source.Memory) (r : source.Region) (index cell : ℕ) (g : Shape → source.Content) (i : ℕ) (all xs : List Shape)
    → i + length xs ≡ length all → ((j : ℕ) → slice_get all (i + j) ≡ slice_get xs j)
    → ((j : ℕ) → j < length all → m.cells (spot_of r index (cell + j)) ≡ slice_get (map (cell_with g) all) j)
    → AreCells m (spot_of r index (cell + i)) xs
cells_of_element m r index cell g i all [] count same h = tt
cells_of_element m r index cell g i all (x ∷ xs) count same h = (
  record { content = g x; is = h i (omega (arith, count)) ∙ mapped all i (ap (slice_get all) none_on ∙ same 0) },
  subst (λ z. AreCells m (spot_of r index z) xs) next
      (cells_of_element m r index cell g (suc i) all xs (omega (arith, count)) (λ j. ap (slice_get all) (one_on j) ∙ same (suc j)) h),
)
  where
    mapped : (ys : List Shape) (j : ℕ) → slice_get ys j ≡ Some x → slice_get (map (cell_with g) ys) j ≡ Some (cell_with g x)
    mapped [] j e = absurd (none-some x e)
    mapped (y ∷ ys) Rattle.std.proofs.Common.zero e = ap shape_of e
      where
        shape_of : Option Shape → Option Cell
        shape_of None = None
        shape_of (Some s) = Some (cell_with g s)
    mapped (y ∷ ys) (suc j) e = mapped ys j e

    none_on : i ≡ i + 0
    none_on = omega arith

    one_on : (j : ℕ) → suc i + j ≡ i + suc j
    one_on j = omega arith

    next : cell + suc i ≡ cell + i + 1
    next = omega arith

-- an element of an array that begins by its shapes
pub element_there : (m : source.Memory) (r : source.Region) (index count k : ℕ) (g : Shape → source.Content) (shapes : List Shape) → k < count
    → ((cell : ℕ) → m.cells (spot_of r index cell) ≡ array_of count (map (cell_with g) shapes) cell)
    → AreCells m (spot_of r index (k * length shapes)) shapes
element_there m r index count k g shapes less h =
    subst (λ z. AreCells m (spot_of r index z) shapes) no_more
    (cells_of_element m r index (k * length shapes) g 0 shapes shapes (omega arith) (λ j. ap (slice_get shapes) (zero_on j))
    (λ j inside.
    h (k * length shapes + j) ∙ ap (λ z. array_of count (map (cell_with g) shapes) (k * z + j)) (sym same) ∙
    array_cell count k j (map (cell_with g) shapes) less (subst (λ z. j < z) (sym same) inside)))
  where
    same : length (map (cell_with g) shapes) ≡ length shapes
    same = length-map shapes (cell_with g)

    zero_on : (j : ℕ) → 0 + j ≡ j
    zero_on j = omega arith

    no_more : k * length shapes + 0 ≡ k * length shapes
    no_more = omega arith

-- a cell that is there is in one of the elements
pub record InElement (count cell : ℕ) (cells : List Cell) (x : Cell) : Type 0 where
  pub element : ℕ
  pub number : ℕ
  pub less : element < count
  pub inside : number < length cells
  pub cell_is : cell ≡ element * length cells + number
  pub is : slice_get cells number ≡ Some x

some_below : (cells : List Cell) (i : ℕ) (x : Cell) → slice_get cells i ≡ Some x → i < length cells
some_below [] i x e = absurd (none-some x e)
some_below (y ∷ ys) Rattle.std.proofs.Common.zero x e = omega arith
some_below (y ∷ ys) (suc i) x e = let f = some_below ys i x e in omega (arith, f)

pub in_element : (count cell : ℕ) (cells : List Cell) (x : Cell) → array_of count cells cell ≡ Some x → InElement count cell cells x
in_element count cell cells x e = by (nat_lt cell (count * length cells)) refl
  where
    by : (b : Bool) → nat_lt cell (count * length cells) ≡ b → InElement count cell cells x
    by false f = absurd (none-some x (sym (ap (λ b. if b then slice_get cells (cell % length cells) else None) f) ∙ e))
    by true f =
        let is = sym (ap (λ b. if b then slice_get cells (cell % length cells) else None) f) ∙ e in
        let inside = some_below cells (cell % length cells) x is in
        let below : cell < count * length cells = grind (arith, nat_tests, f) in
        record {
          element = cell / length cells;
          number = cell % length cells;
          less = few (length cells) inside below;
          inside = inside;
          cell_is = sym (div-add-mod' cell (length cells));
          is = is;
        }
      where
        few : (n : ℕ) → cell % n < n → cell < count * n → cell / n < count
        few n inside below = let g = div-mul-le_self cell n in lt_of_mul-lt-mul_right n (omega (arith, g, below))

-- an array of cells that aren't lent
pub array_unlent : (count : ℕ) (g : Shape → source.Content) → ((s : Shape) → is_lent (g s) ≡ false) → (xs : List Shape)
    → IsUnlentObject (array_of count (map (cell_with g) xs))
array_unlent count g free xs = record {
  none = λ cell shape v e.
      let inside = in_element count cell (map (cell_with g) xs) (record { shape = shape; content = source.Lent v }) e in
      (cells_unlent g free xs).none inside.number shape v inside.is;
}
