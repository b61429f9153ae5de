-- The elements of an array in Core begin: they are cleared.
use Rattle.std.proofs.Common.{◌≡◌, ℕ, suc, ◌+◌, ◌<◌, List, [], ◌∷◌, ◌++◌, map, length, true, nat_eq, Some, None, refl, ap, ◌∙◌, arith}
use Rattle.std.specs.Prelude.{◌*◌, ◌-◌, ◌&&◌, nat_lt, nat_le, if◌then◌else◌, slice_get}
use Rattle.std.proofs.lemmas.Bool.{eq-eqb}
use Rattle.std.proofs.lemmas.Bool.Decides.{nat_tests}
use Rattle.source_meaning.specs.Placing.{Placed}
use Rattle.core_meaning.specs.Memory as core
use Rattle.core_meaning.specs.Memory.{Part, PartShape, Layout}
use Rattle.core_meaning.specs.Operations.{cells_on, cleared}
use Rattle.core_meaning.proofs.Spots.{region_self}
use Rattle.source_lowering.specs.Layouts.{Piece, part_shape_of}
use Rattle.source_lowering.specs.Simulation.{AreShaped, PartsHold}
use Rattle.source_lowering.proofs.memory.CellParts.{firsts_of}
use Rattle.source_lowering.proofs.expressions.ElementsMade.{spot_in, here_on, further_on, element_cell, cell_below, cell_number}

-- ---- they are cleared

-- a part of an element has what it begins with
pub element_cleared : (l : Layout) (r : core.Region) (index count : ℕ) (c : core.Memory) (k i j : ℕ) (xs : List PartShape) (x : PartShape) (p : Part)
    → k < count → i < length l.cells → slice_get l.cells i ≡ Some xs → slice_get xs j ≡ Some x
    → c.parts (spot_in r index (element_cell l k i)) j ≡ Some p
    → (cleared l count (spot_in r index 0) c).parts (spot_in r index (element_cell l k i)) j ≡ Some (record p { content = x.first })
element_cleared l r index count c k i j xs x p less inside is shape part = rw (part, here, cell_number l k i inside, is, shape) refl
  where
    cell : ℕ
    cell = element_cell l k i

    below : cell < count * length l.cells
    below = cell_below l count k i less inside

    within : nat_lt cell (0 + count * length l.cells) ≡ true
    within = grind (arith, nat_tests, below)

    after : nat_le 0 cell ≡ true
    after = grind (arith, nat_tests)

    none : cell - 0 ≡ cell
    none = omega arith

    here : cells_on (count * length l.cells) (spot_in r index 0) (spot_in r index cell) ≡ Some cell
    here =
        ap (λ z. if (z && nat_eq index index) && (nat_le 0 cell && nat_lt cell (0 + count * length l.cells)) then Some (cell - 0) else None) (region_self r) ∙
        ap (λ z. if z && (nat_le 0 cell && nat_lt cell (0 + count * length l.cells)) then Some (cell - 0) else None) (eq-eqb index index refl) ∙
        ap (λ z. if z && nat_lt cell (0 + count * length l.cells) then Some (cell - 0) else None) after ∙
        ap (λ z. if z then Some (cell - 0) else None) within ∙ ap (λ z. Some z) none

-- those of a cell's value
pub element_holds : (l : Layout) (r : core.Region) (index count b : ℕ) (c : core.Memory) (k i j : ℕ) (xs : List PartShape) (p : Placed) (qs : List Piece)
    (others : List PartShape) → k < count → i < length l.cells → slice_get l.cells i ≡ Some xs
    → ((n : ℕ) → slice_get xs (j + n) ≡ slice_get (map (part_shape_of p) qs ++ others) n)
    → AreShaped c (spot_in r index (element_cell l k i)) b j (map (part_shape_of p) qs ++ others)
    → PartsHold (cleared l count (spot_in r index 0) c) (spot_in r index (element_cell l k i)) j (firsts_of qs)
element_holds l r index count b c k i j xs p [] others less inside is same shaped = tt
element_holds l r index count b c k i j xs p (q ∷ qs) others less inside is same shaped =
    let x : PartShape = part_shape_of p q in
    let more : List PartShape = map (part_shape_of p) qs ++ others in
    let old : Part = record { offset = b + x.offset; width = x.width; content = shaped.0.content } in (
      (
        record old { content = x.first },
        (element_cleared l r index count c k i j xs x old less inside is (here_on xs more j x same) shaped.0.is, refl),
      ),
      element_holds l r index count b c k i (suc j) xs p qs others less inside is (further_on xs more j x same) shaped.1,
    )
