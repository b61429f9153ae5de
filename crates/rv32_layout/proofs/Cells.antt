-- The bytes of objects of many cells, which begin as their layouts do: zeros.
use Rattle.std.specs.Prelude.{slice_get}
use Rattle.std.proofs.Common.{◌≡◌, ℕ, zero, suc, ◌+◌, List, [], ◌∷◌, ◌++◌, map, refl, ap, ◌∙◌, arith}
use Rattle.core_meaning.specs.Memory.{Content, Blank, Word, Null, Pointer, Birth, PartShape, shape_in}
use Rattle.cyc_core.specs.declared.operation.Cell.{Cell}
use Rattle.cyc_core.specs.declared.operation.Cell.TheVariants as cell
use Rattle.cyc_core.specs.declared.layout.CellLayout.{CellLayout}
use Rattle.cyc_core.specs.Trees.{cell_bytes, made_parts, cell_parts, padding_parts, part_first}
use Rattle.core_meaning.specs.Layouts.{IsNothing}
use Rattle.core_lines.specs.Statics.{number_bytes, number_in, parts_bytes, cells_bytes, zeros}
use Rattle.rv32_layout.specs.Sizes.{cell_size, cells_size}

-- ---- what they begin as

padding_nothing : (at n j : ℕ) → IsNothing (part_first (slice_get (padding_parts at n) j))
padding_nothing at zero j = tt
padding_nothing at (suc n) zero = tt
padding_nothing at (suc n) (suc j) = padding_nothing (at + 1) n j

made_nothing : (c : Cell) (at : ℕ) (others : List PartShape) → ((j : ℕ) → IsNothing (part_first (slice_get others j)))
    → (j : ℕ) → IsNothing (part_first (slice_get (made_parts c at ++ others) j))
made_nothing cell.Byte at others nothing zero = refl
made_nothing cell.Byte at others nothing (suc j) = nothing j
made_nothing cell.Word at others nothing zero = refl
made_nothing cell.Word at others nothing (suc j) = nothing j
made_nothing cell.Pointer at others nothing zero = tt
made_nothing cell.Pointer at others nothing (suc j) = nothing j
made_nothing cell.Fat at others nothing zero = tt
made_nothing cell.Fat at others nothing (suc zero) = refl
made_nothing cell.Fat at others nothing (suc (suc zero)) = refl
made_nothing cell.Fat at others nothing (suc (suc (suc j))) = nothing j
made_nothing cell.Handle at others nothing zero = tt
made_nothing cell.Handle at others nothing (suc j) = nothing j
made_nothing cell.Tagged at others nothing zero = tt
made_nothing cell.Tagged at others nothing (suc zero) = tt
made_nothing cell.Tagged at others nothing (suc (suc j)) = nothing j
made_nothing cell.TaggedFat at others nothing zero = tt
made_nothing cell.TaggedFat at others nothing (suc zero) = tt
made_nothing cell.TaggedFat at others nothing (suc (suc zero)) = tt
made_nothing cell.TaggedFat at others nothing (suc (suc (suc zero))) = tt
made_nothing cell.TaggedFat at others nothing (suc (suc (suc (suc j)))) = nothing j

part_nothing : (c : CellLayout) (j : ℕ) → IsNothing (part_first (slice_get (cell_parts c) j))
part_nothing c j =
    let behind = c.offset + cell_bytes c.cell in
    made_nothing c.cell c.offset (padding_parts behind c.padding) (padding_nothing behind c.padding) j

pub begins_with_nothing : (cs : List CellLayout) (k j : ℕ) → IsNothing (part_first (shape_in (slice_get (map cell_parts cs) k) j))
begins_with_nothing [] k j = tt
begins_with_nothing (c ∷ cs) zero j = part_nothing c j
begins_with_nothing (c ∷ cs) (suc k) j = begins_with_nothing cs k j

-- ---- their bytes

nothing_zero : (os : List ℕ) (v : Content) → IsNothing v → number_in os v ≡ 0
nothing_zero os Blank nothing = refl
nothing_zero os (Word n) nothing = nothing
nothing_zero os Null nothing = refl
nothing_zero os (Pointer s b) nothing = absurd nothing
nothing_zero os (Birth d) nothing = absurd nothing

pub zeros_joined : (a b : ℕ) → zeros a ++ zeros b ≡ zeros (a + b)
zeros_joined zero b = let e : b ≡ 0 + b = omega arith in ap zeros e
zeros_joined (suc a) b = let e : suc (a + b) ≡ suc a + b = omega arith in ap (λ xs. 0 ∷ xs) (zeros_joined a b) ∙ ap zeros e

module _ (os : List ℕ) (first : ℕ → Content) (nothing : (j : ℕ) → IsNothing (first j)) where
  padding_bytes : (at j n : ℕ) → parts_bytes os first j (padding_parts at n) ≡ zeros n
  padding_bytes at j zero = refl
  padding_bytes at j (suc n) =
      ap (λ k. number_bytes 1 k ++ parts_bytes os first (j + 1) (padding_parts (at + 1) n)) (nothing_zero os (first j) (nothing j)) ∙
      ap (λ xs. 0 ∷ xs) (padding_bytes (at + 1) (j + 1) n)

  -- a part, and those behind it
  zero_byte : (j : ℕ) (others zero_others : List ℕ) → others ≡ zero_others → number_bytes 1 (number_in os (first j)) ++ others ≡ zeros 1 ++ zero_others
  zero_byte j others zero_others e =
      ap (λ k. number_bytes 1 k ++ others) (nothing_zero os (first j) (nothing j)) ∙ ap (λ xs. zeros 1 ++ xs) e

  zero_word : (j : ℕ) (others zero_others : List ℕ) → others ≡ zero_others → number_bytes 4 (number_in os (first j)) ++ others ≡ zeros 4 ++ zero_others
  zero_word j others zero_others e =
      ap (λ k. number_bytes 4 k ++ others) (nothing_zero os (first j) (nothing j)) ∙ ap (λ xs. zeros 4 ++ xs) e

  made_zeros : (c : Cell) (at behind n : ℕ) → parts_bytes os first 0 (made_parts c at ++ padding_parts behind n) ≡ zeros (cell_bytes c) ++ zeros n
  made_zeros cell.Byte at behind n = zero_byte 0 _ _ (padding_bytes behind 1 n)
  made_zeros cell.Word at behind n = zero_word 0 _ _ (padding_bytes behind 1 n)
  made_zeros cell.Pointer at behind n = zero_word 0 _ _ (padding_bytes behind 1 n)
  made_zeros cell.Fat at behind n = zero_word 0 _ _ (zero_word 1 _ _ (zero_word 2 _ _ (padding_bytes behind 3 n)))
  made_zeros cell.Handle at behind n = zero_word 0 _ _ (padding_bytes behind 1 n)
  made_zeros cell.Tagged at behind n = zero_word 0 _ _ (zero_word 1 _ _ (padding_bytes behind 2 n))
  made_zeros cell.TaggedFat at behind n = zero_word 0 _ _ (zero_word 1 _ _ (zero_word 2 _ _ (zero_word 3 _ _ (padding_bytes behind 4 n))))

  cell_zeros : (c : CellLayout) → parts_bytes os first 0 (cell_parts c) ≡ zeros (cell_size c)
  cell_zeros c =
      let w = cell_bytes c.cell in made_zeros c.cell c.offset (c.offset + w) c.padding ∙ zeros_joined w c.padding

pub cells_are_zeros : (os : List ℕ) (first : ℕ → ℕ → Content) → ((k j : ℕ) → IsNothing (first k j)) → (k : ℕ) (cs : List CellLayout)
    → cells_bytes os first k (map cell_parts cs) ≡ zeros (cells_size cs)
cells_are_zeros os first nothing k [] = refl
cells_are_zeros os first nothing k (c ∷ cs) =
    ap (λ xs. xs ++ cells_bytes os first (k + 1) (map cell_parts cs)) (cell_zeros os (first k) (nothing k) c) ∙
    ap (λ xs. zeros (cell_size c) ++ xs) (cells_are_zeros os first nothing (k + 1) cs) ∙ zeros_joined (cell_size c) (cells_size cs)
