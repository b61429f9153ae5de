-- Elements of a layout, in order: their bytes, and how many these are.
use Rattle.std.proofs.Common.{◌≡◌, ℕ, zero, suc, ◌+◌, ◌*◌, ◌^◌, ◌<◌, ◌≤◌, List, ◌++◌, map, length, sym, ap, ◌∙◌, arith}
use Rattle.std.proofs.Math.Nat.{suc-mul, zero-mul}
use Rattle.std.proofs.lemmas.Nat.{mul-lt}
use Rattle.cyc_image.specs.Format.{data_limit}
use Rattle.core_meaning.specs.Memory.{Content}
use Rattle.cyc_core.specs.declared.layout.CellLayout.{CellLayout}
use Rattle.cyc_core.specs.Trees.{cell_parts}
use Rattle.core_meaning.specs.Layouts.{IsNothing}
use Rattle.core_lines.specs.Statics.{element_bytes, zeros}
use Rattle.rv32_layout.specs.Sizes.{cells_size}
use Rattle.rv32_layout.proofs.Cells.{zeros_joined, cells_are_zeros}

pub elements_are_zeros : (os : List ℕ) (first : ℕ → ℕ → Content) → ((k j : ℕ) → IsNothing (first k j)) → (k count : ℕ) (cs : List CellLayout)
    → element_bytes os (map cell_parts cs) first k count ≡ zeros (count * cells_size cs)
elements_are_zeros os first nothing k zero cs = sym (ap zeros (zero-mul (cells_size cs)))
elements_are_zeros os first nothing k (suc count) cs =
    let cells = map cell_parts cs in
    let rest = element_bytes os cells first (k + length cells) count in
    let more : cells_size cs + count * cells_size cs ≡ suc count * cells_size cs = omega (arith, suc-mul count (cells_size cs)) in
    ap (λ xs. xs ++ rest) (cells_are_zeros os first nothing k cs) ∙
    ap (λ xs. zeros (cells_size cs) ++ xs) (elements_are_zeros os first nothing (k + length cells) count cs) ∙
    zeros_joined (cells_size cs) (count * cells_size cs) ∙ ap zeros more

-- where one is over a limit, so are any
pub one_or_more : (start count size limit : ℕ) → 0 < count → limit < size → limit < start + count * size
one_or_more start zero size limit some over = absurd (omega (arith, some))
one_or_more start (suc count) size limit some over = omega (arith, suc-mul count size, over)

-- those of elements within the limit are no more than a machine's number says
pub product_small : (count size : ℕ) → count < 2 ^ 32 → size ≤ data_limit → count * size < 2 ^ 53
product_small count size few small = let less = mul-lt count size (2 ^ 32) (2 ^ 21) few (omega (arith, small)) in omega (arith, less)
