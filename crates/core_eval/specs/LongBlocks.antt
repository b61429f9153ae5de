-- View of code: blocks of regions that have a cell far from where they begin. Where their cells lie is kept also when their region is closed or freed, since a
-- pointer may still be led on within them.
use Rattle.std.specs.Prelude.{ℕ, zero, suc, ◌+◌, ◌*◌, ◌||◌, Bool, false, List, [], ◌∷◌, ◌++◌, nat_le, if◌then◌else◌}
use Rattle.core_meaning.specs.Operations.{too_far}
use Rattle.cyc_core.specs.declared.layout.CellLayout.{CellLayout}
use Rattle.cyc_core.specs.declared.layout.Layout.{Layout}
use Rattle.core_eval.specs.declared.long_block.LongBlock as code

-- a block of a region, by the numbers of both: so many elements, each of so many bytes, with these cells
pub record LongBlock : Type 0 where
  pub region : ℕ
  pub object : ℕ
  pub cells : List CellLayout
  pub bytes : ℕ
  pub count : ℕ

abbrev pub long_block_of : code.LongBlock → LongBlock
long_block_of b = record { region = b.region; object = b.object; cells = b.cells.items; bytes = b.bytes; count = b.count }

-- whether one of these cells lies too far on, in an element that lies so many bytes on
abbrev pub has_far : ℕ → List CellLayout → Bool
has_far from [] = false
has_far from (c ∷ cs) = nat_le too_far (from + c.offset) || has_far from cs

-- whether a block of so many elements has a cell too far on: then its last element has one
abbrev pub is_long : List CellLayout → (bytes count : ℕ) → Bool
is_long cells bytes zero = false
is_long cells bytes (suc last) = has_far (last * bytes) cells

-- with a new block of so many elements of a layout, if it has a cell too far on
abbrev pub with_long_block : List LongBlock → (region object : ℕ) → Layout → ℕ → List LongBlock
with_long_block blocks region object l count =
    (if is_long l.cells.items l.bytes count
    then blocks ++ record { region = region; object = object; cells = l.cells.items; bytes = l.bytes; count = count } ∷ [] else blocks)
