-- View of code: the rows of a block lie where the block has room for them.
use Rattle.std.specs.Prelude.{◌≡◌, ℕ, ◌*◌, ◌<◌, ◌≤◌}
use denote.RawPtr.{◌+ₚ◌}
use Rattle.std_alloc.specs.declared.vec.Vec.{Vec}
use Rattle.std_alloc.specs.declared.vec.lodged.Lodged.{Lodged}
use Rattle.raw_pages.specs.declared.block.Block.{Block}

-- the block has 1 to 4,096 pages, the words begin with it, and the bytes lie 64 bytes a page behind
abbrev pub IsSeated : {A : Type 0} → Vec ℕ Lodged → Vec ℕ Lodged → Block A → Type 0
IsSeated words bytes block =
    (words.ptr ≡ block.start) × (words.cap ≡ 16 * block.pages) × (bytes.ptr ≡ block.start +ₚ (64 * block.pages)) × (bytes.cap ≡ 4096 * block.pages)
    × (0 < block.pages) × (block.pages ≤ 4096)
