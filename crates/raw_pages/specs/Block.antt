-- View of code: one block of memory: a row of words, and behind it a row of bytes.
use Rattle.std.specs.Prelude.{ℕ, ◌+◌, ◌*◌, []}
use base.Fml.{Fml, fsep, fwand, froom, ffalse}
use mir.Syntax.{Ty, ty_struct, ty_array, ty_int, tcons, tnil, w8, w32}
use denote.RawPtr.{Ptr, block_ptr, null_ptr}

-- the type that a block of `pages` pages is allocated for
abbrev pub block_type : ℕ → Ty
block_type pages = ty_struct [] (tcons (ty_array (ty_int w32) (16 * pages)) (tcons (ty_array (ty_int w8) (4096 * pages)) tnil))

-- room for both rows
abbrev pub room_for_rows : ℕ → ℕ → ℕ → Fml
room_for_rows pages b o = fsep (froom (ty_array (ty_int w32) (16 * pages)) b o) (froom (ty_array (ty_int w8) (4096 * pages)) b (o + 64 * pages))

-- t's right to free the block, and the way back from the rows to the block
abbrev pub block_owns : (Ty → Ptr → Fml) → Ptr → ℕ → Fml
block_owns t (block_ptr b o) pages = fsep (t (block_type pages) (block_ptr b o)) (fwand (room_for_rows pages b o) (froom (block_type pages) b o))
block_owns t null_ptr pages = ffalse
