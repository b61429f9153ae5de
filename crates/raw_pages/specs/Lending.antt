-- View of code: a part of the payload that is lent.
use Rattle.std.specs.Prelude.{ℕ, List, length, take, drop, ◌++◌}
use Rattle.std.specs.Borrow.{Lends, MutBor, Fml, Array, u8}
use Rattle.raw_pages.specs.Raw.{Raw}
use Rattle.raw_pages.specs.contracts.pages.RawPages.{the_row}

-- the bytes from a place on are those that were written; nothing else changes
abbrev pub with_run : Raw → ℕ → List ℕ → Raw
with_run r from bytes = record r { bytes = take (length r.bytes) (take from r.bytes ++ (bytes ++ drop (length bytes) (drop from r.bytes))) }

abbrev pub LendsBytes : MutBor Raw → ℕ → MutBor (List ℕ) → Fml
LendsBytes s from r = Lends the_row (Array u8 0) s r (with_run s.now from)
