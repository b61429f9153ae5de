-- Believed: what is asked of a store, what any lawful store makes of it, and which calls its counts refuse.
use Rattle.std.specs.Prelude.{ℕ, Bool, true, false}
use Rattle.arena_laws.specs.Counts.{is_full, is_full_for_slot}
use Rattle.arena_laws.specs.Holdings.{Holdings}
use Rattle.arena_laws.specs.Laws.{is_block_refused}
use Rattle.arena_laws.specs.Lawful.{Answer, Done, region_new, region_alloc, region_free, unique_alloc, unique_free, key_new, key_open, key_close, key_free}

-- a call with its arguments, in order or not
pub data Asked : Type 0 where
  RegionNew : Asked
  RegionAlloc : (handle bytes : ℕ) → Asked
  RegionFree : (handle : ℕ) → Asked
  UniqueAlloc : (bytes : ℕ) → Asked
  UniqueFree : (at : ℕ) → Asked
  KeyNew : Asked
  KeyOpen : (key : ℕ) → Asked
  KeyClose : (key : ℕ) → Asked
  KeyFree : (key : ℕ) → Asked

-- what a call does, with the store's answer, over any lawful store
abbrev pub lawfully : Asked → Answer → Holdings → Done
lawfully RegionNew a s = region_new a s
lawfully (RegionAlloc h bytes) a s = region_alloc h bytes a s
lawfully (RegionFree h) a s = region_free h s
lawfully (UniqueAlloc bytes) a s = unique_alloc bytes a s
lawfully (UniqueFree at) a s = unique_free at s
lawfully KeyNew a s = key_new a s
lawfully (KeyOpen k) a s = key_open k s
lawfully (KeyClose k) a s = key_close k s
lawfully (KeyFree k) a s = key_free k s

-- the call may be granted something of the store's choice
abbrev pub is_granted : Asked → Bool
is_granted RegionNew = true
is_granted (RegionAlloc h bytes) = true
is_granted (RegionFree h) = false
is_granted (UniqueAlloc bytes) = true
is_granted (UniqueFree at) = false
is_granted KeyNew = true
is_granted (KeyOpen k) = false
is_granted (KeyClose k) = false
is_granted (KeyFree k) = false

-- the call gives a number: what it was granted, or an open key's handle
abbrev pub gives_number : Asked → Bool
gives_number RegionNew = true
gives_number (RegionAlloc h bytes) = true
gives_number (RegionFree h) = false
gives_number (UniqueAlloc bytes) = true
gives_number (UniqueFree at) = false
gives_number KeyNew = true
gives_number (KeyOpen k) = true
gives_number (KeyClose k) = false
gives_number (KeyFree k) = false

-- the counts refuse the call: its block is too long, or a page or a run is needed and there is none
abbrev pub is_short : Asked → Holdings → Bool
is_short RegionNew s = is_full s.counts
is_short (RegionAlloc h bytes) s = is_block_refused h bytes s
is_short (RegionFree h) s = false
is_short (UniqueAlloc bytes) s = is_full_for_slot bytes s.counts
is_short (UniqueFree at) s = false
is_short KeyNew s = is_full s.counts
is_short (KeyOpen k) s = false
is_short (KeyClose k) s = false
is_short (KeyFree k) s = false
