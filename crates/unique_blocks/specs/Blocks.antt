-- Believed: what a pool with unique blocks stands for.
use Rattle.std.specs.Prelude.{Option, Some, None, ℕ, List}
use Rattle.arena_laws.specs.declared.owner.Owner.{Owner}
use Rattle.arena_laws.specs.Holdings.{Holdings}
use Rattle.region_runtime.specs.Pool.{Pooled, word_of}
use Rattle.region_runtime.specs.Pool as pool
use Rattle.unique_blocks.specs.Slots.{Slots, AreSlots, slots_by, alone_at, pages_of_class, slots_of_class}

-- A pool; of each class the first page, and one, of its chain of pages with a vacant slot; and how many words of headers the last call that may
-- change anything read or wrote.
pub record Slotted : Type 0 where
  pub pool : Pooled
  pub heads : List ℕ
  pub touched : ℕ

abbrev pub slots_in : Slotted → Slots
slots_in u = slots_by (word_of u.pool)

-- an address is a region's, or else a unique block's
abbrev pub either_owner : Option Owner → Option Owner → Option Owner
either_owner None o = o
either_owner (Some x) o = Some x

-- what a pool holds, and the slots of its taken pages
abbrev pub joined : Slots → Holdings → Holdings
joined s h = record h {
  owner = λ q. either_owner (h.owner q) (alone_at s q);
  counts = record (h.counts) { class_pages = pages_of_class h.pages s; slots = slots_of_class h.pages s };
}

-- ---- what callers see

-- live regions, their blocks and the heap's, live unique blocks, and the counts
abbrev pub held : Slotted → Holdings
held u = joined (slots_in u) (pool.held u.pool)

-- the tag of each live region but the heap
abbrev pub tag_of : Slotted → ℕ → Option ℕ
tag_of u = pool.tag_of u.pool

-- the byte at an address of the arena
abbrev pub byte_at : Slotted → ℕ → ℕ
byte_at u = pool.byte_at u.pool

-- ---- what is true of every one

abbrev pub IsSound : Slotted → Type 0
IsSound u = AreSlots (pool.held u.pool).pages u.heads (slots_in u)
