-- Believed: new objects and new regions.
use Rattle.std.specs.Prelude.{ℕ, ◌+◌, ◌-◌, ◌^◌, min}
use Rattle.cyc_words.specs.Events.{RegionAlloc, UniqueAlloc}
use Rattle.source_meaning.specs.Memory.{Region, Born, Spot, Scalar, HandleOf, Object, State, Live, is_live, with_state, next_spot, with_object}
use Rattle.source_meaning.specs.Steps.{Act, give, ◌>>=◌, ◌>>◌, stuck, show, memory, set_memory, check}

-- a region is live, closed or dead from here on
abbrev pub set_state : Region → State → Act (Unit {0})
set_state r state = memory >>= λ m. set_memory (with_state m r state)

-- one more object of a live region; gives its first cell
abbrev pub make_object : Region → Object → Act Spot
make_object r o =
    memory >>= λ m. check (is_live m r) >> (set_memory (with_object m r o) >> give (next_spot m r))

-- a new region in a state: its number is the count of births before it
abbrev pub new_region : State → Act ℕ
new_region state = memory >>= λ m. set_memory (with_state (record m { births = m.births + 1 }) (Born m.births) state) >> give m.births

-- the bytes asked for: those of all elements, or the greatest word where they are more
abbrev pub saturated : ℕ → ℕ
saturated bytes = min bytes (2 ^ 32 - 1)

-- where a made value goes: into a region, or into a unique block of its own
pub data Maker : Type 0 where
  InRegion : ℕ → Maker
  AsUnique : Maker

-- the heap is the birth 0
abbrev pub heap_maker : Act Maker
heap_maker = give (InRegion 0)

-- into the region of a handle
abbrev pub maker_of : Scalar → Act Maker
maker_of (HandleOf r) = give (InRegion r)
maker_of v = stuck

-- Asks for a block of `bytes` bytes, and makes the object there. The region has to be live; a unique block is a region of one object.
abbrev pub ask : Maker → ℕ → Object → Act Spot
ask (InRegion r) bytes o =
    memory >>= λ m. check (is_live m (Born r)) >> (show (RegionAlloc r bytes) >> make_object (Born r) o)
ask AsUnique bytes o =
    new_region Live >>= λ r. show (UniqueAlloc r bytes) >> make_object (Born r) o
