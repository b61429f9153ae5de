-- Believed: which requests a store with a number of pages refuses: a count over the requests alone, with no store in it. Regions, keys and unique blocks are
-- named by one count of births from 1 on; the heap is 0. No page was used at first. Requests are in order: they name what is live, and a key is open where a
-- block is asked of it.
use Rattle.std.specs.Prelude.{ℕ, suc, Bool, false, List, [], ◌∷◌, if◌then◌else◌}
use Rattle.arena_laws.specs.Counts.{Counts, fresh_counts, put, room_of, class_of, with_region, without_region, with_block, with_slot, without_slot, is_full}
use Rattle.arena_laws.specs.Counts.{is_full_for_block, is_full_for_slot}

-- what is asked for; `birth` is a region's or key's, or a unique block's
pub data Request : Type 0 where
  NewRegion : Request
  BlockIn : (birth bytes : ℕ) → Request
  FreeRegion : (birth : ℕ) → Request
  NewAlone : (bytes : ℕ) → Request
  FreeAlone : (birth : ℕ) → Request
  NewKey : Request
  OpenKey : (birth : ℕ) → Request
  CloseKey : (birth : ℕ) → Request
  FreeKey : (birth : ℕ) → Request

-- the births so far, the counts by birth, and the class of each unique block by its birth
pub record ByBirth : Type 0 where
  pub births : ℕ
  pub counts : Counts
  pub class : ℕ → ℕ

abbrev pub unborn : ℕ → ByBirth
unborn pages = record { births = 0; counts = fresh_counts pages; class = λ d. 0 }

abbrev pub is_refused : Request → Counts → Bool
is_refused NewRegion c = is_full c
is_refused (BlockIn d bytes) c = is_full_for_block d bytes c
is_refused (FreeRegion d) c = false
is_refused (NewAlone bytes) c = is_full_for_slot bytes c
is_refused (FreeAlone d) c = false
is_refused NewKey c = is_full c
is_refused (OpenKey k) c = false
is_refused (CloseKey k) c = false
is_refused (FreeKey k) c = false

-- a region or a key is born
abbrev pub born : ByBirth → ByBirth
born b = record b { births = suc b.births; counts = with_region (suc b.births) b.counts }

-- a request that isn't refused
abbrev pub counted : Request → ByBirth → ByBirth
counted NewRegion b = born b
counted (BlockIn d bytes) b = record b { counts = with_block d (room_of bytes) b.counts }
counted (FreeRegion d) b = record b { counts = without_region d b.counts }
counted (NewAlone bytes) b = record { births = suc b.births; counts = with_slot (class_of bytes) b.counts; class = put (suc b.births) (class_of bytes) b.class }
counted (FreeAlone d) b = record b { counts = without_slot (b.class d) b.counts }
counted NewKey b = born b
counted (OpenKey k) b = b
counted (CloseKey k) b = b
counted (FreeKey k) b = record b { counts = without_region k b.counts }

-- a refused request changes nothing
abbrev pub said : Request → ByBirth → Bool → ByBirth
said q b full = (if full then b else counted q b)

-- which requests are refused, in their order
abbrev pub refusals : List Request → ByBirth → List Bool
refusals [] b = []
refusals (q ∷ qs) b = (let full = is_refused q b.counts in full ∷ refusals qs (said q b full))
