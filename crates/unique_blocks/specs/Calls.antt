-- Believed: what the calls say and leave, in the words of the laws of every store.
use Rattle.std.specs.Prelude.{◌≡◌, Some, ℕ, ◌+◌, ◌<◌, ◌≤◌, Bool, true, false, Result, Ok, Err, slice_index, if◌then◌else◌}
use Rattle.arena_laws.specs.declared.refusal.StoreRefusal.{StoreRefusal}
use Rattle.arena_laws.specs.declared.refusal.StoreRefusal.TheVariants as store
use Rattle.arena_laws.specs.declared.owner.Owner.TheVariants.{Alone}
use Rattle.arena_laws.specs.Counts.{put, is_full, slot_needs_page, one_less}
use Rattle.arena_laws.specs.Holdings.{Holdings}
use Rattle.arena_laws.specs.Lawful.{is_lawful_room, with_alone, without_alone}
use Rattle.region_runtime.specs.Pool.{Pooled, is_taken, word_of}
use Rattle.region_runtime.specs.Pool as pool
use Rattle.region_runtime.specs.Touches.{used_after}
use Rattle.unique_blocks.specs.declared.refusal.UniqueRefusal.{UniqueRefusal}
use Rattle.unique_blocks.specs.declared.refusal.UniqueRefusal.TheVariants.{Full, NotABlock}
use Rattle.unique_blocks.specs.Slots.{Slots, place_of, slots_by}
use Rattle.unique_blocks.specs.Blocks.{Slotted, byte_at, held, tag_of}

abbrev pub refusal_of : UniqueRefusal → StoreRefusal
refusal_of Full = store.Full
refusal_of NotABlock = store.NotABlock

abbrev pub said_block : Result ℕ UniqueRefusal → Result ℕ StoreRefusal
said_block (Ok at) = Ok at
said_block (Err why) = Err (refusal_of why)

abbrev pub said_freed : Result (Unit {0}) UniqueRefusal → Result ℕ StoreRefusal
said_freed (Ok x) = Ok 0
said_freed (Err why) = Err (refusal_of why)

-- The least that a unique block takes: ten words of a page with a vacant slot; where a page is taken for it, fifteen more to cut it and the link
-- of a freed page.
abbrev pub slot_least : Bool → ℕ → ℕ
slot_least needs link = (if needs then 25 + link else 10)

-- ---- steps on a pool

abbrev pub slots_of : Pooled → Slots
slots_of p = slots_by (word_of p)

-- nothing changed but words of taken pages
pub record IsKept (old new : Pooled) : Type 0 where
  pub holds : pool.held new ≡ pool.held old
  pub tags : pool.tag_of new ≡ pool.tag_of old
  pub taken : is_taken new ≡ is_taken old
  pub bytes : pool.byte_at new ≡ pool.byte_at old
  pub fresh : new.ever_used ≡ old.ever_used

-- a page less is free, and the class has one more
abbrev pub with_page_of : ℕ → Holdings → Holdings
with_page_of c h = record h { counts = record (one_less h.counts) { class_pages = put c (h.counts.class_pages c + 1) h.counts.class_pages } }

-- tags and bytes are as they were
pub record IsBeside (old new : Slotted) : Type 0 where
  pub tags : tag_of new ≡ tag_of old
  pub bytes : byte_at new ≡ byte_at old

-- a page is cut for a class that needs one
pub record IsOpened (old new : Slotted) (c : ℕ) : Type 0 where
  pub needed : slot_needs_page c (held old).counts ≡ true
  pub free : is_full (held old).counts ≡ false
  pub holds : held new ≡ with_page_of c (held old)
  pub begins : 0 < slice_index new.heads (place_of c)
  pub beside : IsBeside old new
  pub fresh : new.pool.ever_used ≡ used_after true (held old) old.pool.ever_used

-- a class needs a page, and none is free
pub record IsUnopened (old new : Slotted) (c : ℕ) : Type 0 where
  pub needed : slot_needs_page c (held old).counts ≡ true
  pub full : is_full (held old).counts ≡ true
  pub holds : held new ≡ held old
  pub beside : IsBeside old new
  pub fresh : new.pool.ever_used ≡ old.pool.ever_used

-- a vacant slot of the class is live
pub record IsSlotTaken (old new : Slotted) (c at : ℕ) : Type 0 where
  pub spare : slot_needs_page c (held old).counts ≡ false
  pub lawful : is_lawful_room (held old) at c ≡ true
  pub holds : held new ≡ with_alone at c (held old)
  pub beside : IsBeside old new
  pub fresh : new.pool.ever_used ≡ old.pool.ever_used

-- a live slot is vacant
pub record IsSlotGiven (old new : Slotted) (c at : ℕ) : Type 0 where
  pub was : (held old).owner at ≡ Some (Alone at c)
  pub holds : held new ≡ without_alone at c (held old)
  pub beside : IsBeside old new
  pub fresh : new.pool.ever_used ≡ old.pool.ever_used

-- the first vacant slot of a page, or 128
pub record IsFirstVacant (bits : ℕ → Bool) (k : ℕ) : Type 0 where
  pub most : k ≤ 128
  pub below : (j : ℕ) → j < k → bits j ≡ true
  pub vacant : k < 128 → bits k ≡ false
