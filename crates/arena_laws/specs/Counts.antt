-- Believed: the page numbers of a store: how many pages are free, never used or given back, and who has the others. No address is among them.
use Rattle.std.specs.Prelude.{ℕ, ◌+◌, ◌-◌, ◌*◌, ◌/◌, Bool, ◌&&◌, ◌||◌, nat_eq, nat_le, nat_lt, if◌then◌else◌}

-- Pages that were never used, and pages that were given back; of each region and key (the heap is 0) its pages and the bytes left in its last
-- page; of each class, named by the bytes of its slots, its pages and its live slots.
pub record Counts : Type 0 where
  pub fresh : ℕ
  pub given : ℕ
  pub taken : ℕ → ℕ
  pub left : ℕ → ℕ
  pub class_pages : ℕ → ℕ
  pub slots : ℕ → ℕ

-- a function that is changed at one place
abbrev pub put : {A : Type 0} → ℕ → A → (ℕ → A) → ℕ → A
put k x f q = (if nat_eq q k then x else f q)

-- no page was ever used
abbrev pub fresh_counts : ℕ → Counts
fresh_counts pages = record { fresh = pages; given = 0; taken = λ h. 0; left = λ h. 0; class_pages = λ c. 0; slots = λ c. 0 }

-- the free pages, of both kinds
abbrev pub free_pages : Counts → ℕ
free_pages c = c.fresh + c.given

-- no block of a region is longer
abbrev pub block_limit : ℕ
block_limit = 1048576

abbrev pub is_too_long : ℕ → Bool
is_too_long bytes = nat_lt block_limit bytes

-- no unique block is longer than a page
abbrev pub is_too_long_alone : ℕ → Bool
is_too_long_alone bytes = nat_lt 4096 bytes

-- the room of a region's block: its bytes rounded up to 8, and 8 for none
abbrev pub room_of : ℕ → ℕ
room_of bytes = (if nat_eq bytes 0 then 8 else (bytes + 7) / 8 * 8)

-- the room of a unique block: the smallest class that holds it
abbrev pub class_of : ℕ → ℕ
class_of bytes =
    (if nat_le bytes 32 then 32 else
    if nat_le bytes 64 then 64 else
    if nat_le bytes 128 then 128 else
    if nat_le bytes 256 then 256 else
    if nat_le bytes 512 then 512 else
    if nat_le bytes 1024 then 1024 else
    if nat_le bytes 2048 then 2048 else 4096)

-- a single page is taken from those given back, and from those never used only where none was given back
abbrev pub one_less : Counts → Counts
one_less c = record c { fresh = if nat_eq c.given 0 then c.fresh - 1 else c.fresh; given = c.given - 1 }

-- a new region or key takes a page at once
abbrev pub with_region : ℕ → Counts → Counts
with_region h c = record (one_less c) { taken = put h 1 c.taken; left = put h 4096 c.left }

-- its pages come back, all of them, each a single page
abbrev pub without_region : ℕ → Counts → Counts
without_region h c = record c { given = c.given + c.taken h; taken = put h 0 c.taken; left = put h 0 c.left }

-- a room longer than a page is a large block's: it takes a run of neighbouring pages that were never used
abbrev pub is_large : ℕ → Bool
is_large room = nat_lt 4096 room

abbrev pub run_of : ℕ → ℕ
run_of room = (room + 4095) / 4096

-- the run joins the region's pages, and the last page and what is left of it stay as they were
abbrev pub with_run : ℕ → ℕ → Counts → Counts
with_run h r c = record c { fresh = c.fresh - r; taken = put h (c.taken h + r) c.taken }

-- a room needs a page where it is longer than what is left of the last page
abbrev pub block_needs_page : ℕ → ℕ → Counts → Bool
block_needs_page h room c = nat_lt (c.left h) room

-- the room is cut from the last page, or from a page taken then; what was left of the old one is wasted
abbrev pub with_single : ℕ → ℕ → Counts → Counts
with_single h room c =
    (if block_needs_page h room c then record (one_less c) { taken = put h (c.taken h + 1) c.taken; left = put h (4096 - room) c.left }
    else record c { left = put h (c.left h - room) c.left })

-- a region's block: a run, or a room of a single page
abbrev pub with_block : ℕ → ℕ → Counts → Counts
with_block h room c = (if is_large room then with_run h (run_of room) c else with_single h room c)

-- a slot needs a page where all slots of its class are live
abbrev pub slot_needs_page : ℕ → Counts → Bool
slot_needs_page class c = nat_eq (c.slots class) (c.class_pages class * (4096 / class))

-- a slot is live, on a page taken then where one is needed
abbrev pub with_slot : ℕ → Counts → Counts
with_slot class c =
    (if slot_needs_page class c then
    record (one_less c) { class_pages = put class (c.class_pages class + 1) c.class_pages; slots = put class (c.slots class + 1) c.slots }
    else record c { slots = put class (c.slots class + 1) c.slots })

-- a slot is live no more; its page stays with the class
abbrev pub without_slot : ℕ → Counts → Counts
without_slot class c = record c { slots = put class (c.slots class - 1) c.slots }

-- ---- where a request is refused

-- a new region or key: no page is free
abbrev pub is_full : Counts → Bool
is_full c = nat_eq c.fresh 0 && nat_eq c.given 0

-- a room: a run is needed and fewer pages were never used, or a page is needed and none is free
abbrev pub is_full_for_room : ℕ → ℕ → Counts → Bool
is_full_for_room h room c = (if is_large room then nat_lt c.fresh (run_of room) else block_needs_page h room c && is_full c)

-- a block: it is longer than any, or there is no room
abbrev pub is_full_for_block : ℕ → ℕ → Counts → Bool
is_full_for_block h bytes c = is_too_long bytes || is_full_for_room h (room_of bytes) c

-- a unique block: it is longer than a page, or a page is needed and none is free
abbrev pub is_full_for_slot : ℕ → Counts → Bool
is_full_for_slot bytes c = is_too_long_alone bytes || (slot_needs_page (class_of bytes) c && is_full c)
