-- Believed: what a call does over any lawful store: a function of its arguments, of the store's answer and of what was held, to what it says and what is held
-- then. A store chooses numbers and addresses freely, and may refuse what takes memory; a grant that isn't lawful comes to a refusal. The counts are carried
-- along, and no choice of this file depends on them.
use Rattle.std.specs.Prelude.{Option, Some, None, ℕ, zero, suc, ◌+◌, ◌*◌, ◌%◌, ◌^◌, Bool, true, false, ◌&&◌, nat_eq, nat_le, nat_lt, if◌then◌else◌, Result, Ok}
use Rattle.std.specs.Prelude.{Err}
use Rattle.arena_laws.specs.declared.refusal.StoreRefusal.{StoreRefusal}
use Rattle.arena_laws.specs.declared.refusal.StoreRefusal.TheVariants.{Full, BadHandle, NotABlock, BadKey, Open, NotOpen, Memory}
use Rattle.arena_laws.specs.declared.standing.Standing.{Standing}
use Rattle.arena_laws.specs.declared.standing.Standing.TheVariants.{Lexical, Opened, Closed}
use Rattle.arena_laws.specs.Counts.{put, is_too_long, is_too_long_alone, room_of, class_of, with_block, with_slot, without_slot}
use Rattle.arena_laws.specs.Counts as counts
use Rattle.arena_laws.specs.declared.owner.Owner.{Owner}
use Rattle.arena_laws.specs.declared.owner.Owner.TheVariants.{Region, Alone}
use Rattle.arena_laws.specs.Holdings.{Holdings, arena_base, is_none}

-- what a store chose: a number or an address, a refusal, or that it lacks host memory
pub data Answer : Type 0 where
  Grants : (number : ℕ) → Answer
  Refuses : Answer
  Lacks : Answer

-- what a call says (0 where it gives no number), and what is held then
pub record Done : Type 0 where
  pub says : Result ℕ StoreRefusal
  pub after : Holdings

-- a refusal leaves everything as it was
abbrev pub refuses : StoreRefusal → Holdings → Done
refuses why s = record { says = Err why; after = s }

-- ---- regions and keys are made

-- a word from 1 up that differs from each live number
abbrev pub is_new_number : Holdings → ℕ → Bool
is_new_number s h = nat_le 1 h && (nat_lt h (2 ^ 32) && is_none (s.standing h))

-- a live number more
abbrev pub with_number : ℕ → Standing → Holdings → Holdings
with_number h standing s = record s { standing = put h (Some standing) s.standing; counts = counts.with_region h s.counts }

abbrev pub makes : Standing → Answer → Holdings → Done
makes standing (Grants h) s = (if is_new_number s h then record { says = Ok h; after = with_number h standing s } else refuses Full s)
makes standing Refuses s = refuses Full s
makes standing Lacks s = refuses Memory s

-- a lexical region
abbrev pub region_new : Answer → Holdings → Done
region_new answer s = makes Lexical answer s

-- a key, which is closed
abbrev pub key_new : Answer → Holdings → Done
key_new answer s = makes Closed answer s

-- ---- blocks of a region

-- no address of a room is live
abbrev pub is_clear : (ℕ → Option Owner) → ℕ → ℕ → Bool
is_clear owner at zero = true
is_clear owner at (suc n) = is_none (owner (at + n)) && is_clear owner at n

-- a room is a multiple of 8, inside the arena, and meets no live room
abbrev pub is_lawful_room : Holdings → ℕ → ℕ → Bool
is_lawful_room s at room = nat_eq (at % 8) 0 && (nat_le arena_base at && (nat_le (at + room) (arena_base + s.pages * 4096) && is_clear s.owner at room))

abbrev pub is_in_room : ℕ → ℕ → ℕ → Bool
is_in_room at room q = nat_le at q && nat_lt q (at + room)

-- each address of the room gets this owner
abbrev pub owns : ℕ → ℕ → Owner → (ℕ → Option Owner) → ℕ → Option Owner
owns at room who owner q = (if is_in_room at room q then Some who else owner q)

abbrev pub with_region_block : ℕ → ℕ → ℕ → Holdings → Holdings
with_region_block h at room s = record s { owner = owns at room (Region h) s.owner; counts = with_block h room s.counts }

abbrev pub gives_block : ℕ → ℕ → Answer → Holdings → Done
gives_block h room (Grants at) s =
    (if is_lawful_room s at room then record { says = Ok at; after = with_region_block h at room s } else refuses Full s)
gives_block h room Refuses s = refuses Full s
gives_block h room Lacks s = refuses Memory s

-- blocks are taken by the heap (0), by a lexical region, and by an open key under its own number
abbrev pub takes_blocks : ℕ → Option Standing → Bool
takes_blocks h None = nat_eq h 0
takes_blocks h (Some Lexical) = true
takes_blocks h (Some Opened) = true
takes_blocks h (Some Closed) = false

-- a bad handle is looked for first; a block longer than a region's may be is always refused
abbrev pub region_alloc : ℕ → ℕ → Answer → Holdings → Done
region_alloc h bytes answer s =
    (if takes_blocks h (s.standing h) then (if is_too_long bytes then refuses Full s else gives_block h (room_of bytes) answer s)
    else refuses BadHandle s)

-- ---- a region is freed: its number, its blocks and its pages

abbrev pub is_of : ℕ → Option Owner → Bool
is_of h None = false
is_of h (Some (Region r)) = nat_eq r h
is_of h (Some (Alone at room)) = false

abbrev pub without_blocks : ℕ → (ℕ → Option Owner) → ℕ → Option Owner
without_blocks h owner q = (if is_of h (owner q) then None else owner q)

abbrev pub without_number : ℕ → Holdings → Holdings
without_number h s = record s { standing = put h None s.standing; owner = without_blocks h s.owner; counts = counts.without_region h s.counts }

-- only a lexical region is freed by its handle
abbrev pub frees_region : ℕ → Option Standing → Holdings → Done
frees_region h (Some Lexical) s = record { says = Ok 0; after = without_number h s }
frees_region h (Some Opened) s = refuses BadHandle s
frees_region h (Some Closed) s = refuses BadHandle s
frees_region h None s = refuses BadHandle s

abbrev pub region_free : ℕ → Holdings → Done
region_free h s = frees_region h (s.standing h) s

-- ---- unique blocks

abbrev pub with_alone : ℕ → ℕ → Holdings → Holdings
with_alone at room s = record s { owner = owns at room (Alone at room) s.owner; counts = with_slot room s.counts }

abbrev pub gives_alone : ℕ → Answer → Holdings → Done
gives_alone room (Grants at) s = (if is_lawful_room s at room then record { says = Ok at; after = with_alone at room s } else refuses Full s)
gives_alone room Refuses s = refuses Full s
gives_alone room Lacks s = refuses Memory s

abbrev pub unique_alloc : ℕ → Answer → Holdings → Done
unique_alloc bytes answer s = (if is_too_long_alone bytes then refuses Full s else gives_alone (class_of bytes) answer s)

abbrev pub is_alone : ℕ → Option Owner → Bool
is_alone at None = false
is_alone at (Some (Region r)) = false
is_alone at (Some (Alone b room)) = nat_eq b at

abbrev pub without_alone : ℕ → ℕ → Holdings → Holdings
without_alone at room s = record s { owner = λ q. if is_alone at (s.owner q) then None else s.owner q; counts = without_slot room s.counts }

-- an address is freed where a live unique block begins there
abbrev pub frees_alone : ℕ → Option Owner → Holdings → Done
frees_alone at (Some (Alone b room)) s = (if nat_eq b at then record { says = Ok 0; after = without_alone at room s } else refuses NotABlock s)
frees_alone at (Some (Region r)) s = refuses NotABlock s
frees_alone at None s = refuses NotABlock s

abbrev pub unique_free : ℕ → Holdings → Done
unique_free at s = frees_alone at (s.owner at) s

-- ---- keys are opened, closed and freed

abbrev pub standing_as : ℕ → Standing → Holdings → Holdings
standing_as k standing s = record s { standing = put k (Some standing) s.standing }

-- the handle of an open key is the key's own number
abbrev pub opens : ℕ → Option Standing → Holdings → Done
opens k (Some Closed) s = record { says = Ok k; after = standing_as k Opened s }
opens k (Some Opened) s = refuses Open s
opens k (Some Lexical) s = refuses BadKey s
opens k None s = refuses BadKey s

abbrev pub key_open : ℕ → Holdings → Done
key_open k s = opens k (s.standing k) s

abbrev pub closes : ℕ → Option Standing → Holdings → Done
closes k (Some Opened) s = record { says = Ok 0; after = standing_as k Closed s }
closes k (Some Closed) s = refuses NotOpen s
closes k (Some Lexical) s = refuses BadKey s
closes k None s = refuses BadKey s

abbrev pub key_close : ℕ → Holdings → Done
key_close k s = closes k (s.standing k) s

-- a key is freed while it is closed
abbrev pub frees_key : ℕ → Option Standing → Holdings → Done
frees_key k (Some Closed) s = record { says = Ok 0; after = without_number k s }
frees_key k (Some Opened) s = refuses Open s
frees_key k (Some Lexical) s = refuses BadKey s
frees_key k None s = refuses BadKey s

abbrev pub key_free : ℕ → Holdings → Done
key_free k s = frees_key k (s.standing k) s
