-- Believed: the live blocks of a store over a list of calls: those granted, and freed neither alone nor with their region or key.
use Rattle.std.specs.Prelude.{◌≡◌, Option, Some, None, ℕ, Bool, List, [], ◌∷◌, Result, Ok, Err, if◌then◌else◌}
use Rattle.arena_laws.specs.declared.owner.Owner.{Owner}
use Rattle.arena_laws.specs.declared.owner.Owner.TheVariants.{Region, Alone}
use Rattle.arena_laws.specs.declared.refusal.StoreRefusal.{StoreRefusal}
use Rattle.arena_laws.specs.Asked.{Asked, RegionNew, RegionAlloc, RegionFree, UniqueAlloc, UniqueFree, KeyNew, KeyOpen, KeyClose, KeyFree}
use Rattle.arena_laws.specs.Counts.{room_of, class_of}
use Rattle.arena_laws.specs.Holdings.{Holdings, fresh}
use Rattle.arena_laws.specs.Lawful.{Done, is_of, is_alone, is_in_room, region_free, unique_free, key_open, key_close, key_free}
use Rattle.arena_laws.specs.Laws.{Does, answer_of, region_new, region_alloc, unique_alloc, key_new}

-- the law of a call
abbrev pub law_of : Asked → Result ℕ StoreRefusal → Holdings → Done
law_of RegionNew r s = region_new (answer_of r) s
law_of (RegionAlloc h bytes) r s = region_alloc h bytes (answer_of r) s
law_of (RegionFree h) r s = region_free h s
law_of (UniqueAlloc bytes) r s = unique_alloc bytes (answer_of r) s
law_of (UniqueFree at) r s = unique_free at s
law_of KeyNew r s = key_new (answer_of r) s
law_of (KeyOpen k) r s = key_open k s
law_of (KeyClose k) r s = key_close k s
law_of (KeyFree k) r s = key_free k s

-- a block: its first address, the bytes asked for, its room, and whose it is
pub record Block : Type 0 where
  pub from : ℕ
  pub bytes : ℕ
  pub room : ℕ
  pub who : Owner

-- the blocks whose owner fails a test
abbrev pub those_not : (Option Owner → Bool) → List Block → List Block
those_not test [] = []
those_not test (b ∷ bs) = (if test (Some b.who) then those_not test bs else b ∷ those_not test bs)

-- the live blocks after a call, from the call and its result alone: a grant adds one, a free takes away
abbrev pub blocks_after : Asked → Result ℕ StoreRefusal → List Block → List Block
blocks_after (RegionAlloc h bytes) (Ok at) bs = record { from = at; bytes = bytes; room = room_of bytes; who = Region h } ∷ bs
blocks_after (UniqueAlloc bytes) (Ok at) bs = record { from = at; bytes = bytes; room = class_of bytes; who = Alone at (class_of bytes) } ∷ bs
blocks_after (RegionFree h) (Ok x) bs = those_not (is_of h) bs
blocks_after (KeyFree k) (Ok x) bs = those_not (is_of k) bs
blocks_after (UniqueFree at) (Ok x) bs = those_not (is_alone at) bs
blocks_after RegionNew (Ok h) bs = bs
blocks_after KeyNew (Ok k) bs = bs
blocks_after (KeyOpen k) (Ok x) bs = bs
blocks_after (KeyClose k) (Ok x) bs = bs
blocks_after call (Err why) bs = bs

-- one call of a list: what was asked, what it said, and what was held then
pub record Told : Type 0 where
  pub asked : Asked
  pub result : Result ℕ StoreRefusal
  pub after : Holdings

-- each call of the list did as its law
abbrev pub AreTold : Holdings → List Told → Type 0
AreTold s [] = Unit {0}
AreTold s (t ∷ ts) = Does t.result t.after (law_of t.asked t.result s) × AreTold t.after ts

abbrev pub held_after : Holdings → List Told → Holdings
held_after s [] = s
held_after s (t ∷ ts) = held_after t.after ts

abbrev pub blocks_of : List Block → List Told → List Block
blocks_of bs [] = bs
blocks_of bs (t ∷ ts) = blocks_of (blocks_after t.asked t.result bs) ts

-- whose an address is: the block's in whose room it lies
abbrev pub owner_of : List Block → ℕ → Option Owner
owner_of [] q = None
owner_of (b ∷ bs) q = (if is_in_room b.from b.room q then Some b.who else owner_of bs q)

-- A law: after each list of calls on a store just made, an address is live exactly where it lies in a live block, and is that block's.
abbrev pub LiveBlocks : Type 0
LiveBlocks = (pages : ℕ) (ts : List Told) → AreTold (fresh pages) ts → (q : ℕ) → (held_after (fresh pages) ts).owner q ≡ owner_of (blocks_of [] ts) q
