-- Believed: pages that are cut into slots of one length, and what their words say. `word p f` is the word of page p at field f.
use Rattle.std.specs.Prelude.{
  ◌≡◌,
  Option,
  Some,
  None,
  ℕ,
  zero,
  suc,
  ◌+◌,
  ◌-◌,
  ◌*◌,
  ◌/◌,
  ◌%◌,
  ◌<◌,
  ◌≤◌,
  Bool,
  true,
  false,
  ◌&&◌,
  List,
  [],
  ◌∷◌,
  length,
  slice_index,
  nat_eq,
  nat_le,
  nat_lt,
  if◌then◌else◌,
}
use Rattle.std.specs.Int.{bit_at}
use Rattle.arena_laws.specs.declared.owner.Owner.{Owner}
use Rattle.arena_laws.specs.declared.owner.Owner.TheVariants.{Alone}
use Rattle.arena_laws.specs.Counts.{put, class_of}
use Rattle.arena_laws.specs.Holdings.{arena_base}
use Rattle.region_runtime.specs.Chains.{times}
use Rattle.region_runtime.specs.Pool.{page_at, place_at}

-- Of each page the bytes of its slots, which are its class (0 where it has none), which slots are live, how many are, and the next page, and one,
-- on the chain of its class.
pub record Slots : Type 0 where
  pub class : ℕ → ℕ
  pub bit : ℕ → ℕ → Bool
  pub live : ℕ → ℕ
  pub next : ℕ → ℕ

-- four words of a page have a bit for each of its slots, which are at most 128
unfoldable pub bit_of : (ℕ → ℕ → ℕ) → ℕ → ℕ → Bool
bit_of word p k = nat_lt k 128 && nat_eq (bit_at (word p (5 + k / 32)) (k % 32)) 1

abbrev pub slots_by : (ℕ → ℕ → ℕ) → Slots
slots_by word = record { class = λ p. word p 4; bit = bit_of word; live = λ p. word p 9; next = λ p. word p 10 }

-- ---- what a step makes of them

abbrev pub with_class : ℕ → ℕ → Slots → Slots
with_class p c s = record s { class = put p c s.class }

abbrev pub with_live : ℕ → ℕ → Slots → Slots
with_live p n s = record s { live = put p n s.live }

abbrev pub with_next : ℕ → ℕ → Slots → Slots
with_next p n s = record s { next = put p n s.next }

abbrev pub put_bit : ℕ → ℕ → Bool → (ℕ → ℕ → Bool) → ℕ → ℕ → Bool
put_bit p k b bit q j = (if nat_eq q p && nat_eq j k then b else bit q j)

abbrev pub with_bit : ℕ → ℕ → Bool → Slots → Slots
with_bit p k b s = record s { bit = put_bit p k b s.bit }

abbrev pub without_bits : ℕ → (ℕ → ℕ → Bool) → ℕ → ℕ → Bool
without_bits p bit q j = (if nat_eq q p then false else bit q j)

abbrev pub with_no_bits : ℕ → Slots → Slots
with_no_bits p s = record s { bit = without_bits p s.bit }

-- a page is cut into vacant slots of c bytes, and ends its chain
abbrev pub with_cut : ℕ → ℕ → Slots → Slots
with_cut p c s = record { class = put p c s.class; bit = without_bits p s.bit; live = put p 0 s.live; next = put p 0 s.next }

-- a slot is live, or vacant again
abbrev pub with_slot_taken : ℕ → ℕ → Slots → Slots
with_slot_taken p k s = record s { bit = put_bit p k true s.bit; live = put p (s.live p + 1) s.live }

abbrev pub with_slot_given : ℕ → ℕ → Slots → Slots
with_slot_given p k s = record s { bit = put_bit p k false s.bit; live = put p (s.live p - 1) s.live }

-- ---- whose an address is

abbrev pub address_of : ℕ → ℕ → ℕ → ℕ
address_of p c k = arena_base + 4096 * p + k * c

abbrev pub alone_if : Bool → ℕ → ℕ → Option Owner
alone_if live at c = (if live then Some (Alone at c) else None)

abbrev pub alone_in : ℕ → (ℕ → Bool) → ℕ → ℕ → Option Owner
alone_in c bits p o = (if nat_eq c 0 then None else alone_if (bits (o / c)) (address_of p c (o / c)) c)

-- the unique block in whose slot an address lies
unfoldable pub alone_at : Slots → ℕ → Option Owner
alone_at s q = (if nat_lt q arena_base then None else alone_in (s.class (page_at q)) (s.bit (page_at q)) (page_at q) (place_at q))

-- ---- counts

-- the sum of the first n values
unfoldable pub tally : ℕ → (ℕ → ℕ) → ℕ
tally zero f = 0
tally (suc n) f = tally n f + f n

abbrev pub one_if : Bool → ℕ
one_if b = (if b then 1 else 0)

abbrev pub is_of_class : Slots → ℕ → ℕ → Bool
is_of_class s c p = nat_lt 0 c && nat_eq (s.class p) c

-- the pages of each class, and its live slots
unfoldable pub pages_of_class : ℕ → Slots → ℕ → ℕ
pages_of_class pages s c = tally pages (λ p. one_if (is_of_class s c p))

unfoldable pub slots_of_class : ℕ → Slots → ℕ → ℕ
slots_of_class pages s c = tally pages (λ p. if is_of_class s c p then s.live p else 0)

-- ---- what is true of them

-- the chains' first pages are kept in the order of the classes: the place of the smallest class that holds `bytes` bytes
abbrev pub place_of : ℕ → ℕ
place_of bytes =
    (if nat_le bytes 32 then 0 else
    if nat_le bytes 64 then 1 else
    if nat_le bytes 128 then 2 else
    if nat_le bytes 256 then 3 else
    if nat_le bytes 512 then 4 else
    if nat_le bytes 1024 then 5 else
    if nat_le bytes 2048 then 6 else 7)

-- a chain of pages, each named by its number and one
abbrev pub Leads : (ℕ → ℕ) → ℕ → List ℕ → Type 0
Leads next from [] = from ≡ 0
Leads next from (p ∷ ps) = (from ≡ p + 1) × Leads next (next p) ps

-- a page of the class has a vacant slot
abbrev pub has_vacancy : Slots → ℕ → ℕ → Bool
has_vacancy s c p = is_of_class s c p && nat_lt (s.live p) (4096 / c)

-- Each page's class is one of the eight, and its live slots are counted. The chain of a class has the pages with a vacant slot, each once.
pub record AreSlots (pages : ℕ) (heads : List ℕ) (s : Slots) : Type 0 where
  pub long : length heads ≡ 8
  pub pages_few : pages ≤ 4096
  pub classes : (p : ℕ) → 0 < s.class p → class_of (s.class p) ≡ s.class p
  pub within : (p : ℕ) → 0 < s.class p → p < pages
  pub counted : (p : ℕ) → 0 < s.class p → s.live p ≡ tally (4096 / s.class p) (λ k. one_if (s.bit p k))
  pub chain : ℕ → List ℕ
  pub leads : (c : ℕ) → class_of c ≡ c → Leads s.next (slice_index heads (place_of c)) (chain c)
  pub once : (c p : ℕ) → class_of c ≡ c → times p (chain c) ≡ one_if (has_vacancy s c p)
