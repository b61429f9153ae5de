-- View of code: what the plain store's tables stand for.
use Rattle.std.specs.Prelude.{
  ◌≡◌,
  ℕ,
  zero,
  suc,
  ◌+◌,
  ◌-◌,
  ◌*◌,
  ◌/◌,
  ◌%◌,
  ◌<◌,
  ◌≤◌,
  false,
  Option,
  Some,
  None,
  List,
  [],
  ◌∷◌,
  ◌++◌,
  length,
  slice_index,
  slice_index_or,
  slice_set,
  nat_eq,
  nat_lt,
  if◌then◌else◌,
}
use Rattle.arena_laws.specs.declared.standing.Standing.{Standing}
use Rattle.arena_laws.specs.declared.standing.Standing.TheVariants.{Lexical, Opened, Closed}
use Rattle.arena_laws.specs.Classes.{IsClass}
use Rattle.arena_laws.specs.Counts.{Counts}
use Rattle.arena_laws.specs.declared.owner.Owner.{Owner}
use Rattle.arena_laws.specs.declared.owner.Owner.TheVariants.{Region, Alone}
use Rattle.arena_laws.specs.Holdings.{Holdings, arena_base, is_none}

-- The tables. `bytes` is the arena. Of each page `owner` says whose it is, by a word: 0 nobody's, 2 h + 1 the region's or key's with number h
-- (the heap's where h is 0), 2 c + 2 cut into slots of c bytes; `used` has the bytes used of a region's page. Of each number (the heap is 0)
-- `last` has its last page and one, or 0, and `standing` what it stands for. `slots` has 128 places for each page, of which a page of c bytes a
-- slot uses the first 4096 / c, by a word: 0 no slot, 2 c + 1 a live one of c bytes, 2 c + 2 a vacant one. `ever_used`
-- says how many pages were ever used: they come first.
pub record Plain : Type 0 where
  pub bytes : List ℕ
  pub owner : List ℕ
  pub used : List ℕ
  pub last : List ℕ
  pub standing : List (Option Standing)
  pub slots : List ℕ
  pub ever_used : ℕ

-- how often a word stands in a list
abbrev pub count_of : ℕ → List ℕ → ℕ
count_of x [] = 0
count_of x (y ∷ ys) = (if nat_eq y x then suc (count_of x ys) else count_of x ys)

-- how often it stands at the first places
unfoldable pub count_below : ℕ → ℕ → List ℕ → ℕ
count_below zero x words = 0
count_below (suc n) x words = (if nat_eq (slice_index words n) x then suc (count_below n x words) else count_below n x words)

-- a page is taken: where it was never used it is used now
abbrev pub used_up : ℕ → ℕ → ℕ
used_up p n = (if nat_eq p n then suc n else n)

abbrev pub address_of : ℕ → ℕ → ℕ
address_of p o = arena_base + 4096 * p + o

-- whose the place o of page p is, by the page's word
unfoldable pub owner_in : ℕ → ℕ → ℕ → ℕ → List ℕ → Option Owner
owner_in word used p o slots =
    (if nat_eq word 0 then None else
    if nat_eq (word % 2) 1 then (if nat_lt o used then Some (Region (word / 2)) else None) else
    let c = word / 2 - 1 in
    if nat_eq (slice_index slots (128 * p + o / c)) (2 * c + 1) then Some (Alone (address_of p (o / c * c)) c) else None)

-- the page of an address, and its place there
abbrev pub page_at : ℕ → ℕ
page_at q = (q - arena_base) / 4096

abbrev pub place_at : ℕ → ℕ
place_at q = (q - arena_base) % 4096

unfoldable pub owner_at : List ℕ → List ℕ → List ℕ → ℕ → Option Owner
owner_at owner used slots q =
    (if nat_lt q arena_base then None else owner_in (slice_index owner (page_at q)) (slice_index used (page_at q)) (page_at q) (place_at q) slots)

unfoldable pub byte_at : List ℕ → ℕ → ℕ
byte_at bytes q = (if nat_lt q arena_base then 0 else slice_index bytes (q - arena_base))

abbrev pub standing_at : List (Option Standing) → ℕ → Option Standing
standing_at standing h = slice_index_or standing h None

-- what is left of a last page, and nothing where there is none
abbrev pub left_of : List ℕ → ℕ → ℕ
left_of used zero = 0
left_of used (suc p) = 4096 - slice_index used p

unfoldable pub counts_of : ℕ → List ℕ → List ℕ → List ℕ → List ℕ → Counts
counts_of n owner used last slots = record {
  fresh = length owner - n;
  given = count_below n 0 owner;
  taken = λ h. count_of (2 * h + 1) owner;
  left = λ h. left_of used (slice_index last h);
  class_pages = λ c. count_of (2 * c + 2) owner;
  slots = λ c. count_of (2 * c + 1) slots;
}

abbrev pub holdings_of : Plain → Holdings
holdings_of s = record {
  pages = length s.owner;
  standing = standing_at s.standing;
  owner = owner_at s.owner s.used s.slots;
  counts = counts_of s.ever_used s.owner s.used s.last s.slots;
}

-- what a number stands for, as a word
abbrev pub standing_word : Option Standing → ℕ
standing_word None = 0
standing_word (Some Lexical) = 1
standing_word (Some Opened) = 2
standing_word (Some Closed) = 3

abbrev pub standing_words : List (Option Standing) → List ℕ
standing_words [] = []
standing_words (s ∷ rest) = standing_word s ∷ standing_words rest

-- all tables but the arena's bytes, in order
abbrev pub tables_of : Plain → List ℕ
tables_of s = s.ever_used ∷ s.owner ++ s.used ++ s.last ++ standing_words s.standing ++ s.slots

-- the slot stands in a page of its class
pub record IsInPage (owner : List ℕ) (u c : ℕ) : Type 0 where
  pub page : slice_index owner (u / 128) ≡ 2 * c + 2
  pub place : u % 128 < 4096 / c

pub record IsSound (s : Plain) : Type 0 where
  pub payload : length s.bytes ≡ 4096 * length s.owner
  pub used_long : length s.used ≡ length s.owner
  pub last_long : length s.last ≡ length s.owner + 1
  pub standing_long : length s.standing ≡ length s.owner + 1
  pub slots_long : length s.slots ≡ 128 * length s.owner
  pub few : length s.owner ≤ 4096
  -- pages never used are nobody's
  pub begun : s.ever_used ≤ length s.owner
  pub unused : (p : ℕ) → s.ever_used ≤ p → slice_index s.owner p ≡ 0
  pub rounded : (p : ℕ) → slice_index s.used p % 8 ≡ 0
  pub within : (p : ℕ) → slice_index s.used p ≤ 4096
  -- the heap is no number, and a number is live where it has a last page
  pub heap : standing_at s.standing 0 ≡ None
  pub known : (h : ℕ) → 0 < h → is_none (standing_at s.standing h) ≡ nat_eq (slice_index s.last h) 0
  -- the first page of a live number is its own
  pub headed : (p : ℕ) → 0 < slice_index s.last (p + 1) → slice_index s.owner p ≡ 2 * (p + 1) + 1
  -- no page of a number but the heap that has no last page
  pub lived : (h q : ℕ) → 0 < h → slice_index s.last h ≡ 0 → nat_eq (slice_index s.owner q) (2 * h + 1) ≡ false
  -- a last page is the number's own
  pub ended : (h q : ℕ) → slice_index s.last h ≡ q + 1 → slice_index s.owner q ≡ 2 * h + 1
  -- pages are cut into slots of a class
  pub classes : (q c : ℕ) → slice_index s.owner q ≡ 2 * c + 2 → IsClass c
  pub live : (u c : ℕ) → slice_index s.slots u ≡ 2 * c + 1 → IsInPage s.owner u c
  pub vacant : (u c : ℕ) → slice_index s.slots u ≡ 2 * c + 2 → IsInPage s.owner u c
  -- the slots of a class, live and vacant, fill its pages
  pub capacity : (c : ℕ) → count_of (2 * c + 1) s.slots + count_of (2 * c + 2) s.slots ≡ count_of (2 * c + 2) s.owner * (4096 / c)

-- a place with this word, or none
abbrev pub Finds : ℕ → List ℕ → Option ℕ → Type 0
Finds word words None = (p : ℕ) → p < length words → nat_eq (slice_index words p) word ≡ false
Finds word words (Some p) = (p < length words) × (slice_index words p ≡ word)

-- no place before the one that was found has the word
abbrev pub IsLowest : ℕ → List ℕ → Option ℕ → Type 0
IsLowest word words None = Unit {0}
IsLowest word words (Some p) = (q : ℕ) → q < p → nat_eq (slice_index words q) word ≡ false

-- the word is gone, and nothing else changed
pub record IsCleared (word : ℕ) (old new : List ℕ) : Type 0 where
  pub long : length new ≡ length old
  pub each : (q : ℕ) → slice_index new q ≡ (if nat_eq (slice_index old q) word then 0 else slice_index old q)

-- the word is written to a number of places, from one on
abbrev pub filled : ℕ → ℕ → ℕ → List ℕ → List ℕ
filled zero from word words = words
filled (suc n) from word words = slice_set (filled n from word words) (from + n) word
