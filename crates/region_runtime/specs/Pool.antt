-- Believed: what a pool's words and bytes stand for.
use Rattle.std.specs.Prelude.{
  ◌≡◌,
  Option,
  Some,
  None,
  ℕ,
  zero,
  suc,
  ◌+◌,
  ◌-◌,
  ◌/◌,
  ◌%◌,
  ◌≤◌,
  Bool,
  true,
  ◌&&◌,
  List,
  [],
  ◌∷◌,
  length,
  slice_index,
  nat_eq,
  nat_le,
  nat_lt,
  if◌then◌else◌,
}
use Rattle.arena_laws.specs.declared.standing.Standing.{Standing}
use Rattle.arena_laws.specs.declared.standing.Standing.TheVariants.{Lexical}
use Rattle.arena_laws.specs.declared.owner.Owner.{Owner}
use Rattle.arena_laws.specs.declared.owner.Owner.TheVariants.{Region}
use Rattle.arena_laws.specs.Counts.{Counts}
use Rattle.arena_laws.specs.Holdings.{Holdings, arena_base}
use Rattle.region_runtime.specs.Headers.{word_in, owner_of, used_of, current_of, count_of, tag_in, heap_mark, taken_mark, is_live_number, holder_of, marked}

-- A pool: the words of its headers and its bytes; the first page of the chain of freed pages and how many it has; how many pages were ever used
-- (they come first); the heap's last page and one, or 0; and how many words of headers the last call that may change the pool read or wrote.
pub record Pooled : Type 0 where
  pub words : List ℕ
  pub bytes : List ℕ
  pub first_freed : ℕ
  pub freed : ℕ
  pub ever_used : ℕ
  pub heap_last : ℕ
  pub touched : ℕ

-- the pool without its bytes, its headers as a function
pub record Shape : Type 0 where
  pub pages : ℕ
  pub word : ℕ → ℕ → ℕ
  pub first_freed : ℕ
  pub freed : ℕ
  pub ever_used : ℕ
  pub heap_last : ℕ

abbrev pub shape_of : Pooled → Shape
shape_of p = record {
  pages = length p.words / 16;
  word = word_in p.words;
  first_freed = p.first_freed;
  freed = p.freed;
  ever_used = p.ever_used;
  heap_last = p.heap_last;
}

-- the page of an address, and its place there
abbrev pub page_at : ℕ → ℕ
page_at q = (q - arena_base) / 4096

abbrev pub place_at : ℕ → ℕ
place_at q = (q - arena_base) % 4096

-- a place of a page is owned where the page has a holder and the place is among its used bytes
abbrev pub owned : Option ℕ → Bool → Option Owner
owned None used = None
owned (Some h) used = (if used then Some (Region h) else None)

unfoldable pub owner_at : (ℕ → Option ℕ) → (ℕ → ℕ) → ℕ → Option Owner
owner_at holder used q = (if nat_lt q arena_base then None else owned (holder (page_at q)) (nat_lt (place_at q) (used (page_at q))))

-- what is left of a last page, which is named by its number and one; nothing where there is none
abbrev pub left_of : (ℕ → ℕ) → ℕ → ℕ
left_of used zero = 0
left_of used (suc p) = 4096 - used p

-- the last page, and one, of the heap and of each live region
unfoldable pub last_of : Shape → ℕ → ℕ
last_of t h = (if nat_eq h 0 then t.heap_last else if is_live_number (owner_of t.word) h then current_of t.word h + 1 else 0)

-- the pages of the heap and of each live region
unfoldable pub taken_by : Shape → ℕ → ℕ
taken_by t h =
    (if nat_eq h 0 then marked heap_mark (owner_of t.word) t.pages else if is_live_number (owner_of t.word) h then count_of t.word h else 0)

abbrev pub counts_of : Shape → Counts
counts_of t = record {
  fresh = t.pages - t.ever_used;
  given = t.freed;
  taken = taken_by t;
  left = λ h. left_of (used_of t.word) (last_of t h);
  class_pages = λ c. 0;
  slots = λ c. 0;
}

abbrev pub standing_by : (ℕ → ℕ) → ℕ → Option Standing
standing_by owner h = (if is_live_number owner h then Some Lexical else None)

abbrev pub holdings_of : Shape → Holdings
holdings_of t = record {
  pages = t.pages;
  standing = standing_by (owner_of t.word);
  owner = owner_at (holder_of t.word) (used_of t.word);
  counts = counts_of t;
}

-- ---- what callers see of a pool

-- live regions and their blocks, the heap's blocks, and the counts of pages
abbrev pub held : Pooled → Holdings
held p = holdings_of (shape_of p)

-- the tag of each live region but the heap
unfoldable pub tag_by : (ℕ → ℕ → ℕ) → ℕ → Option ℕ
tag_by word h = (if is_live_number (owner_of word) h then Some (tag_in word h) else None)

abbrev pub tag_of : Pooled → ℕ → Option ℕ
tag_of p = tag_by (word_in p.words)

-- a page that was got by `take_page`
unfoldable pub is_taken_by : (ℕ → ℕ → ℕ) → ℕ → Bool
is_taken_by word page = nat_eq (owner_of word page) taken_mark

abbrev pub is_taken : Pooled → ℕ → Bool
is_taken p = is_taken_by (word_in p.words)

-- the fields of a taken page that are its holder's to use
abbrev pub is_free_field : ℕ → Bool
is_free_field f = nat_le 4 f && nat_lt f 16

-- the words of taken pages at those fields
unfoldable pub word_by : (ℕ → ℕ → ℕ) → ℕ → ℕ → ℕ
word_by word page f = (if is_taken_by word page && is_free_field f then word page f else 0)

abbrev pub word_of : Pooled → ℕ → ℕ → ℕ
word_of p = word_by (word_in p.words)

-- the byte at an address of the arena
unfoldable pub byte_at : Pooled → ℕ → ℕ
byte_at p q = (if nat_lt q arena_base then 0 else slice_index p.bytes (q - arena_base))

-- no address of a taken page has an owner
pub record AreApart (p : Pooled) : Type 0 where
  pub unowned : (q : ℕ) → arena_base ≤ q → is_taken p (page_at q) ≡ true → (held p).owner q ≡ None

-- how many places of two lists of one length differ
abbrev pub changed_words : List ℕ → List ℕ → ℕ
changed_words [] ys = length ys
changed_words (x ∷ xs) [] = suc (length xs)
changed_words (x ∷ xs) (y ∷ ys) = (if nat_eq x y then changed_words xs ys else suc (changed_words xs ys))
