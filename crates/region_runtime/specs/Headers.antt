-- Believed: what the words of the headers say. `word p f` is the word of page p at field f.
use Rattle.std.specs.Prelude.{◌≡◌, ◌≤◌, Option, Some, None, ℕ, zero, suc, ◌+◌, ◌-◌, ◌*◌, ◌/◌, Bool, ◌&&◌, List, length, slice_index, nat_eq, nat_lt}
use Rattle.std.specs.Prelude.{if◌then◌else◌}
use Rattle.region_runtime.specs.Chains.{follow, times}

-- the word of a page at a field from 0 to 15, and 0 elsewhere
unfoldable pub word_in : List ℕ → ℕ → ℕ → ℕ
word_in words p f = (if nat_lt p (length words / 16) && nat_lt f 16 then slice_index words (16 * p + f) else 0)

-- one word is written
abbrev pub put_word : ℕ → ℕ → ℕ → (ℕ → ℕ → ℕ) → ℕ → ℕ → ℕ
put_word p f x word q g = (if nat_eq g f then (if nat_eq q p then x else word q g) else word q g)

-- no page from one on has a word that isn't 0
pub record AreBlank (used : ℕ) (word : ℕ → ℕ → ℕ) : Type 0 where
  pub blank : (p f : ℕ) → used ≤ p → word p f ≡ 0

-- the page after this one on its chain
abbrev pub link_of : (ℕ → ℕ → ℕ) → ℕ → ℕ
link_of word p = word p 0

-- whose a page is: a region's number, a mark, or 0; it may be stale
abbrev pub owner_of : (ℕ → ℕ → ℕ) → ℕ → ℕ
owner_of word p = word p 1

-- the bytes used of a page
abbrev pub used_of : (ℕ → ℕ → ℕ) → ℕ → ℕ
used_of word p = word p 2

-- The first page of the region with number h has four words more: the page that joined the region last, from which its chain goes; how many
-- pages it has; its tag; and its current page, from which blocks are cut. A run joins the chain and leaves the current page.
abbrev pub newest_of : (ℕ → ℕ → ℕ) → ℕ → ℕ
newest_of word h = word (h - 1) 3

abbrev pub count_of : (ℕ → ℕ → ℕ) → ℕ → ℕ
count_of word h = word (h - 1) 4

abbrev pub tag_in : (ℕ → ℕ → ℕ) → ℕ → ℕ
tag_in word h = word (h - 1) 5

abbrev pub current_of : (ℕ → ℕ → ℕ) → ℕ → ℕ
current_of word h = word (h - 1) 6

-- the marks of a page of the heap, and of a page got by `take_page`
abbrev pub heap_mark : ℕ
heap_mark = 4097

abbrev pub taken_mark : ℕ
taken_mark = 4098

-- a number is live where its page says that it is its own
unfoldable pub is_live_number : (ℕ → ℕ) → ℕ → Bool
is_live_number owner h = nat_lt 0 h && nat_eq (owner (h - 1)) h

-- the pages of a live region, the newest first
unfoldable pub pages_of : (ℕ → ℕ → ℕ) → ℕ → List ℕ
pages_of word h = follow (link_of word) (count_of word h) (newest_of word h)

-- whose blocks a page has: those of the heap (0), or of a live region on whose chain it is
unfoldable pub holder_by : (ℕ → ℕ) → (ℕ → List ℕ) → ℕ → Option ℕ
holder_by owner chain p =
    (if nat_eq (owner p) heap_mark then Some 0 else
    if nat_eq (owner p) taken_mark then None else
    if is_live_number owner (owner p) && nat_lt 0 (times p (chain (owner p))) then Some (owner p) else None)

abbrev pub holder_of : (ℕ → ℕ → ℕ) → ℕ → Option ℕ
holder_of word = holder_by (owner_of word) (pages_of word)

-- how many of the first pages have a mark
unfoldable pub marked : ℕ → (ℕ → ℕ) → ℕ → ℕ
marked mark owner zero = 0
marked mark owner (suc n) = (if nat_eq (owner n) mark then suc (marked mark owner n) else marked mark owner n)
