-- Believed: pages as two lists.
use Rattle.std.specs.Prelude.{◌≡◌, ℕ, ◌+◌, ◌*◌, ◌/◌, ◌≤◌, Bool, true, false, ◌||◌, List, Result, Ok, Err, length, slice_index, nat_eq, nat_lt}
use Rattle.raw_pages.specs.declared.fault.PagesFault.{PagesFault}
use Rattle.raw_pages.specs.declared.fault.PagesFault.TheVariants.{Memory, Pages}

-- the headers, sixteen words a page, and the payload, 4,096 bytes a page
pub record Raw : Type 0 where
  pub words : List ℕ
  pub bytes : List ℕ

abbrev pub count : Raw → ℕ
count r = length r.words / 16

-- a word of a page's header
abbrev pub word_at : Raw → ℕ → ℕ → ℕ
word_at r page field = slice_index r.words (16 * page + field)

-- `pages` pages, all of whose words and bytes are 0
pub record AreZero (pages : ℕ) (r : Raw) : Type 0 where
  pub headers : length r.words ≡ 16 * pages
  pub payload : length r.bytes ≡ 4096 * pages
  pub words : (k : ℕ) → slice_index r.words k ≡ 0
  pub bytes : (k : ℕ) → slice_index r.bytes k ≡ 0

-- whole headers, at most 4,096, and a payload for each
pub record IsWhole (words bytes : List ℕ) : Type 0 where
  pub payload : length bytes ≡ 256 * length words
  pub headers : length words / 16 * 16 ≡ length words
  pub within : length words ≤ 65536

-- there are 1 to 4,096 pages
abbrev pub is_no_page_count : ℕ → Bool
is_no_page_count pages = nat_eq pages 0 || nat_lt 4096 pages

-- what was asked for is refused for its number of pages
abbrev pub is_pages_fault : {A : Type 0} → Result A PagesFault → Bool
is_pages_fault (Ok made) = false
is_pages_fault (Err Memory) = false
is_pages_fault (Err Pages) = true
