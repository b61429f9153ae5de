-- View of code: what is true of every pool.
use Rattle.std.specs.Prelude.{◌≡◌, ℕ, ◌+◌, ◌-◌, ◌%◌, ◌<◌, ◌≤◌, true, List, nat_lt, if◌then◌else◌}
use Rattle.raw_pages.specs.Raw.{IsWhole}
use Rattle.region_runtime.specs.Chains.{follow, times, last_or}
use Rattle.region_runtime.specs.Headers.{AreBlank, link_of, owner_of, used_of, current_of, heap_mark, is_live_number, pages_of}
use Rattle.region_runtime.specs.Pool.{Pooled, Shape, shape_of}

-- how often a page is in use: once for a marked page, and for another as often as it is on its live owner's chain
unfoldable pub uses : (ℕ → ℕ) → (ℕ → List ℕ) → ℕ → ℕ
uses owner chain p = (if nat_lt 4096 (owner p) then 1 else if is_live_number owner (owner p) then times p (chain (owner p)) else 0)

-- Each page has one place: among the freed pages, in use, never used, or in hand. The pages of a live region's chain are its own, and its last
-- is the region's first page.
pub record AreChains (free : List ℕ) (owner : ℕ → ℕ) (chain : ℕ → List ℕ) (ever_used : ℕ) (in_hand : ℕ → ℕ) : Type 0 where
  pub once : (p : ℕ) → times p free + uses owner chain p + (if nat_lt p ever_used then 0 else 1) + in_hand p ≡ 1
  pub named : (h p : ℕ) → is_live_number owner h ≡ true → 0 < times p (chain h) → owner p ≡ h
  pub first : (h : ℕ) → is_live_number owner h ≡ true → last_or h (chain h) ≡ h - 1

abbrev pub freed_of : Shape → List ℕ
freed_of t = follow (link_of t.word) t.freed t.first_freed

pub record IsOrdered (t : Shape) (in_hand : ℕ → ℕ) : Type 0 where
  pub few : t.pages ≤ 4096
  pub begun : t.ever_used ≤ t.pages
  pub chains : AreChains (freed_of t) (owner_of t.word) (pages_of t.word) t.ever_used in_hand
  pub rounded : (p : ℕ) → used_of t.word p % 8 ≡ 0
  pub within : (p : ℕ) → used_of t.word p ≤ 4096
  pub current : (h : ℕ) → is_live_number (owner_of t.word) h ≡ true → 0 < times (current_of t.word h) (pages_of t.word h)
  pub heap : (p : ℕ) → t.heap_last ≡ p + 1 → owner_of t.word p ≡ heap_mark
  pub unused : AreBlank t.ever_used t.word

-- no page is in hand between calls
abbrev pub no_page : ℕ → ℕ
no_page p = 0

pub record IsSound (p : Pooled) : Type 0 where
  pub whole : IsWhole p.words p.bytes
  pub ordered : IsOrdered (shape_of p) no_page
