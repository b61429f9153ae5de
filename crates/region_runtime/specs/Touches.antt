-- Believed: how many pages were ever used, and how many header words were read or written, after a call.
use Rattle.arena_laws.specs.Counts.{block_needs_page, is_large, run_of}
use Rattle.std.specs.Prelude.{ℕ, ◌+◌, ◌-◌, ◌*◌, ◌≤◌, Bool, nat_eq, nat_lt, if◌then◌else◌}
use Rattle.arena_laws.specs.Holdings.{Holdings}

-- some page was given back
unfoldable pub has_freed : ℕ → Bool
has_freed given = nat_lt 0 given

-- a page that is taken is a freed one where there is one, and else one never used
abbrev pub used_after : Bool → Holdings → ℕ → ℕ
used_after takes h used = (if takes then (if has_freed h.counts.given then used else used + 1) else used)

-- a block takes a run of pages never used where it is large, and else maybe a page
abbrev pub used_with_block : ℕ → ℕ → Holdings → ℕ → ℕ
used_with_block h room held used = (if is_large room then used + run_of room else used_after (block_needs_page h room held.counts) held used)

-- ---- words

unfoldable pub one_if : Bool → ℕ
one_if b = (if b then 1 else 0)

-- a freed page that is taken has its link read
abbrev pub reads_link : Holdings → ℕ
reads_link h = one_if (has_freed h.counts.given)

-- a page has its owner read, where there is such a page
unfoldable pub reads_page : ℕ → ℕ → ℕ
reads_page pages page = one_if (nat_lt page pages)

-- likewise the page whose number it is; 0 is no page's
unfoldable pub reads_number : ℕ → ℕ → ℕ
reads_number pages h = (if nat_eq h 0 then 0 else reads_page pages (h - 1))

-- a call on a live region touches `words` words, and one on another number looks whose it is
abbrev pub touches_for : Bool → ℕ → ℕ → ℕ → ℕ
touches_for live words pages h = (if live then words else reads_number pages h)

-- likewise a call on a field of a taken page, and one on another field or page
abbrev pub touches_field : Bool → ℕ → Bool → ℕ → ℕ → ℕ
touches_field known words there pages page = (if known then words else if there then reads_page pages page else 0)

-- The least that a block takes. In a page that is taken: two words of the heap's page, or eleven of a region and of its pages, and the link of
-- a freed page. In the last page: three in the heap's, five in a region's.
abbrev pub block_least : ℕ → Bool → ℕ → ℕ
block_least h needs link = (if needs then (if nat_eq h 0 then 2 else 11) + link else if nat_eq h 0 then 3 else 5)

-- a run's pages: two words of each of the heap's, seven of each of a region's
unfoldable pub run_words : ℕ → ℕ → ℕ
run_words h pages = (if nat_eq h 0 then 2 * pages else 7 * pages)

-- the least that a block takes, large or not
abbrev pub alloc_least : ℕ → ℕ → Holdings → ℕ
alloc_least h room held =
    (if is_large room then run_words h (run_of room) else block_least h (block_needs_page h room held.counts) (reads_link held))

-- a call that did what was asked touched at least `low` words and at most `more` more, and a refused one at most `high`
pub record Touched (given : Bool) (low more high n : ℕ) : Type 0 where
  pub least : (if given then low else 0) ≤ n
  pub most : n ≤ (if given then low + more else high)
