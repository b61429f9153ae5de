-- View of code: what the private functions make of a pool's shape.
use Rattle.std.specs.Prelude.{ℕ, ◌+◌, ◌-◌, nat_eq, nat_lt, if◌then◌else◌}
use Rattle.region_runtime.specs.declared.book.Book.{Book}
use Rattle.region_runtime.specs.Headers.{put_word, newest_of, count_of, heap_mark, taken_mark}
use Rattle.region_runtime.specs.Pool.{Pooled, Shape, shape_of}

-- a book as a pool
abbrev pub pool_of : Book → Pooled
pool_of b = record {
  words = b.raw.words;
  bytes = b.raw.bytes;
  first_freed = b.first_freed;
  freed = b.freed;
  ever_used = b.ever_used;
  heap_last = b.heap_last;
  touched = b.touched;
}

abbrev pub seen : Book → Shape
seen b = shape_of (pool_of b)

abbrev pub with_word : ℕ → ℕ → ℕ → Shape → Shape
with_word p f x t = record t { word = put_word p f x t.word }

-- the page that is taken next: the first freed page, else the first page never used
abbrev pub next_page : Shape → ℕ
next_page t = (if nat_lt 0 t.freed then t.first_freed else t.ever_used)

unfoldable pub without_page : Shape → Shape
without_page t =
    (if nat_lt 0 t.freed then record t { first_freed = t.word t.first_freed 0; freed = t.freed - 1 } else record t { ever_used = t.ever_used + 1 })

-- a page becomes a region's first
abbrev pub with_first : ℕ → Shape → Shape
with_first p t = with_word p 6 p (with_word p 5 0 (with_word p 4 1 (with_word p 3 p (with_word p 2 0 (with_word p 1 (p + 1) t)))))

-- the first page never used is taken, also where pages were freed
abbrev pub without_fresh : Shape → Shape
without_fresh t = record t { ever_used = t.ever_used + 1 }

-- a page joins a region, with a block of `room` bytes; its current page stays
abbrev pub with_joined : ℕ → ℕ → ℕ → Shape → Shape
with_joined h p room t =
    with_word (h - 1) 4 (count_of t.word h + 1) (with_word (h - 1) 3 p (with_word p 0 (newest_of t.word h) (with_word p 1 h (with_word p 2 room t))))

-- it becomes the region's current one too
abbrev pub with_newest : ℕ → ℕ → ℕ → Shape → Shape
with_newest h p room t = with_word (h - 1) 6 p (with_joined h p room t)

-- a page joins the heap, with a block of `room` bytes; its last page stays
abbrev pub with_heap_joined : ℕ → ℕ → Shape → Shape
with_heap_joined p room t = with_word p 1 heap_mark (with_word p 2 room t)

-- a page joins the heap (0) or a live region
abbrev pub with_more : ℕ → ℕ → ℕ → Shape → Shape
with_more h p room t = (if nat_eq h 0 then with_heap_joined p room t else with_joined h p room t)

-- it becomes the heap's last too
abbrev pub with_heap_page : ℕ → ℕ → Shape → Shape
with_heap_page p room t = record (with_heap_joined p room t) { heap_last = p + 1 }

-- a page becomes the last of the heap (0) or a live region
abbrev pub with_page : ℕ → ℕ → ℕ → Shape → Shape
with_page h p room t = (if nat_eq h 0 then with_heap_page p room t else with_newest h p room t)

-- a page is its taker's
abbrev pub with_taken : ℕ → Shape → Shape
with_taken p t = with_word p 1 taken_mark t

-- a region's chain is put before that of the freed pages
abbrev pub with_freed : ℕ → Shape → Shape
with_freed h t =
    record (with_word (h - 1) 1 0 (with_word (h - 1) 0 t.first_freed t)) { first_freed = newest_of t.word h; freed = count_of t.word h + t.freed }
