use Rattle.std.proofs.Common.{◌-◌, ◌≡◌, ◌<◌, ℕ}
use Rattle.region_runtime.specs.Pool.{held, word_of}
use Rattle.unique_blocks.specs.Calls.{IsKept}
use Rattle.unique_blocks.proofs.slots.forget_pages.Given as goal

abbrev pub invariant-pages : goal.invariant-pages
invariant-pages l = record { kept : IsKept l.fn.pool l.pool; none : (q : ℕ) → q < l.page → word_of l.pool q 4 ≡ 0 }

abbrev pub decreases-pages : goal.decreases-pages
decreases-pages l = (held l.pool).pages - l.page
