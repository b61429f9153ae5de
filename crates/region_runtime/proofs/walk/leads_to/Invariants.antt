use Rattle.std.proofs.Common.{ℕ, ◌<◌, ◌≡◌, nat_lt, length, ◌/◌}
use Rattle.region_runtime.specs.Chains.{follow, times}
use Rattle.region_runtime.specs.Headers.{link_of, word_in}
use Rattle.region_runtime.proofs.walk.leads_to.Given as goal

abbrev pub invariant-pages : goal.invariant-pages
invariant-pages l =
    record {
      within : (q : ℕ) → 0 < times q (follow (link_of (word_in l.raw.words)) l.left l.at) → q < length l.raw.words / 16;
      same : nat_lt 0 (times l.page (follow (link_of (word_in l.raw.words)) l.left l.at))
          ≡ nat_lt 0 (times l.fn.page (follow (link_of (word_in l.raw.words)) l.fn.many l.fn.from));
    }

abbrev pub decreases-pages : goal.decreases-pages
decreases-pages l = l.left
