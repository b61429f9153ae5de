use Rattle.std.proofs.Common.{◌≡◌, ℕ, ◌<◌, None, slice_get}
use Rattle.core_eval.specs.Regions.{item_held}
use Rattle.core_eval.proofs.regions.are_freed.Given as goal

abbrev pub invariant-items : goal.invariant-items
invariant-items l = (k : ℕ) → k < l.region-index → item_held (slice_get l.chunk k) ≡ None
