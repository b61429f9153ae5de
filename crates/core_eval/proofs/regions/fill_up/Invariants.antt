use Rattle.std.proofs.Common.{◌≡◌, ℕ, ◌+◌, ◌-◌, length, slice_get}
use Rattle.core_eval.specs.Regions.{item_held}
use Rattle.core_eval.proofs.regions.fill_up.Given as goal

abbrev pub invariant-items : goal.invariant-items
invariant-items l = (k : ℕ) → item_held (slice_get l.chunk.items k) ≡ item_held (slice_get l.initial.chunk.items k)

abbrev pub decreases-items : goal.decreases-items
decreases-items l = l.position + 1 - length l.chunk.items
