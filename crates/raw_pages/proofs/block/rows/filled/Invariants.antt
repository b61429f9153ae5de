-- Each place that is written holds the value, and the row stays where it lies.
use Rattle.std.specs.Prelude.{◌≡◌, ◌-◌, replicate}
use Rattle.raw_pages.proofs.block.rows.filled.Given as goal

abbrev pub invariant-places : goal.invariant-places
invariant-places g l = (l.row.items ≡ replicate l.row.len l.value) × (l.row.ptr ≡ l.fn.row.ptr) × (l.row.cap ≡ l.fn.row.cap) × (l.value ≡ l.fn.value)

abbrev pub decreases-places : goal.decreases-places
decreases-places g l = l.row.cap - l.row.len
