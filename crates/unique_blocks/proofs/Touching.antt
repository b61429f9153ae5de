-- How many words are read and written.
use Rattle.std.proofs.Common.{◌≤◌, Bool, true, false, arith}
use Rattle.std.specs.Prelude.{if◌then◌else◌}
use Rattle.arena_laws.specs.Holdings.{Holdings}
use Rattle.region_runtime.specs.Touches.{has_freed, one_if, reads_link}

-- one link at most is read
pub link_most : (h : Holdings) → reads_link h ≤ 1
unfolding one_if
link_most h = by_test (has_freed h.counts.given)
  where
    by_test : (b : Bool) → (if b then 1 else 0) ≤ 1
    by_test true = omega arith
    by_test false = omega arith
