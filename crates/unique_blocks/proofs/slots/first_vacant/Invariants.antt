use Rattle.std.proofs.Common.{◌-◌, ◌+◌, ◌≡◌, ◌*◌, ◌<◌, ◌≤◌, ℕ, true}
use Rattle.region_runtime.specs.Pool.{word_of}
use Rattle.unique_blocks.specs.Slots.{bit_of}
use Rattle.unique_blocks.proofs.slots.first_vacant.Given as goal

abbrev pub invariant-parts : goal.invariant-parts
invariant-parts l = record {
  few : l.part ≤ 4;
  counts : l.touched ≡ l.initial.touched + 2 * l.part;
  below : (j : ℕ) → j < 32 * l.part
      → bit_of (word_of l.pool) l.page j ≡ true;
}

abbrev pub decreases-parts : goal.decreases-parts
decreases-parts l = 4 - l.part
