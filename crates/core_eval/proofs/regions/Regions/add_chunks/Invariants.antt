use Rattle.std.proofs.Common.{◌≡◌, ℕ, ◌+◌, ◌-◌, length}
use Rattle.core_eval.specs.Regions.{held_at}
use Rattle.core_eval.proofs.regions.Regions.add_chunks.Given as goal

abbrev pub invariant-chunks : goal.invariant-chunks
invariant-chunks l =
    (l.self.born ≡ l.initial.self.born) × ((n : ℕ) → held_at l.self.chunks.items n ≡ held_at l.initial.self.chunks.items n)

abbrev pub decreases-chunks : goal.decreases-chunks
decreases-chunks l = l.chunk + 1 - length l.self.chunks.items
