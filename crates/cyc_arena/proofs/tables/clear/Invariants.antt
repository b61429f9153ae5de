-- The places so far are cleared, and the others as they were.
use Rattle.std.proofs.Common.{ℕ, ◌-◌, ◌<◌, ◌≤◌, ◌≡◌, length, nat_eq}
use Rattle.std.specs.Prelude.{slice_index, if◌then◌else◌}
use Rattle.cyc_arena.proofs.tables.clear.Given as goal

abbrev pub invariant-words : goal.invariant-words
invariant-words l =
    record {
      long : length l.words.items ≡ length l.initial.words.items;
      done : (q : ℕ) → q < l.p → slice_index l.words.items q ≡ (if nat_eq
          (slice_index l.initial.words.items q) l.fn.word then 0 else slice_index l.initial.words.items q);
      rest : (q : ℕ) → l.p ≤ q → slice_index l.words.items q ≡ slice_index l.initial.words.items q;
    }

abbrev pub decreases-words : goal.decreases-words
decreases-words l = length l.words.items - l.p
