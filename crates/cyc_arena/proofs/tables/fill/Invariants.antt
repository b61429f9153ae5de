-- The word is written at the places so far.
use Rattle.std.proofs.Common.{◌-◌, ◌≤◌, ◌≡◌, length}
use Rattle.cyc_arena.specs.Plain.{filled}
use Rattle.cyc_arena.proofs.tables.fill.Given as goal

abbrev pub invariant-words : goal.invariant-words
invariant-words l =
    record {
      within : l.n ≤ l.fn.count;
      long : length l.words.items ≡ length l.initial.words.items;
      done : l.words.items ≡ filled l.n l.fn.from l.fn.word l.initial.words.items;
    }

abbrev pub decreases-words : goal.decreases-words
decreases-words l = l.fn.count - l.n
