-- No place so far has the word.
use Rattle.std.proofs.Common.{ℕ, ◌-◌, ◌<◌, ◌≡◌, false, length, nat_eq}
use Rattle.std.specs.Prelude.{slice_index}
use Rattle.cyc_arena.proofs.tables.find.Given as goal

abbrev pub invariant-words : goal.invariant-words
invariant-words l = (p : ℕ) → p < l.p → nat_eq (slice_index l.fn.words p) l.fn.word ≡ false

abbrev pub decreases-words : goal.decreases-words
decreases-words l = length l.words - l.p
