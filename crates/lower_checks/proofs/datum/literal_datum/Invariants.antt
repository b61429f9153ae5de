use Rattle.std.proofs.Common.{◌≡◌, ◌++◌, ◌<◌, ℕ, drop, Some}
use Rattle.std.specs.Prelude.{slice_get}
use Rattle.lower_checks.proofs.datum.literal_datum.Given as goal

-- those so far and the rest are all, and those so far are bytes
abbrev pub invariant-each : goal.invariant-each
invariant-each l = record {
  all : l.bytes.items ++ drop l.byte-index l.literal.bytes.now ≡ l.literal.bytes.now;
  low : (k b : ℕ) → slice_get l.bytes.items k ≡ Some b → b < 256;
}
