use Rattle.std.proofs.Common.{◌≡◌, ◌++◌, drop, map}
use Rattle.core_eval.specs.Values.{bound_value}
use Rattle.core_eval.proofs.caller.put_words.Given as goal

abbrev pub invariant-each : goal.invariant-each
invariant-each l = record { whole : l.temps.items ++ map bound_value (drop l.word-index l.words) ≡ map bound_value l.words }
