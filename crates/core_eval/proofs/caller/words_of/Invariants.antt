use Rattle.std.proofs.Common.{◌≡◌, ◌++◌, drop, map}
use Rattle.core_eval.specs.Values.{bound_value}
use Rattle.core_eval.proofs.caller.words_of.Given as goal

abbrev pub invariant-each : goal.invariant-each
invariant-each l = record { whole : map bound_value l.words.items ++ drop l.value-index l.values ≡ l.values }
