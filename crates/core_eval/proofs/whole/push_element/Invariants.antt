use Rattle.std.proofs.Common.{◌≡◌, ◌++◌, drop, map}
use Rattle.core_eval.specs.Whole.{begins_as}
use Rattle.core_eval.proofs.whole.push_element.Given as goal

abbrev pub invariant-each : goal.invariant-each
invariant-each l = record { whole : l.values.items ++ map begins_as (drop l.cell-index l.cells) ≡ l.fn.values.items ++ map begins_as l.cells }
