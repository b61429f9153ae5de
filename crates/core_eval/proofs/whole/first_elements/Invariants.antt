use Rattle.std.proofs.Common.{◌≡◌, ◌-◌, ◌++◌}
use Rattle.core_eval.specs.Elements.{each_element}
use Rattle.core_eval.specs.Whole.{begins_as, first_elements}
use Rattle.core_eval.proofs.whole.first_elements.Given as goal

abbrev pub invariant-each : goal.invariant-each
invariant-each l = record {
  whole : l.values.items ++ each_element (λ e. begins_as) l.cells l.counter (l.count - l.counter) ≡ first_elements l.cells l.count;
}
