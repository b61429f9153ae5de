use Rattle.std.proofs.Common.{◌≡◌, ◌-◌}
use Rattle.core_eval.specs.Elements.{begun_cells}
use Rattle.core_eval.proofs.begun.Begun.make_up_to.Given as goal

abbrev pub invariant-elements : goal.invariant-elements
invariant-elements l = record {
  same : begun_cells l.self ≡ begun_cells l.fn.self;
  layout : l.self.layout ≡ l.fn.self.layout;
}

abbrev pub decreases-elements : goal.decreases-elements
decreases-elements l = l.self.count - l.self.made
