use Rattle.std.proofs.Common.{◌<◌, rules}
use Rattle.core_eval.specs.Whole.{begins_as}
use Rattle.core_eval.proofs.Elements.{element_pushed}
use Rattle.core_eval.proofs.whole.first_elements.Goals as goal

pub each-preserved : goal.each-preserved
each-preserved c =
    let within : c.each.counter < c.args.count = search rules in
    record {
      whole = element_pushed (λ e. begins_as) c.args.cells.now c.each.counter c.args.count c.each.values.items _ _ within
          c.in_ok-push_element.ensures c.each.invariant.whole;
    }
