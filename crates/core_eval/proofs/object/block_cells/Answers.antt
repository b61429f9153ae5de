use Rattle.std.proofs.Common.{◌*◌, ◌<◌, rules}
use Rattle.core_eval.specs.Elements.{slot_from}
use Rattle.core_eval.proofs.Elements.{element_pushed}
use Rattle.core_eval.proofs.object.block_cells.Goals as goal

pub each-preserved : goal.each-preserved
each-preserved c =
    let begun = c.args.is_begun in
    let cells = c.deref-cells.result.now in
    let slots = c.each.slots.items in
    let within : c.each.element < c.args.count = search rules in
    record {
      whole = element_pushed (λ n. slot_from begun (n * c.args.layout.now.bytes)) cells c.each.element c.args.count slots _ _ within
          c.in_ok-push_element.ensures c.each.invariant.whole;
    }
