use Rattle.std.proofs.Common.{◌≡◌, ◌*◌, ◌++◌, drop, map}
use Rattle.core_eval.specs.Elements.{slot_from}
use Rattle.core_eval.proofs.object.push_element.Given as goal

abbrev pub invariant-each : goal.invariant-each
invariant-each l = record {
  whole : l.slots.items ++ map (slot_from l.is_begun (l.element * l.bytes)) (drop l.cell-index l.cells) ≡ l.fn.slots.items
      ++ map (slot_from l.is_begun (l.element * l.bytes)) l.cells;
}
