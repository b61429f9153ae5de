use Rattle.std.proofs.Common.{◌≡◌, ◌-◌, ◌++◌}
use Rattle.core_eval.specs.Elements.{elements_from}
use Rattle.core_eval.proofs.object.block_cells.Given as goal

abbrev pub invariant-each : goal.invariant-each
invariant-each l = record {
  whole : l.slots.items ++ elements_from l.is_begun l.cells l.layout.bytes l.element (l.count - l.element)
      ≡ elements_from l.is_begun l.cells l.layout.bytes 0 l.count;
}
