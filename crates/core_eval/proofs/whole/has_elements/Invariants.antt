use Rattle.std.proofs.Common.{◌≡◌, ◌-◌}
use Rattle.core_eval.specs.Blocks.{AreOrdered, stored_of}
use Rattle.core_eval.specs.Whole.{are_elements, elements_alike, slots_of}
use Rattle.core_eval.proofs.whole.has_elements.Given as goal

abbrev pub invariant-each : goal.invariant-each
invariant-each l = record {
  whole : AreOrdered l.memory
      → are_elements (slots_of (stored_of l.memory) l.fn.place) l.at.cell l.at.byte l.cells l.layout.bytes (l.count - l.counter)
      ≡ are_elements (slots_of (stored_of l.memory) l.fn.place) l.fn.place.cell l.fn.place.byte l.cells l.layout.bytes l.count;
  alike : AreOrdered l.memory
      → elements_alike (slots_of (stored_of l.memory) l.fn.place) l.at.cell l.cells (l.count - l.counter)
      ≡ elements_alike (slots_of (stored_of l.memory) l.fn.place) l.fn.place.cell l.cells l.count;
}
