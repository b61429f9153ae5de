use Rattle.std.proofs.Common.{◌≡◌, ◌++◌, drop, vec_len}
use Rattle.core_eval.specs.Elements.{text_cells}
use Rattle.core_eval.proofs.object.text_cells.Given as goal

abbrev pub invariant-each : goal.invariant-each
invariant-each l = record { whole : l.slots.items ++ text_cells (vec_len l.slots) (drop l.byte-index l.bytes) ≡ text_cells 0 l.bytes }
