use Rattle.std.proofs.Common.{◌≡◌, ◌≤◌, map, length}
use Rattle.cyc_tree.specs.View.{pointer_tree}
use Rattle.cyc_parser.specs.ReadTypes.{pointers}
use Rattle.cyc_parser.proofs.ReadLoops.{with_front}
use Rattle.cyc_parser.proofs.type_name.pointers.Given as goal

abbrev pub invariant-pointers : goal.invariant-pointers
invariant-pointers l = (with_front (map pointer_tree l.pointers.items) (pointers l.cursor) ≡ pointers l.fn.cursor) × (length l.cursor ≤ length l.fn.cursor)

abbrev pub decreases-pointers : goal.decreases-pointers
decreases-pointers l = length l.cursor
