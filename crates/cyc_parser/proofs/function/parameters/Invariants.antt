use Rattle.std.proofs.Common.{◌≡◌, ◌≤◌, map, length}
use Rattle.cyc_tree.specs.View.{member_tree}
use Rattle.cyc_parser.specs.ReadTypes.{typed_name}
use Rattle.cyc_parser.specs.ReadPrograms.{parameters}
use Rattle.cyc_parser.proofs.ReadLoops.{with_front}
use Rattle.cyc_parser.proofs.ReadLists.{behind_commas}
use Rattle.cyc_parser.proofs.function.parameters.Given as goal

abbrev pub invariant-more : goal.invariant-more
invariant-more l = (with_front (map member_tree l.parameters.items) (behind_commas typed_name l.cursor) ≡ parameters l.fn.cursor)
    × (length l.cursor ≤ length l.fn.cursor)

abbrev pub decreases-more : goal.decreases-more
decreases-more l = length l.cursor
