use Rattle.std.proofs.Common.{◌≤◌, map, length}
use Rattle.cyc_tree.specs.View.{member_tree}
use Rattle.cyc_parser.specs.Tests.{begins_type}
use Rattle.cyc_parser.specs.ReadPrograms.{member}
use Rattle.cyc_parser.proofs.ReadSome.{Before}
use Rattle.cyc_parser.proofs.item.some_members.Given as goal

abbrev pub invariant-more : goal.invariant-more
invariant-more l =
    Before member begins_type member l.fn.cursor (map member_tree l.members.items) l.cursor × (length l.cursor ≤ length l.fn.cursor)

abbrev pub decreases-more : goal.decreases-more
decreases-more l = length l.cursor
