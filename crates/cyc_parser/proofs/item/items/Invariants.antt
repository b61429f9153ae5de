use Rattle.std.proofs.Common.{map, length}
use Rattle.cyc_tree.specs.Depths.{nesting_limit}
use Rattle.cyc_tree.specs.View.{program_item_tree}
use Rattle.cyc_parser.specs.Tests.{is_any}
use Rattle.cyc_parser.specs.ReadPrograms.{item}
use Rattle.cyc_parser.proofs.ReadSome.{Before}
use Rattle.cyc_parser.proofs.item.items.Given as goal

abbrev pub invariant-items : goal.invariant-items
invariant-items l = Before (item nesting_limit) is_any (item nesting_limit) l.fn.cursor (map program_item_tree l.items.items) l.cursor

abbrev pub decreases-items : goal.decreases-items
decreases-items l = length l.cursor
