use Rattle.std.proofs.Common.{map}
use Rattle.cyc_tree.specs.View.{program_item_tree}
use Rattle.cyc_tree.specs.Depths.{program_starts, greatest_depth}
use Rattle.cyc_tree.proofs.Greatest.{IsGreatestWith}
use Rattle.cyc_tree.proofs.nested.nesting.Given as goal

abbrev pub invariant-each : goal.invariant-each
invariant-each l = IsGreatestWith (λ is. greatest_depth (program_starts (map program_item_tree is))) l.item-items l.item-index l.greatest
