use Rattle.std.proofs.Common.{◌≡◌, ◌++◌, drop, false}
use Rattle.cyc_tree.specs.View.{program_tree}
use Rattle.source_meaning.specs.Strings.{program_strings}
use Rattle.tree_walk.specs.Listing.{listed}
use Rattle.tree_walk.proofs.items.strings_of.Given as goal

-- those so far and the rest are all
abbrev pub invariant-each : goal.invariant-each
invariant-each l =
    l.found.failed ≡ false
    → listed l.found.literals.items ++ program_strings (program_tree (drop l.item-index l.items)) ≡ program_strings (program_tree l.items)
