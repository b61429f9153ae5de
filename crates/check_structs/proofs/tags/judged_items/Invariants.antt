use Rattle.std.proofs.Common.{◌≡◌, drop}
use Rattle.cyc_tree.specs.View.{program_tree}
use Rattle.check_structs.specs.Tags.{JudgedTo}
use Rattle.check_structs.proofs.tags.judged_items.Given as goal

-- the items so far are judged
abbrev pub invariant-each : goal.invariant-each
invariant-each l =
    JudgedTo (program_tree l.items) l.item-index
    (program_tree (drop l.item-index l.items)) l.done
    × (l.order ≡ l.item-index)
