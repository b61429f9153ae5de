use Rattle.std.proofs.Common.{◌≡◌, map, drop}
use Rattle.std.specs.Prelude.{◌||◌}
use Rattle.cyc_tree.specs.View.{clause_tree, clauses_of, item_tree, items_of}
use Rattle.source_typing.specs.Ways.{breaks_of, then_ways, ways_of_items}
use Rattle.check_statements.specs.Leaving.{ways_in}
use Rattle.check_statements.proofs.ways.+ways.Given as goal

-- the items so far and the rest are all items
abbrev pub invariant-items_ways-each : goal.invariant-items_ways-each
invariant-items_ways-each l =
    then_ways (ways_in l.so_far) (ways_of_items (items_of (map item_tree (drop l.item-index l.items))))
    ≡ ways_of_items (items_of (map item_tree l.items))

-- the clauses so far and the rest are all clauses
abbrev pub invariant-clauses_break-each : goal.invariant-clauses_break-each
invariant-clauses_break-each l =
    (l.any || breaks_of (clauses_of (map clause_tree (drop l.clause-index l.clauses))))
    ≡ breaks_of (clauses_of (map clause_tree l.clauses))
