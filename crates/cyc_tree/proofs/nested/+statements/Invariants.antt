use Rattle.std.proofs.Common.{map}
use Rattle.cyc_tree.specs.View.{item_tree, items_of, clause_tree, clauses_of}
use Rattle.cyc_tree.specs.Depths.{items_starts, clauses_starts, greatest_depth}
use Rattle.cyc_tree.proofs.Greatest.{IsGreatestWith}
use Rattle.cyc_tree.proofs.nested.+statements.Given as goal

abbrev pub invariant-items_nesting-each : goal.invariant-items_nesting-each
invariant-items_nesting-each l = IsGreatestWith (λ is. greatest_depth (items_starts 0 (items_of (map item_tree is)))) l.items l.item-index l.greatest

abbrev pub invariant-clauses_nesting-each : goal.invariant-clauses_nesting-each
invariant-clauses_nesting-each l = IsGreatestWith (λ cs. greatest_depth (clauses_starts 0 (clauses_of (map clause_tree cs)))) l.clauses
    l.clause-index l.greatest
