use Rattle.std.proofs.Common.{map}
use Rattle.cyc_tree.specs.View.{clause_tree, clauses_of, item_tree, items_of}
use Rattle.source_meaning.specs.Callees.{clauses_callees, items_callees}
use Rattle.source_meaning.specs.Strings.{clauses_strings, items_strings}
use Rattle.tree_walk.specs.Listing.{ListsTo}
use Rattle.tree_walk.proofs.bodies.+bodies.Given as goal

-- those so far and the rest are all
abbrev pub invariant-list_items-each : goal.invariant-list_items-each
invariant-list_items-each l =
    ListsTo (λ is. items_strings (items_of (map item_tree is))) (λ is. items_callees (items_of (map item_tree is))) l.initial.found l.items
    l.item-index l.found

abbrev pub invariant-list_clauses-each : goal.invariant-list_clauses-each
invariant-list_clauses-each l =
    ListsTo (λ cs. clauses_strings (clauses_of (map clause_tree cs))) (λ cs. clauses_callees (clauses_of (map clause_tree cs))) l.initial.found
    l.clauses l.clause-index l.found
