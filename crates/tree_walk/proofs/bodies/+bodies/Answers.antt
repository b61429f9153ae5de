use Rattle.std.proofs.Common.{map, sym, subst}
use Rattle.cyc_tree.proofs.PartForms.{clause_parts}
use Rattle.cyc_tree.specs.View.{OneClause, clause_tree, clauses_of, item_tree, items_of}
use Rattle.source_meaning.specs.Callees.{clauses_callees, items_callees}
use Rattle.source_meaning.specs.Strings.{clauses_strings, items_strings}
use Rattle.tree_walk.specs.Listing.{Lists, clause_callees, clause_strings, one_item_callees, one_item_strings}
use Rattle.tree_walk.proofs.Listing.{callees_of_clauses, callees_of_items, one_more, strings_of_clauses, strings_of_items}
use Rattle.tree_walk.proofs.bodies.+bodies.Goals as goal

-- those of one more are listed

pub list_items-each-preserved : goal.list_items-each-preserved
list_items-each-preserved t c =
    one_more item_tree (λ is. items_strings (items_of is)) one_item_strings (λ is. items_callees (items_of is)) one_item_callees
    strings_of_items callees_of_items c.args.found.now c.each.found c.list_block_item.new.found c.args.items.now c.each.item-index
    c.item-item.result c.each-test.true c.item-item.is c.each.invariant c.list_block_item.ensures

pub list_clauses-each-preserved : goal.list_clauses-each-preserved
list_clauses-each-preserved t c =
    let clause = c.clause-item.result in
    let b = c.each.found in
    let z = c.list_items.new.found in
    let body =
    subst (λ is. Lists b z (items_strings (items_of (map item_tree is))) (items_callees (items_of (map item_tree is)))) c.deref.ensures.value
    c.list_items.ensures in
    one_more clause_tree (λ cs. clauses_strings (clauses_of cs)) clause_strings (λ cs. clauses_callees (clauses_of cs)) clause_callees
    strings_of_clauses callees_of_clauses c.args.found.now b z c.args.clauses.now c.each.clause-index clause c.each-test.true c.clause-item.is
    c.each.invariant (subst (λ (x : OneClause). Lists b z (clause_strings x) (clause_callees x)) (sym (clause_parts clause)) body)
