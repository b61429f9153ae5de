use Rattle.std.proofs.Common.{sym, subst}
use Rattle.cyc_tree.proofs.Forms.{link_parts}
use Rattle.cyc_tree.specs.View.{expression_tree, expressions_of, link_tree, links_of, suffix_tree, suffixes_of}
use Rattle.source_meaning.specs.Callees.{expression_callees, expressions_callees, links_callees, suffixes_callees}
use Rattle.source_meaning.specs.Strings.{expression_strings, expressions_strings, links_strings, suffixes_strings}
use Rattle.tree_walk.specs.Listing.{Lists, link_callees, link_strings, suffix_callees, suffix_strings}
use Rattle.tree_walk.proofs.Listing.{callees_of_expressions, callees_of_links, callees_of_suffixes, one_more, strings_of_expressions, strings_of_links}
use Rattle.tree_walk.proofs.Listing.{strings_of_suffixes}
use Rattle.tree_walk.proofs.expressions.+expressions.Goals as goal

-- those of one more are listed

pub list_expressions-each-preserved : goal.list_expressions-each-preserved
list_expressions-each-preserved t c =
    one_more expression_tree (λ es. expressions_strings (expressions_of es)) expression_strings (λ es. expressions_callees (expressions_of es))
    expression_callees strings_of_expressions callees_of_expressions c.args.found.now c.each.found c.list_expression.new.found
    c.args.expressions.now c.each.expression-index c.expression-item.result c.each-test.true c.expression-item.is c.each.invariant
    c.list_expression.ensures

pub list_links-each-preserved : goal.list_links-each-preserved
list_links-each-preserved t c =
    let link = c.link-item.result in
    one_more link_tree (λ ls. links_strings (links_of ls)) link_strings (λ ls. links_callees (links_of ls)) link_callees strings_of_links
    callees_of_links c.args.found.now c.each.found c.list_expression.new.found c.args.links.now c.each.link-index link c.each-test.true
    c.link-item.is c.each.invariant
    (subst (λ l. Lists c.each.found c.list_expression.new.found (link_strings l) (link_callees l)) (sym (link_parts link)) c.list_expression.ensures)

pub list_suffixes-each-preserved : goal.list_suffixes-each-preserved
list_suffixes-each-preserved t c =
    one_more suffix_tree (λ ss. suffixes_strings (suffixes_of ss)) suffix_strings (λ ss. suffixes_callees (suffixes_of ss)) suffix_callees
    strings_of_suffixes callees_of_suffixes c.args.found.now c.each.found c.list_suffix.new.found c.args.suffixes.now c.each.suffix-index
    c.suffix-item.result c.each-test.true c.suffix-item.is c.each.invariant c.list_suffix.ensures
