use Rattle.std.proofs.Common.{map}
use Rattle.cyc_tree.specs.View.{expression_tree, expressions_of, link_tree, links_of, suffix_tree, suffixes_of}
use Rattle.source_meaning.specs.Callees.{expressions_callees, links_callees, suffixes_callees}
use Rattle.source_meaning.specs.Strings.{expressions_strings, links_strings, suffixes_strings}
use Rattle.tree_walk.specs.Listing.{ListsTo}
use Rattle.tree_walk.proofs.expressions.+expressions.Given as goal

-- those so far and the rest are all
abbrev pub invariant-list_expressions-each : goal.invariant-list_expressions-each
invariant-list_expressions-each l =
    ListsTo (λ es. expressions_strings (expressions_of (map expression_tree es))) (λ es. expressions_callees (expressions_of (map expression_tree es)))
    l.initial.found l.expressions l.expression-index l.found

abbrev pub invariant-list_links-each : goal.invariant-list_links-each
invariant-list_links-each l =
    ListsTo (λ ls. links_strings (links_of (map link_tree ls))) (λ ls. links_callees (links_of (map link_tree ls))) l.initial.found l.links
    l.link-index l.found

abbrev pub invariant-list_suffixes-each : goal.invariant-list_suffixes-each
invariant-list_suffixes-each l =
    ListsTo (λ ss. suffixes_strings (suffixes_of (map suffix_tree ss))) (λ ss. suffixes_callees (suffixes_of (map suffix_tree ss)))
    l.initial.found l.suffixes l.suffix-index l.found
