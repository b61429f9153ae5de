use Rattle.std.proofs.Common.{map}
use Rattle.cyc_tree.specs.View.{expression_tree, expressions_of, link_tree, links_of, suffix_tree, suffixes_of}
use Rattle.source_meaning.specs.Strings.{expressions_strings, links_strings, suffixes_strings}
use Rattle.check_programs.specs.Totals.{CountsTo}
use Rattle.check_programs.proofs.strings.+strings.Given as goal

-- those so far and the rest are all
abbrev pub invariant-with_expressions-each : goal.invariant-with_expressions-each
invariant-with_expressions-each l =
    CountsTo (λ es. expressions_strings (expressions_of (map expression_tree es))) l.fn.total l.expressions l.expression-index l.so_far

abbrev pub invariant-with_links-each : goal.invariant-with_links-each
invariant-with_links-each l = CountsTo (λ ls. links_strings (links_of (map link_tree ls))) l.fn.total l.links l.link-index l.so_far

abbrev pub invariant-with_suffixes-each : goal.invariant-with_suffixes-each
invariant-with_suffixes-each l =
    CountsTo (λ ss. suffixes_strings (suffixes_of (map suffix_tree ss))) l.fn.total l.suffixes l.suffix-index l.so_far
