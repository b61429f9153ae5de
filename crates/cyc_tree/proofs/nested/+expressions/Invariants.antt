use Rattle.std.proofs.Common.{map}
use Rattle.cyc_tree.specs.View.{expression_tree, expressions_of, link_tree, links_of, suffix_tree, suffixes_of}
use Rattle.cyc_tree.specs.Depths.{argument_starts, operand_starts, link_starts, suffix_starts, greatest_depth}
use Rattle.cyc_tree.proofs.Greatest.{IsGreatestWith}
use Rattle.cyc_tree.proofs.nested.+expressions.Given as goal

abbrev pub invariant-argument_nesting-each : goal.invariant-argument_nesting-each
invariant-argument_nesting-each l =
    IsGreatestWith (λ es. greatest_depth (argument_starts 0 (expressions_of (map expression_tree es)))) l.arguments l.argument-index l.greatest

abbrev pub invariant-operand_nesting-each : goal.invariant-operand_nesting-each
invariant-operand_nesting-each l =
    IsGreatestWith (λ es. greatest_depth (operand_starts 0 (expressions_of (map expression_tree es)))) l.operands l.operand-index l.greatest

abbrev pub invariant-link_nesting-each : goal.invariant-link_nesting-each
invariant-link_nesting-each l =
    IsGreatestWith (λ ls. greatest_depth (link_starts 0 (links_of (map link_tree ls)))) l.links l.link-index l.greatest

abbrev pub invariant-suffix_nesting-each : goal.invariant-suffix_nesting-each
invariant-suffix_nesting-each l =
    IsGreatestWith (λ ss. greatest_depth (suffix_starts 0 (suffixes_of (map suffix_tree ss)))) l.suffixes l.suffix-index l.greatest
