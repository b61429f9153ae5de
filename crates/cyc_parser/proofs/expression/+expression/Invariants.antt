use Rattle.std.proofs.Common.{◌≡◌, ◌≤◌, length, map, option_map, Ok, ◌+◌, ◌*◌, ◌-◌}
use Rattle.cyc_lexer.specs.declared.token.Sign.TheVariants as sign
use Rattle.cyc_tree.specs.View.{name_tree, expression_tree, link_tree, suffix_tree}
use Rattle.cyc_parser.specs.Levels.{levels_from, levels_left}
use Rattle.cyc_parser.specs.Tests.{is_sign, begins_suffix}
use Rattle.cyc_parser.specs.Reader.{many, behind}
use Rattle.cyc_parser.specs.ReadExpressions.{expression_at, unary_at, all_of_by, chain_by, links_by, suffix_by, suffixes_by}
use Rattle.cyc_parser.proofs.ReadLoops.{with_front}
use Rattle.cyc_parser.proofs.ReadSome.{Before}
use Rattle.cyc_parser.proofs.expression.+expression.Given as goal

abbrev pub decreases-expression : goal.decreases-expression
decreases-expression l = 64 * l.depth

abbrev pub decreases-assignment : goal.decreases-assignment
decreases-assignment l = 64 * l.depth + 63

abbrev pub decreases-any_of : goal.decreases-any_of
decreases-any_of l = 64 * l.depth + 62

abbrev pub invariant-any_of-others : goal.invariant-any_of-others
invariant-any_of-others l = record {
  first : all_of_by (unary_at l.depth) l.fn.cursor ≡ Ok (expression_tree l.first, l.initial.cursor);
  shorter : length l.cursor ≤ length l.initial.cursor;
  read : with_front (map expression_tree l.others.items) (many (is_sign sign.OrOr) (behind sign.OrOr (all_of_by (unary_at l.depth))) l.cursor)
      ≡ many (is_sign sign.OrOr) (behind sign.OrOr (all_of_by (unary_at l.depth))) l.initial.cursor;
}

abbrev pub decreases-any_of-others : goal.decreases-any_of-others
decreases-any_of-others l = length l.cursor

abbrev pub decreases-all_of : goal.decreases-all_of
decreases-all_of l = 64 * l.depth + 61

abbrev pub invariant-all_of-others : goal.invariant-all_of-others
invariant-all_of-others l = record {
  first : chain_by (unary_at l.depth) 8 l.fn.cursor ≡ Ok (expression_tree l.first, l.initial.cursor);
  shorter : length l.cursor ≤ length l.initial.cursor;
  read : with_front (map expression_tree l.others.items) (many (is_sign sign.AndAnd) (behind sign.AndAnd (chain_by (unary_at l.depth) 8)) l.cursor)
      ≡ many (is_sign sign.AndAnd) (behind sign.AndAnd (chain_by (unary_at l.depth) 8)) l.initial.cursor;
}

abbrev pub decreases-all_of-others : goal.decreases-all_of-others
decreases-all_of-others l = length l.cursor

abbrev pub decreases-chain : goal.decreases-chain
decreases-chain l = 64 * l.depth + 10 + 4 * levels_left l.level

abbrev pub decreases-links : goal.decreases-links
decreases-links l = 64 * l.depth + 9 + 4 * levels_from l.level

abbrev pub invariant-links-links : goal.invariant-links-links
invariant-links-links l = record {
  shorter : length l.cursor ≤ length l.fn.cursor;
  read : with_front (map link_tree l.links.items)
      (links_by (chain_by (unary_at l.depth) (levels_from l.level - 1)) (levels_from l.level - 1) l.cursor)
      ≡ links_by (chain_by (unary_at l.depth) (levels_from l.level - 1)) (levels_from l.level - 1) l.fn.cursor;
}

abbrev pub decreases-links-links : goal.decreases-links-links
decreases-links-links l = length l.cursor

abbrev pub decreases-unary : goal.decreases-unary
decreases-unary l = 64 * l.depth + 8

abbrev pub decreases-operation : goal.decreases-operation
decreases-operation l = 64 * l.depth + 40

abbrev pub decreases-prefixed : goal.decreases-prefixed
decreases-prefixed l = 64 * l.depth + 30

abbrev pub decreases-made_in : goal.decreases-made_in
decreases-made_in l = 64 * l.depth + 32

abbrev pub decreases-made : goal.decreases-made
decreases-made l = 64 * l.depth + 31

abbrev pub decreases-array : goal.decreases-array
decreases-array l = 64 * l.depth + 30

abbrev pub decreases-postfix : goal.decreases-postfix
decreases-postfix l = 64 * l.depth + 30

abbrev pub decreases-primary : goal.decreases-primary
decreases-primary l = 64 * l.depth + 20

abbrev pub decreases-enclosed : goal.decreases-enclosed
decreases-enclosed l = 64 * l.depth + 10

abbrev pub decreases-closed : goal.decreases-closed
decreases-closed l = 64 * l.depth + 9

abbrev pub decreases-named : goal.decreases-named
decreases-named l = 64 * l.depth + 20

abbrev pub decreases-arguments : goal.decreases-arguments
decreases-arguments l = 64 * l.depth + 10

abbrev pub decreases-listed : goal.decreases-listed
decreases-listed l = 64 * l.depth + 9

abbrev pub invariant-listed-more : goal.invariant-listed-more
invariant-listed-more l = record {
  shorter : length l.cursor ≤ length l.fn.cursor;
  read : Before (expression_at l.depth) (is_sign sign.Comma) (behind sign.Comma (expression_at l.depth)) l.fn.cursor
      (map expression_tree l.expressions.items) l.cursor;
}

abbrev pub decreases-listed-more : goal.decreases-listed-more
decreases-listed-more l = length l.cursor

abbrev pub decreases-suffixes : goal.decreases-suffixes
decreases-suffixes l = 64 * l.depth + 20

abbrev pub invariant-suffixes-more : goal.invariant-suffixes-more
invariant-suffixes-more l = record {
  shorter : length l.cursor ≤ length l.fn.cursor;
  read : with_front (map suffix_tree l.suffixes.items) (many begins_suffix (suffix_by (expression_at l.depth)) l.cursor)
      ≡ suffixes_by (expression_at l.depth) (option_map name_tree l.fn.member) l.fn.cursor;
}

abbrev pub decreases-suffixes-more : goal.decreases-suffixes-more
decreases-suffixes-more l = length l.cursor

abbrev pub decreases-suffix : goal.decreases-suffix
decreases-suffix l = 64 * l.depth + 10
