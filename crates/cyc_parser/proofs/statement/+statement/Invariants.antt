use Rattle.std.proofs.Common.{◌≡◌, ◌≤◌, length, map, ◌+◌, ◌*◌}
use Rattle.cyc_tree.specs.View.{item_tree, clause_tree}
use Rattle.cyc_parser.specs.Tests.{begins_clause}
use Rattle.cyc_parser.specs.ReadExpressions.{expression_at}
use Rattle.cyc_parser.specs.ReadStatements.{items_by, clause_by, statement_at}
use Rattle.cyc_parser.proofs.ReadLoops.{with_front}
use Rattle.cyc_parser.proofs.ReadSome.{Before}
use Rattle.cyc_parser.proofs.statement.+statement.Given as goal

abbrev pub decreases-statement : goal.decreases-statement
decreases-statement l = 8 * l.depth

abbrev pub decreases-compound : goal.decreases-compound
decreases-compound l = 8 * l.depth + 7

abbrev pub decreases-block : goal.decreases-block
decreases-block l = 8 * l.depth + 6

abbrev pub decreases-block_item : goal.decreases-block_item
decreases-block_item l = 8 * l.depth + 1

abbrev pub decreases-block_items : goal.decreases-block_items
decreases-block_items l = 8 * l.depth + 2

abbrev pub invariant-block_items-items : goal.invariant-block_items-items
invariant-block_items-items l =
    (with_front (map item_tree l.items.items) (items_by (expression_at l.depth) (statement_at l.depth) l.cursor)
    ≡ items_by (expression_at l.depth) (statement_at l.depth) l.fn.cursor)
    × (length l.cursor ≤ length l.fn.cursor)

abbrev pub decreases-block_items-items : goal.decreases-block_items-items
decreases-block_items-items l = length l.cursor

abbrev pub decreases-boxed : goal.decreases-boxed
decreases-boxed l = 8 * l.depth + 1

abbrev pub decreases-conditional : goal.decreases-conditional
decreases-conditional l = 8 * l.depth + 6

abbrev pub decreases-repeated : goal.decreases-repeated
decreases-repeated l = 8 * l.depth + 6

abbrev pub decreases-switch : goal.decreases-switch
decreases-switch l = 8 * l.depth + 6

abbrev pub decreases-clauses : goal.decreases-clauses
decreases-clauses l = 8 * l.depth + 5

abbrev pub invariant-clauses-more : goal.invariant-clauses-more
invariant-clauses-more l =
    Before (clause_by (expression_at l.depth) (statement_at l.depth)) begins_clause (clause_by (expression_at l.depth) (statement_at l.depth))
    l.fn.cursor (map clause_tree l.clauses.items) l.cursor
    × (length l.cursor ≤ length l.fn.cursor)

abbrev pub decreases-clauses-more : goal.decreases-clauses-more
decreases-clauses-more l = length l.cursor

abbrev pub decreases-clause : goal.decreases-clause
decreases-clause l = 8 * l.depth + 4
