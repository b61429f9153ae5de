use Rattle.std.proofs.Common.{◌≡◌, map, sym, ◌∙◌, ap, arith, true, false, subst}
use Rattle.std.proofs.lemmas.Result.{err_from_is_err_and}
use Rattle.cyc_tree.specs.View.{item_tree, clause_tree, statement_tree}
use Rattle.source_grammar.specs.Phrases.{Tokens}
use Rattle.cyc_parser.specs.Tests.{begins_item, begins_clause, begins_statement}
use Rattle.cyc_parser.specs.Reader.{Outcome, Gives, too_deep, passes, next_is}
use Rattle.cyc_parser.specs.Reading.{next_place}
use Rattle.cyc_parser.specs.declared.fault.ParseFault.TheVariants.{Parse, TooDeep}
use Rattle.std.specs.Prelude.{if◌then◌else◌}
use Rattle.cyc_parser.specs.ReadExpressions.{expression_at}
use Rattle.cyc_parser.specs.ReadStatements.{item_by, items_by, clause_by, clauses_by, statement_at}
use Rattle.cyc_parser.proofs.ReadLoops.{pushed, fails_so, is_done}
use Rattle.cyc_parser.proofs.ReadSome.{refused, last_pushed, goes_further}
use Rattle.cyc_parser.proofs.Depths.{refuses, statement_none, statement_below}
use Rattle.cyc_parser.proofs.statement.+statement.Goals as goal

-- ---- a statement's depth

pub statement-returns-then-depth-eq0-clause-reads : goal.statement-returns-then-depth-eq0-clause-reads
statement-returns-then-depth-eq0-clause-reads t c =
    let same : c.too_deep.result ≡ too_deep begins_statement c.args.cursor.now =
    c.too_deep.ensures ∙ ap (λ b. if b then TooDeep (next_place c.args.cursor.now) else Parse (next_place c.args.cursor.now))
    (c.begins_statement.ensures ∙ ap (passes begins_statement) c.kind.ensures.next) in
    refuses begins_statement c.args.cursor.now c.too_deep.result (statement_at c.args.depth c.args.cursor.now) same
    (statement_none c.args.depth c.if-depth-eq0.true c.args.cursor.now)

pub statement-returns-else-depth-eq0-clause-reads : goal.statement-returns-else-depth-eq0-clause-reads
statement-returns-else-depth-eq0-clause-reads t c =
    subst (λ (p : Tokens → Outcome _). Gives statement_tree c.compound.result c.compound.new.cursor (p c.args.cursor.now))
    (sym (statement_below c.args.depth c.if-depth-eq0.false)) c.compound.ensures.reads

-- ---- items

pub block_items-returns-in_err-block_item-clause-reads : goal.block_items-returns-in_err-block_item-clause-reads
unfolding items_by
block_items-returns-in_err-block_item-clause-reads t c =
    let p = err_from_is_err_and c.from_residual.result c.from_residual.ensures.1 in
    let next : next_is begins_item c.items.cursor ≡ true =
    ap (passes begins_item) (sym c.kind.ensures.next) ∙ sym c.begins_item.ensures ∙ c.items-test.true in
    rw (p.1, p.2)
    (fails_so begins_item (item_by (expression_at c.args.depth) (statement_at c.args.depth)) (map item_tree c.items.items.items) c.items.cursor
    c.in_err-block_item.field-0.0 (items_by (expression_at c.args.depth) (statement_at c.args.depth) c.args.cursor.now) next
    c.in_err-block_item.ensures.reads c.items.invariant.0)

pub block_items-items-preserved : goal.block_items-items-preserved
unfolding items_by
block_items-items-preserved t c =
    let next : next_is begins_item c.items.cursor ≡ true =
    ap (passes begins_item) (sym c.kind.ensures.next) ∙ sym c.begins_item.ensures ∙ c.items-test.true in (
      pushed item_tree begins_item (item_by (expression_at c.args.depth) (statement_at c.args.depth)) c.items.items.items c.push.new.self.items
          c.in_ok-block_item.field-0 c.items.cursor c.block_item.new.cursor
          (items_by (expression_at c.args.depth) (statement_at c.args.depth) c.args.cursor.now) c.in_ok-push.ensures.items next
          c.in_ok-block_item.ensures.reads c.in_ok-block_item.ensures.shorter c.items.invariant.0,
      omega (arith, c.in_ok-block_item.ensures.shorter, c.items.invariant.1),
    )

pub block_items-returns-clause-reads : goal.block_items-returns-clause-reads
unfolding items_by
block_items-returns-clause-reads t c =
    let next : next_is begins_item c.items.cursor ≡ false =
    ap (passes begins_item) (sym c.kind.ensures.next) ∙ sym c.begins_item.ensures ∙ c.items-test.false in
    rw c.without_spare.ensures (is_done begins_item (item_by (expression_at c.args.depth) (statement_at c.args.depth)) (map item_tree c.items.items.items)
    c.items.cursor (items_by (expression_at c.args.depth) (statement_at c.args.depth) c.args.cursor.now) next c.items.invariant.0)

-- ---- clauses

pub clauses-returns-in_err-clause-clause-reads : goal.clauses-returns-in_err-clause-clause-reads
unfolding clauses_by
clauses-returns-in_err-clause-clause-reads t c =
    let p = err_from_is_err_and c.from_residual.result c.from_residual.ensures.1 in
    let one = clause_by (expression_at c.args.depth) (statement_at c.args.depth) in
    rw (p.1, p.2) (refused one begins_clause one c.args.cursor.now (map clause_tree c.more.clauses.items) c.more.cursor c.in_err-clause.field-0.0
    c.more.invariant.0 c.in_err-clause.ensures.reads)

pub clauses-returns-then-not-begins_clause-clause-reads : goal.clauses-returns-then-not-begins_clause-clause-reads
unfolding clauses_by
clauses-returns-then-not-begins_clause-clause-reads t c =
    let one = clause_by (expression_at c.args.depth) (statement_at c.args.depth) in
    let next : next_is begins_clause c.clause.new.cursor ≡ false =
    ap (passes begins_clause) (sym c.kind.ensures.next) ∙ sym c.begins_clause.ensures ∙ c.if-not-begins_clause.true in
    last_pushed clause_tree one begins_clause one c.args.cursor.now c.more.clauses.items c.push.new.self.items c.in_ok-clause.field-0 c.more.cursor
    c.clause.new.cursor c.more.invariant.0 c.in_ok-push.ensures.items c.in_ok-clause.ensures.reads c.in_ok-clause.ensures.shorter next

pub clauses-more-preserved : goal.clauses-more-preserved
clauses-more-preserved t c =
    let one = clause_by (expression_at c.args.depth) (statement_at c.args.depth) in
    let next : next_is begins_clause c.clause.new.cursor ≡ true =
    ap (passes begins_clause) (sym c.kind.ensures.next) ∙ sym c.begins_clause.ensures ∙ c.if-not-begins_clause.false in (
      goes_further clause_tree one begins_clause c.args.cursor.now c.more.clauses.items c.push.new.self.items c.in_ok-clause.field-0 c.more.cursor
          c.clause.new.cursor c.more.invariant.0 c.in_ok-push.ensures.items c.in_ok-clause.ensures.reads c.in_ok-clause.ensures.shorter next,
      omega (arith, c.in_ok-clause.ensures.shorter, c.more.invariant.1),
    )
