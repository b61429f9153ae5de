use Rattle.std.proofs.Common.{◌≡◌, ◌-◌, Option, map, option_map, true, false, sym, ap, subst, ◌∙◌, Ok, arith}
use Rattle.std.proofs.lemmas.Result.{err_from_is_err_and}
use Rattle.cyc_lexer.specs.Tokens.{token_tree}
use Rattle.cyc_lexer.specs.declared.token.Sign.TheVariants as sign
use Rattle.cyc_tree.specs.declared.expression.Link.{Link}
use Rattle.cyc_tree.specs.View.{name_tree, expression_tree, suffix_tree, link_tree}
use Rattle.cyc_tree.proofs.Forms.{link_parts}
use Rattle.cyc_parser.specs.declared.operator.Level.{Level}
use Rattle.cyc_parser.specs.Levels.{levels_from, levels_left}
use Rattle.cyc_parser.specs.Reading.{next_place}
use Rattle.cyc_parser.specs.Tests.{is_sign, is_operator, begins_suffix, begins_unary}
use Rattle.cyc_parser.specs.Reader.{Fails, Gives, next_is, passes, behind}
use Rattle.cyc_parser.specs.ReadExpressions.{level_over, all_of, any_of, suffix_by, suffixes_by, links_by, chain_by, all_of_by, any_of_by, expression_at}
use Rattle.cyc_parser.specs.ReadExpressions.{unary_at}
use Rattle.cyc_parser.proofs.Chains.{is_all_of, is_any_of, is_one_of_all, is_one_of_any}
use Rattle.cyc_parser.proofs.ReadLoops.{pushed, fails_so, is_done}
use Rattle.cyc_parser.proofs.ReadSome.{refused, last_pushed, goes_behind}
use Rattle.cyc_parser.proofs.ReadSteps.{is_too_deep, other_fails, other_pushed, others_done}
use Rattle.cyc_parser.proofs.ReadChains.{link_by, above, operator_stands, no_operator_stands, operand_fails, link_read, chain_none, chain_first_fails}
use Rattle.cyc_parser.proofs.ReadChains.{chain_links_fail, chain_read, expression_none, unary_none, expression_below, unary_below}
use Rattle.cyc_parser.proofs.expression.+expression.Goals as goal

-- ---- the nesting

pub expression-returns-then-depth-eq0-clause-reads : goal.expression-returns-then-depth-eq0-clause-reads
expression-returns-then-depth-eq0-clause-reads t c =
    expression_none c.args.depth c.args.cursor.now c.too_deep.result c.if-depth-eq0.true
    (is_too_deep begins_unary c.too_deep.result c.begins_unary.result c.kind.result c.args.cursor.now c.kind.ensures.next
    c.begins_unary.ensures c.too_deep.ensures)

pub expression-returns-else-depth-eq0-clause-reads : goal.expression-returns-else-depth-eq0-clause-reads
expression-returns-else-depth-eq0-clause-reads t c =
    subst (λ f. Gives expression_tree c.assignment.result c.assignment.new.cursor (f c.args.cursor.now))
    (expression_below c.args.depth c.if-depth-eq0.false) c.assignment.ensures.reads

pub unary-returns-then-depth-eq0-clause-reads : goal.unary-returns-then-depth-eq0-clause-reads
unary-returns-then-depth-eq0-clause-reads t c =
    unary_none c.args.depth c.args.cursor.now c.too_deep.result c.if-depth-eq0.true
    (is_too_deep begins_unary c.too_deep.result c.begins_unary.result c.kind.result c.args.cursor.now c.kind.ensures.next
    c.begins_unary.ensures c.too_deep.ensures)

pub unary-returns-else-depth-eq0-clause-reads : goal.unary-returns-else-depth-eq0-clause-reads
unary-returns-else-depth-eq0-clause-reads t c =
    subst (λ f. Gives expression_tree c.operation.result c.operation.new.cursor (f c.args.cursor.now))
    (unary_below c.args.depth c.if-depth-eq0.false) c.operation.ensures.reads

-- ---- `||` and `&&`

pub any_of-returns-in_err-all_of-clause-reads : goal.any_of-returns-in_err-all_of-clause-reads
unfolding any_of_by
any_of-returns-in_err-all_of-clause-reads t c =
    let p = err_from_is_err_and c.from_residual-in_err-all_of.result c.from_residual-in_err-all_of.ensures.1 in
    rw (p.1, p.2) (other_fails sign.OrOr (all_of_by (unary_at c.args.depth)) any_of c.args.cursor.now c.all_of.new.cursor c.others.cursor
    c.eat.new.self _ (map expression_tree c.others.others.items) (next_place c.others.cursor) c.in_err-all_of.field-0.0 c.others.invariant.first
    (sym c.others-test.ensures.next)
    c.others-test.ensures.reads c.in_err-all_of.ensures.reads c.others.invariant.read)

pub any_of-others-preserved : goal.any_of-others-preserved
any_of-others-preserved t c = record {
  first = c.others.invariant.first;
  shorter = omega (arith, c.in_ok-all_of.ensures.shorter, c.others-test.ensures.shorter, c.others.invariant.shorter);
  read = other_pushed expression_tree sign.OrOr (all_of_by (unary_at c.args.depth)) c.others.cursor c.eat.new.self c.all_of-in-others.new.cursor
      c.others.others.items c.push.new.self.items c.in_ok-all_of.field-0 (next_place c.others.cursor) _ c.in_ok-push.ensures.items
      (sym c.others-test.ensures.next)
      c.others-test.ensures.reads c.in_ok-all_of.ensures.reads (omega (
        arith,
        c.in_ok-all_of.ensures.shorter,
        c.others-test.ensures.shorter,
      )) c.others.invariant.read;
}

pub any_of-returns-then-is_empty-clause-reads : goal.any_of-returns-then-is_empty-clause-reads
unfolding any_of_by
any_of-returns-then-is_empty-clause-reads t c =
    rw c.others-test.ensures.shorter (others_done sign.OrOr (all_of_by (unary_at c.args.depth)) any_of c.args.cursor.now c.all_of.new.cursor c.others.cursor _
    (map expression_tree c.others.others.items) _ c.others.invariant.first (sym c.others-test.ensures.next) c.others.invariant.read
    (is_one_of_any c.others.others _ c.if-is_empty.ensures))

pub any_of-returns-in_ok-boxed-clause-reads : goal.any_of-returns-in_ok-boxed-clause-reads
unfolding any_of_by
any_of-returns-in_ok-boxed-clause-reads t c =
    rw c.others-test.ensures.shorter (others_done sign.OrOr (all_of_by (unary_at c.args.depth)) any_of c.args.cursor.now c.all_of.new.cursor c.others.cursor _
    (map expression_tree c.others.others.items) _ c.others.invariant.first (sym c.others-test.ensures.next) c.others.invariant.read
    (is_any_of c.in_ok-boxed.field-0 c.others.others _ c.in_ok-boxed.ensures.ok c.if-is_empty.ensures))

pub all_of-returns-in_err-chain-clause-reads : goal.all_of-returns-in_err-chain-clause-reads
unfolding all_of_by
all_of-returns-in_err-chain-clause-reads t c =
    let p = err_from_is_err_and c.from_residual-in_err-chain.result c.from_residual-in_err-chain.ensures.1 in
    rw (p.1, p.2) (other_fails sign.AndAnd (chain_by (unary_at c.args.depth) 8) all_of c.args.cursor.now c.chain.new.cursor
    c.others.cursor c.eat.new.self _ (map expression_tree c.others.others.items) (next_place c.others.cursor) c.in_err-chain.field-0.0 c.others.invariant.first
    (sym c.others-test.ensures.next)
    c.others-test.ensures.reads c.in_err-chain.ensures.reads c.others.invariant.read)

pub all_of-others-preserved : goal.all_of-others-preserved
all_of-others-preserved t c = record {
  first = c.others.invariant.first;
  shorter = omega (arith, c.in_ok-chain.ensures.shorter, c.others-test.ensures.shorter, c.others.invariant.shorter);
  read = other_pushed expression_tree sign.AndAnd (chain_by (unary_at c.args.depth) 8) c.others.cursor c.eat.new.self c.chain-in-others.new.cursor
      c.others.others.items c.push.new.self.items c.in_ok-chain.field-0 (next_place c.others.cursor) _ c.in_ok-push.ensures.items
      (sym c.others-test.ensures.next)
      c.others-test.ensures.reads c.in_ok-chain.ensures.reads (omega (arith, c.in_ok-chain.ensures.shorter, c.others-test.ensures.shorter))
      c.others.invariant.read;
}

pub all_of-returns-then-is_empty-clause-reads : goal.all_of-returns-then-is_empty-clause-reads
unfolding all_of_by
all_of-returns-then-is_empty-clause-reads t c =
    rw c.others-test.ensures.shorter (others_done sign.AndAnd (chain_by (unary_at c.args.depth) 8) all_of c.args.cursor.now c.chain.new.cursor c.others.cursor _
    (map expression_tree c.others.others.items) _ c.others.invariant.first (sym c.others-test.ensures.next) c.others.invariant.read
    (is_one_of_all c.others.others _ c.if-is_empty.ensures))

pub all_of-returns-in_ok-boxed-clause-reads : goal.all_of-returns-in_ok-boxed-clause-reads
unfolding all_of_by
all_of-returns-in_ok-boxed-clause-reads t c =
    rw c.others-test.ensures.shorter (others_done sign.AndAnd (chain_by (unary_at c.args.depth) 8) all_of c.args.cursor.now c.chain.new.cursor c.others.cursor _
    (map expression_tree c.others.others.items) _ c.others.invariant.first (sym c.others-test.ensures.next) c.others.invariant.read
    (is_all_of c.in_ok-boxed.field-0 c.others.others _ c.in_ok-boxed.ensures.ok c.if-is_empty.ensures))

-- ---- chains

pub chain-returns-in_default-clause-reads : goal.chain-returns-in_default-clause-reads
chain-returns-in_default-clause-reads t c =
    subst (λ (x : Option Level). Gives expression_tree c.unary.result c.unary.new.cursor (chain_by (unary_at c.args.depth)
    (levels_left x) c.args.cursor.now))
    (sym c.in_default.is)
    (subst (λ f. Gives expression_tree c.unary.result c.unary.new.cursor (f c.args.cursor.now)) (sym (chain_none (unary_at
    c.args.depth))) c.unary.ensures.reads)

pub chain-returns-in_err-first-clause-reads : goal.chain-returns-in_err-first-clause-reads
chain-returns-in_err-first-clause-reads t c =
    let p = err_from_is_err_and c.from_residual.result c.from_residual.ensures.1 in
    rw (p.1, p.2, c.in-Some.is) (chain_first_fails (unary_at c.args.depth) c.in-Some.level _ c.args.cursor.now c.in_err-first.field-0.0
    c.tighter.ensures.fewer
    c.in_err-first.ensures.reads)

pub chain-returns-in_err-links-clause-reads : goal.chain-returns-in_err-links-clause-reads
chain-returns-in_err-links-clause-reads t c =
    let p = err_from_is_err_and c.from_residual-in_err-links.result c.from_residual-in_err-links.ensures.1 in
    rw (p.1, p.2, c.in-Some.is) (chain_links_fail (unary_at c.args.depth) c.in-Some.level _ c.args.cursor.now c.chain.new.cursor
    (expression_tree c.in_ok-first.first)
    c.in_err-links.field-0.0 c.tighter.ensures.fewer c.in_ok-first.ensures.reads c.in_err-links.ensures.reads)

pub chain-returns-clause-reads : goal.chain-returns-clause-reads
chain-returns-clause-reads t c =
    rw c.in-Some.is (chain_read (unary_at c.args.depth) c.in-Some.level _ c.args.cursor.now c.chain.new.cursor c.links.new.cursor
    (expression_tree c.in_ok-first.first)
    (expression_tree c.in_ok-linked.field-0) (map link_tree c.in_ok-links.links.items) c.tighter.ensures.fewer
    c.in_ok-first.ensures.reads c.in_ok-links.ensures.reads
    c.in_ok-linked.ensures.tree)

pub links-returns-in_err-operand-clause-reads : goal.links-returns-in_err-operand-clause-reads
unfolding links_by
links-returns-in_err-operand-clause-reads t c =
    let p = err_from_is_err_and c.from_residual-in_err-operand.result c.from_residual-in_err-operand.ensures.1 in
    let n = levels_from c.args.level - 1 in
    let operand = chain_by (unary_at c.args.depth) n in
    let next : next_is (is_operator (level_over n)) c.links.cursor ≡ true =
    operator_stands c.args.level c.links.cursor c.in-Some.operator c.in-Some.ensures in
    rw (p.1, p.2) (fails_so (is_operator (level_over n)) (link_by operand n) (map link_tree c.links.links.items) c.links.cursor
    c.in_err-operand.field-0.0
    (links_by operand n c.args.cursor.now) next
    (operand_fails operand n c.links.cursor c.read.new.self (token_tree c.in_ok-read.field-0) c.in_err-operand.field-0.0 next
    c.in_ok-read.ensures.reads
    (subst (λ m. Fails c.in_err-operand.field-0.0 (chain_by (unary_at c.args.depth) m c.read.new.self)) (above c.args.level _ c.tighter.ensures.fewer)
    c.in_err-operand.ensures.reads)) c.links.invariant.read)

pub links-links-preserved : goal.links-links-preserved
unfolding links_by
links-links-preserved t c =
    let n = levels_from c.args.level - 1 in
    let operand = chain_by (unary_at c.args.depth) n in
    let link : Link = record { operator = c.in-Some.operator; operand = c.in_ok-operand.operand } in
    let next : next_is (is_operator (level_over n)) c.links.cursor ≡ true =
    operator_stands c.args.level c.links.cursor c.in-Some.operator c.in-Some.ensures in
    let one : link_by operand n c.links.cursor ≡ Ok ((c.in-Some.operator, expression_tree c.in_ok-operand.operand), c.chain.new.cursor) =
    link_read operand n c.links.cursor c.read.new.self c.chain.new.cursor (token_tree c.in_ok-read.field-0) c.in-Some.operator
    (expression_tree c.in_ok-operand.operand) next c.in-Some.ensures.1 c.in_ok-read.ensures.reads
    (subst (λ m. chain_by (unary_at c.args.depth) m c.read.new.self ≡ Ok (expression_tree c.in_ok-operand.operand, c.chain.new.cursor))
    (above c.args.level _ c.tighter.ensures.fewer) c.in_ok-operand.ensures.reads) in
    record {
      shorter = omega (arith, c.in_ok-operand.ensures.shorter, c.in_ok-read.ensures.shorter, c.links.invariant.shorter);
      read = pushed link_tree (is_operator (level_over n)) (link_by operand n) c.links.links.items c.push.new.self.items link c.links.cursor
          c.chain.new.cursor (links_by operand n c.args.cursor.now) c.in_ok-push.ensures.items next
          (one ∙ ap (λ l. Ok (l, c.chain.new.cursor)) (sym (link_parts link)))
          (omega (arith, c.in_ok-operand.ensures.shorter, c.in_ok-read.ensures.shorter)) c.links.invariant.read;
    }

pub links-returns-clause-reads : goal.links-returns-clause-reads
unfolding links_by
links-returns-clause-reads t c =
    let n = levels_from c.args.level - 1 in
    let operand = chain_by (unary_at c.args.depth) n in
    is_done (is_operator (level_over n)) (link_by operand n) (map link_tree c.links.links.items) c.links.cursor (links_by operand n c.args.cursor.now)
    (no_operator_stands c.args.level c.links.cursor c.in_default.ensures) c.links.invariant.read

-- ---- arguments and suffixes

pub listed-returns-in_err-expression-clause-reads : goal.listed-returns-in_err-expression-clause-reads
listed-returns-in_err-expression-clause-reads t c =
    let p = err_from_is_err_and c.from_residual.result c.from_residual.ensures.1 in
    let one = expression_at c.args.depth in
    rw (p.1, p.2) (refused one (is_sign sign.Comma) (behind sign.Comma one) c.args.cursor.now (map expression_tree c.more.expressions.items) c.more.cursor
    c.in_err-expression.field-0.0 c.more.invariant.read c.in_err-expression.ensures.reads)

pub listed-returns-then-not-eat-clause-reads : goal.listed-returns-then-not-eat-clause-reads
listed-returns-then-not-eat-clause-reads t c =
    let one = expression_at c.args.depth in
    rw (c.without_spare.ensures, c.if-not-eat.ensures.shorter) (last_pushed expression_tree one (is_sign sign.Comma) (behind sign.Comma one) c.args.cursor.now
    c.more.expressions.items c.push.new.self.items c.in_ok-expression.field-0 c.more.cursor c.expression.new.cursor c.more.invariant.read
    c.in_ok-push.ensures.items c.in_ok-expression.ensures.reads c.in_ok-expression.ensures.shorter (sym c.if-not-eat.ensures.next))

pub listed-more-preserved : goal.listed-more-preserved
listed-more-preserved t c = record {
  shorter = omega (arith, c.if-not-eat.ensures.shorter, c.in_ok-expression.ensures.shorter, c.more.invariant.shorter);
  read = goes_behind expression_tree (expression_at c.args.depth) c.args.cursor.now c.more.expressions.items c.push.new.self.items
      c.in_ok-expression.field-0 c.more.cursor c.expression.new.cursor c.eat.new.self (next_place c.expression.new.cursor) c.more.invariant.read
      c.in_ok-push.ensures.items c.in_ok-expression.ensures.reads c.in_ok-expression.ensures.shorter (sym c.if-not-eat.ensures.next)
      c.if-not-eat.ensures.reads c.if-not-eat.ensures.shorter;
}

pub suffixes-returns-in_err-suffix-clause-reads : goal.suffixes-returns-in_err-suffix-clause-reads
suffixes-returns-in_err-suffix-clause-reads t c =
    let p = err_from_is_err_and c.from_residual-in_err-suffix.result c.from_residual-in_err-suffix.ensures.1 in
    let next : next_is begins_suffix c.more.cursor ≡ true = ap (passes begins_suffix) (sym c.kind.ensures.next) ∙ sym
    c.begins_suffix.ensures ∙ c.more-test.true in
    rw (p.1, p.2) (fails_so begins_suffix (suffix_by (expression_at c.args.depth)) (map suffix_tree c.more.suffixes.items) c.more.cursor
    c.in_err-suffix.field-0.0 (suffixes_by (expression_at c.args.depth) (option_map name_tree c.args.member) c.args.cursor.now) next
    c.in_err-suffix.ensures.reads c.more.invariant.read)

pub suffixes-more-preserved : goal.suffixes-more-preserved
suffixes-more-preserved t c =
    let next : next_is begins_suffix c.more.cursor ≡ true = ap (passes begins_suffix) (sym c.kind.ensures.next) ∙ sym
    c.begins_suffix.ensures ∙ c.more-test.true in
    record {
      shorter = omega (arith, c.in_ok-suffix.ensures.shorter, c.more.invariant.shorter);
      read = pushed suffix_tree begins_suffix (suffix_by (expression_at c.args.depth)) c.more.suffixes.items c.push-in-more.new.self.items
          c.in_ok-suffix.field-0 c.more.cursor c.suffix.new.cursor
          (suffixes_by (expression_at c.args.depth) (option_map name_tree c.args.member) c.args.cursor.now) c.in_ok-push-2.ensures.items next
          c.in_ok-suffix.ensures.reads c.in_ok-suffix.ensures.shorter c.more.invariant.read;
    }

pub suffixes-returns-clause-reads : goal.suffixes-returns-clause-reads
suffixes-returns-clause-reads t c =
    let next : next_is begins_suffix c.more.cursor ≡ false = ap (passes begins_suffix) (sym c.kind.ensures.next) ∙ sym
    c.begins_suffix.ensures ∙ c.more-test.false in
    rw c.without_spare.ensures (is_done begins_suffix (suffix_by (expression_at c.args.depth)) (map suffix_tree c.more.suffixes.items) c.more.cursor
    (suffixes_by (expression_at c.args.depth) (option_map name_tree c.args.member) c.args.cursor.now) next c.more.invariant.read)
