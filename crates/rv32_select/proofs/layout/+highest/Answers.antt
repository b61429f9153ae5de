use Rattle.std.proofs.Common.{◌≡◌, ◌+◌, ◌∷◌, ap, arith, drop, map, sym, ◌∙◌}
use Rattle.std.proofs.lemmas.List.{drop_more}
use Rattle.std.proofs.lemmas.Result.{IfOk-weaker, on_ok_weaker}
use Rattle.cyc_core.specs.Trees.{local_tree, statement_tree, body_tree}
use Rattle.core_lines.specs.Selected.{greater, highest_of, shrunk_of, names_after_all}
use Rattle.rv32_select.proofs.Greatest.{most_more}
use Rattle.rv32_select.proofs.Naming.{block_end, block_names}
use Rattle.rv32_select.proofs.Sizes.{statements_size}
use Rattle.rv32_select.proofs.layout.+highest.Goals as goal

pub highest_in-returns-clause-most : goal.highest_in-returns-clause-most
highest_in-returns-clause-most t c =
    let ls = c.args.locals.now in
    let hs = c.args.homes.now in
    let body = body_tree c.args.body.now in
    let low = block_end c.args.low c.in_ok-end.end (map local_tree ls) hs c.behind.result.now c.args.named.now c.in_ok-end.ensures c.behind.ensures in
    let names = block_names local_tree ls hs c.args.named.now c.in_ok-inner.inner c.in_ok-inner.ensures in
    IfOk-weaker c.highest_of.result _ _ (λ n e. e ∙ (λ k. highest_of (low k) (shrunk_of (names k) body))) c.highest_of.ensures.most

pub highest_in-returns-clause-names : goal.highest_in-returns-clause-names
highest_in-returns-clause-names t c =
    let ls = c.args.locals.now in
    let names = block_names local_tree ls c.args.homes.now c.args.named.now c.in_ok-inner.inner c.in_ok-inner.ensures in
    on_ok_weaker c.highest_of.result (λ e. e ∙ ap (names_after_all (body_tree c.args.body.now)) names) c.highest_of.ensures.names

pub highest_of-each-preserved : goal.highest_of-each-preserved
highest_of-each-preserved t c =
    let xs = c.args.statements.now in
    let hs = c.args.homes.now in
    let low = c.args.low in
    let i = c.each.statement-index in
    let x = c.statement-item.result in
    let e : drop i xs ≡ x ∷ drop (i + 1) xs = drop_more xs i x c.each-test.true ∙ ap (λ y. y ∷ drop (i + 1) xs) (sym c.statement-item.is) in
    let rest = body_tree (drop (i + 1) xs) in
    let now = drop c.each.named hs in
    let next = drop c.highest.new.named hs in
    let size = ap (λ ss. statements_size (body_tree ss)) e in
    let fewer = c.each.invariant.size in
    record {
      whole = ap (λ n. greater n (highest_of low (shrunk_of next rest))) c.greater-most.ensures ∙
          most_more low c.each.most c.in_ok-highest.field-0 (statement_tree x) rest (body_tree (drop i xs)) now next (ap body_tree e)
          c.in_ok-highest.ensures.most c.in_ok-highest.ensures.names ∙ c.each.invariant.whole;
      names = ap (names_after_all rest) c.in_ok-highest.ensures.names ∙ ap (λ ss. names_after_all (body_tree ss) now) (sym e) ∙ c.each.invariant.names;
      size = omega (arith, size, fewer);
    }
