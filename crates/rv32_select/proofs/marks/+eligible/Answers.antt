use Rattle.std.proofs.Common.{◌≡◌, ℕ, ◌+◌, ◌∷◌, ◌++◌, false, ap, arith, drop, map, refl, rules, sym, ◌∙◌}
use Rattle.std.proofs.lemmas.List.{drop_all, drop_more}
use Rattle.std.proofs.lemmas.Result.{on_ok_weaker}
use Rattle.cyc_core.specs.declared.statement.Statement.TheFolds.{the_lemmas}
use Rattle.cyc_core.specs.Trees.{local_tree, statement_tree, body_tree}
use Rattle.core_lines.specs.Homes.{addressed, addressed_of, eligible, eligible_of}
use Rattle.cyc_core.proofs.Forms.{check_tree}
use Rattle.rv32_select.specs.Marks.{masked, marked}
use Rattle.rv32_select.proofs.Failed.{none_addressed}
use Rattle.rv32_select.proofs.Marking.{block_marked, eligible_masked, marked_none, marked_twice}
use Rattle.rv32_select.proofs.Pushing.{appended}
use Rattle.rv32_select.proofs.Sizes.{statements_size}
use Rattle.rv32_select.proofs.marks.+eligible.Goals as goal

pub put_marks-returns-in_default : goal.put_marks-returns-in_default
put_marks-returns-in_default t c =
    let none : (o n : ℕ) → addressed o n (statement_tree c.args.statement.now) ≡ false = λ o n. search (rules, the_lemmas) in
    record {
      flags = search (rules, the_lemmas);
      around = marked_none (λ o n. addressed o n (statement_tree c.args.statement.now)) (map (λ marks. marks.items) c.args.around.now.items) none;
    }

pub put_marks-returns-in-Check-clause-around : goal.put_marks-returns-in-Check-clause-around
put_marks-returns-in-Check-clause-around t c =
    let x = c.in-Check in
    let is = ap statement_tree x.is ∙ check_tree x.field-0 x.field-1 x.field-2 in
    marked_none (λ o n. addressed o n (statement_tree c.args.statement.now)) (map (λ marks. marks.items) c.args.around.now.items)
    (λ o n. ap (addressed o n) is ∙ none_addressed o n x.field-1)

pub put_both-returns-clause-around : goal.put_both-returns-clause-around
put_both-returns-clause-around t c =
    let first = body_tree c.args.first.now in
    let second = body_tree c.args.second.now in
    on_ok_weaker c.put_all-2.result
    (λ e. e ∙ ap (marked (λ o n. addressed_of o n second) 0) c.in_ok-put_all.ensures.around ∙
    marked_twice (λ o n. addressed_of o n first) (λ o n. addressed_of o n second) 0 (map (λ marks. marks.items) c.args.around.now.items))
    c.put_all-2.ensures.around

pub put_block-returns-clause-flags : goal.put_block-returns-clause-flags
put_block-returns-clause-flags t c =
    let ls = map local_tree c.args.locals.now in
    let body = body_tree c.args.body.now in
    let before = c.args.flags.now.items in
    let marks = c.in_ok-put_all.ensures.around in
    let around = block_marked (λ marks. marks.items) (λ o n. addressed_of o n body) _ _ _ _ c.in_ok-insert.ensures.items marks in
    let own = c.deref.ensures.value ∙ (c.innermost-own.ensures _ _ around).0 ∙ ap (masked (λ n. addressed_of 0 n body) 0) c.in_ok-scalars.ensures ∙
    sym (eligible_masked 0 ls body) in
    let within = c.deref-2.ensures.value ∙ c.in_ok-put_all.ensures.flags ∙ ap (λ bs. bs ++ eligible_of body) c.new-within.ensures.items in
    on_ok_weaker c.put_lists.result (λ e. e ∙ (λ k. before ++ (own k ++ within k))) c.put_lists.ensures

pub put_block-returns-clause-around : goal.put_block-returns-clause-around
put_block-returns-clause-around t c =
    let body = body_tree c.args.body.now in
    let marks = c.in_ok-put_all.ensures.around in
    let around = block_marked (λ marks. marks.items) (λ o n. addressed_of o n body) _ _ _ _ c.in_ok-insert.ensures.items marks in
    on_ok_weaker c.put_lists.result (λ e. (c.innermost-own.ensures _ _ around).1) c.put_lists.ensures

pub put_all-returns-clause-around : goal.put_all-returns-clause-around
put_all-returns-clause-around t c =
    let around = map (λ marks. marks.items) c.each.around.items in
    let done = drop_all c.each.statement-index c.args.statements.now (omega arith) in
    marked_none (λ o n. false) around (λ k n. refl) ∙ ap (λ ss. marked (λ o n. addressed_of o n (body_tree ss)) 0 around) (sym done) ∙ c.each.invariant.around

pub put_all-each-preserved : goal.put_all-each-preserved
put_all-each-preserved t c =
    let xs = c.args.statements.now in
    let i = c.each.statement-index in
    let x = c.statement-item.result in
    let e : drop i xs ≡ x ∷ drop (i + 1) xs = drop_more xs i x c.each-test.true ∙ ap (λ y. y ∷ drop (i + 1) xs) (sym c.statement-item.is) in
    let rest = body_tree (drop (i + 1) xs) in
    let around = map (λ marks. marks.items) c.each.around.items in
    let size = ap (λ ss. statements_size (body_tree ss)) e in
    let fewer = c.each.invariant.size in
    record {
      flags = appended c.each.flags.items _ (eligible (statement_tree x)) (eligible_of rest) (eligible_of (body_tree (drop i xs)))
          c.in_ok-put_marks.ensures.flags (ap (λ ss. eligible_of (body_tree ss)) (sym e)) ∙ c.each.invariant.flags;
      around = ap (marked (λ o n. addressed_of o n rest) 0) c.in_ok-put_marks.ensures.around ∙
          marked_twice (λ o n. addressed o n (statement_tree x)) (λ o n. addressed_of o n rest) 0 around ∙
          ap (λ ss. marked (λ o n. addressed_of o n (body_tree ss)) 0 around) (sym e) ∙ c.each.invariant.around;
      size = omega (arith, size, fewer);
    }
