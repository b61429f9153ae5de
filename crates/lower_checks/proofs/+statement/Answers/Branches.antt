-- Statements that choose or go round, from their conditions and their parts.
use Rattle.std.proofs.Common.{◌≡◌, ◌∙◌, ◌+◌, refl, sym, ap, subst, [], ◌∷◌, ◌++◌, length, map, List, Option}
use Rattle.cyc_tree.specs.View.{expression_tree, statement_tree as source_tree}
use Rattle.cyc_tree.proofs.StatementForms.{if_tree, if_else_tree, while_tree}
use Rattle.core_meaning.specs.Core as core
use Rattle.cyc_core.specs.Trees.{statement_tree}
use Rattle.source_meaning.specs.Programs.{world_of}
use Rattle.source_lowering.specs.Lowered.{all_of, expression_code, expression_values}
use Rattle.source_lowering.specs.Programs.{RegionsAround, in_loop, statement_code, statement_values}
use Rattle.lower_checks.specs.Views.{regions_tree, shape_tree}
use Rattle.lower_checks.specs.Visible.{Declared, names_of}
use Rattle.lower_checks.specs.Writing.{IsApart, IsEmitted, IsWritten, next_of}
use Rattle.lower_checks.proofs.Writing.{apart_apart, apart_emit, apart_next, next_is, part_apart, part_is, write_apart, write_emit}
use Rattle.lower_checks.proofs.+statement.Goals as goal

-- a choice, from its condition and its parts
pub statement::lower_statement-returns-in-If-clause-writes : goal.statement::lower_statement-returns-in-If-clause-writes
statement::lower_statement-returns-in-If-clause-writes t c sound =
    let w = world_of c.args.program.now in
    let names = names_of c.args.locals.now in
    let result = shape_tree c.args.shape.now in
    let h = regions_tree c.args.around c.args.opened.now in
    let a = c.args.body.now in
    let own = next_of a in
    let b = c.lower_condition.new.body in
    let p = c.lower_part-these.new.body in
    let z = c.branch-body.new.self in
    let to = c.value-to.result.0 in
    let condition = expression_tree c.in-If.condition in
    let part = source_tree c.in-If.these.value in
    let to_is : to ≡ h.all = c.value-to.ensures in
    let these = map statement_tree c.lower_part-these.result.items in
    let three = subst (λ xs. IsEmitted p z (core.If to (all_of these) (all_of (map statement_tree xs)) ∷ [])) c.new.ensures.items
    (c.branch-body.ensures sound) in
    let two = c.lower_part-these.ensures.apart three.sound in
    let one = c.lower_condition.ensures.writes two.sound in
    let test = expression_code w names condition h.all own in
    let values = expression_values w names condition in
    let tested = subst (λ n. IsWritten a b (expression_code w names condition n own) values) to_is one in
    let part_is = ap source_tree c.deref-in-If.ensures in
    let more = statement_values w names part in
    let apart = subst (λ s. IsApart b p (statement_values w names s)) part_is two in
    let body = statement_code w result names h (own + length values) part in
    let these_are : these ≡ body =
    c.lower_part-these.ensures.part three.sound ∙ ap (statement_code w result names h (next_of b)) part_is
    ∙ ap (λ n. statement_code w result names h n part) (next_is a b test values tested) in
    let choice = core.If h.all (all_of body) core.NoStatements ∷ [] in
    let branch =
    subst (λ ss. IsEmitted p z (core.If h.all (all_of ss) core.NoStatements ∷ [])) these_are
    (subst (λ n. IsEmitted p z (core.If n (all_of these) core.NoStatements ∷ [])) to_is three) in
    let done =
    write_emit a p z test choice (test ++ choice) (values ++ more) (write_apart a b p test values more (values ++ more) tested apart refl) branch refl in
    subst (λ s. IsWritten a z (statement_code w result names h own s) (statement_values w names s))
    (sym (ap source_tree c.in-If.is ∙ if_tree c.in-If.field-0 c.in-If.condition c.in-If.these)) done

pub statement::lower_statement-returns-in-IfElse-clause-writes : goal.statement::lower_statement-returns-in-IfElse-clause-writes
statement::lower_statement-returns-in-IfElse-clause-writes t c sound =
    let w = world_of c.args.program.now in
    let names = names_of c.args.locals.now in
    let result = shape_tree c.args.shape.now in
    let h = regions_tree c.args.around c.args.opened.now in
    let a = c.args.body.now in
    let own = next_of a in
    let b = c.lower_condition-in-IfElse.new.body in
    let p = c.lower_part-these-in-IfElse.new.body in
    let q = c.lower_part-those.new.body in
    let z = c.branch-body-in-IfElse.new.self in
    let to = c.value-to.result.0 in
    let condition = expression_tree c.in-IfElse.condition in
    let first = source_tree c.in-IfElse.these.value in
    let second = source_tree c.in-IfElse.those.value in
    let to_is : to ≡ h.all = c.value-to.ensures in
    let these = map statement_tree c.lower_part-these-in-IfElse.result.items in
    let those = map statement_tree c.lower_part-those.result.items in
    let four = c.branch-body-in-IfElse.ensures sound in
    let three = c.lower_part-those.ensures.apart four.sound in
    let two = c.lower_part-these-in-IfElse.ensures.apart three.sound in
    let one = c.lower_condition-in-IfElse.ensures.writes two.sound in
    let kept = c.lower_part-these-in-IfElse.ensures.kept three.sound in
    let test = expression_code w names condition h.all own in
    let values = expression_values w names condition in
    let tested = subst (λ n. IsWritten a b (expression_code w names condition n own) values) to_is one in
    let first_is = ap source_tree c.deref-in-IfElse.ensures in
    let second_is = ap source_tree c.deref-in-IfElse-2.ensures in
    let more = statement_values w names first in
    let last = statement_values w names second in
    let apart = subst (λ s. IsApart b p (statement_values w names s)) first_is two in
    let behind =
    subst (λ s. IsApart p q (statement_values w names s)) second_is
    (subst (λ (ms : List (Option Declared)). IsApart p q (statement_values w (names_of ms) (source_tree c.deref-in-IfElse-2.result.now))) kept three) in
    let at = own + length values in
    let next = at + length more in
    let tested_next : next_of b ≡ at = next_is a b test values tested in
    let parted_next : next_of p ≡ next = apart_next b p more apart ∙ ap (λ n. n + length more) tested_next in
    let body = statement_code w result names h at first in
    let otherwise = statement_code w result names h next second in
    let these_are : these ≡ body =
    c.lower_part-these-in-IfElse.ensures.part three.sound ∙ ap (statement_code w result names h (next_of b)) first_is
    ∙ ap (λ n. statement_code w result names h n first) tested_next in
    let those_are : those ≡ otherwise =
    c.lower_part-those.ensures.part four.sound
    ∙ ap (λ (ms : List (Option Declared)). statement_code w result (names_of ms) h (next_of p) (source_tree c.deref-in-IfElse-2.result.now)) kept
    ∙ ap (statement_code w result names h (next_of p)) second_is ∙ ap (λ n. statement_code w result names h n second) parted_next in
    let choice = core.If h.all (all_of body) (all_of otherwise) ∷ [] in
    let branch =
    subst (λ ss. IsEmitted q z (core.If h.all (all_of body) (all_of ss) ∷ [])) those_are
    (subst (λ ss. IsEmitted q z (core.If h.all (all_of ss) (all_of those) ∷ [])) these_are
    (subst (λ n. IsEmitted q z (core.If n (all_of these) (all_of those) ∷ [])) to_is four)) in
    let parts = apart_apart b p q more last (more ++ last) apart behind refl in
    let done =
    write_emit a q z test choice (test ++ choice) (values ++ (more ++ last)) (write_apart a b q test values (more ++ last) (values ++ (more ++ last)) tested
    parts refl) branch refl in
    subst (λ s. IsWritten a z (statement_code w result names h own s) (statement_values w names s))
    (sym (ap source_tree c.in-IfElse.is ∙ if_else_tree c.in-IfElse.field-0 c.in-IfElse.condition c.in-IfElse.these c.in-IfElse.those)) done

-- a loop, from its condition and its turn
pub statement::lower_statement-returns-in-While-clause-writes : goal.statement::lower_statement-returns-in-While-clause-writes
statement::lower_statement-returns-in-While-clause-writes t c sound =
    let w = world_of c.args.program.now in
    let names = names_of c.args.locals.now in
    let result = shape_tree c.args.shape.now in
    let h = regions_tree c.args.around c.args.opened.now in
    let a = c.args.body.now in
    let own = next_of a in
    let b = c.lower_test-test.new.body in
    let p = c.lower_part-turn.new.body in
    let z = c.turns.new.self in
    let to = c.value-to.result.0 in
    let condition = expression_tree c.in-While.condition in
    let part = source_tree c.in-While.turn.value in
    let to_is : to ≡ h.all = c.value-to.ensures in
    let test = map statement_tree c.lower_test-test.result.items in
    let turn = map statement_tree c.lower_part-turn.result.items in
    let three = c.turns.ensures sound in
    let two = c.lower_part-turn.ensures.apart three.sound in
    let one = c.lower_test-test.ensures.apart two.sound in
    let values = expression_values w names condition in
    let part_is = ap source_tree c.deref-in-While.ensures in
    let more = statement_values w names part in
    let apart = subst (λ s. IsApart b p (statement_values w names s)) part_is two in
    let tested = expression_code w names condition h.all own in
    let inside = in_loop h in
    let body = statement_code w result names inside (own + length values) part in
    let test_is : test ≡ tested = c.lower_test-test.ensures.part two.sound ∙ ap (λ n. expression_code w names condition n own) to_is in
    let turn_is : turn ≡ body =
    c.lower_part-turn.ensures.part three.sound
    ∙ ap (λ (r : RegionsAround). statement_code w result names r (next_of b) (source_tree c.deref-in-While.result.now))
    (c.in_loop.ensures.regions c.args.opened.now)
    ∙ ap (statement_code w result names inside (next_of b)) part_is
    ∙ ap (λ n. statement_code w result names inside n part) (apart_next a b values one) in
    let loop =
    subst (λ ss. IsEmitted p z (core.While (all_of tested) h.all (all_of ss) ∷ [])) turn_is
    (subst (λ ss. IsEmitted p z (core.While (all_of ss) h.all (all_of turn) ∷ [])) test_is
    (subst (λ n. IsEmitted p z (core.While (all_of test) n (all_of turn) ∷ [])) to_is three)) in
    let done =
    apart_emit a p z (core.While (all_of tested) h.all (all_of body) ∷ []) (values ++ more) (apart_apart a b p values more (values ++ more) one apart refl)
    loop in
    subst (λ s. IsWritten a z (statement_code w result names h own s) (statement_values w names s))
    (sym (ap source_tree c.in-While.is ∙ while_tree c.in-While.field-0 c.in-While.condition c.in-While.turn)) done

-- a part
pub statement::lower_part-returns-clause-apart : goal.statement::lower_part-returns-clause-apart
statement::lower_part-returns-clause-apart t c sound =
    let w = world_of c.args.program.now in
    let names = names_of c.args.locals.now in
    let s = source_tree c.args.statement.now in
    let b = c.begin-outer.new.self in
    let ended = c.end.ensures.ended in
    part_apart c.args.body.now b c.lower_statement.new.body c.end.new.self (map statement_tree c.begin-outer.result.items)
    (statement_code w (shape_tree c.args.shape.now) names (regions_tree c.args.around c.args.opened.now) (next_of b) s) (statement_values w names s)
    c.begin-outer.ensures.begun c.begin-outer.ensures.aside (c.lower_statement.ensures.writes (sym ended.failed ∙ sound)) ended

pub statement::lower_part-returns-clause-part : goal.statement::lower_part-returns-clause-part
statement::lower_part-returns-clause-part t c sound =
    let w = world_of c.args.program.now in
    let names = names_of c.args.locals.now in
    let s = source_tree c.args.statement.now in
    let ended = c.end.ensures.ended in
    part_is c.args.body.now c.begin-outer.new.self c.lower_statement.new.body (map statement_tree c.end.result.items)
    (λ n. statement_code w (shape_tree c.args.shape.now) names (regions_tree c.args.around c.args.opened.now) n s) (statement_values w names s)
    c.begin-outer.ensures.begun (c.lower_statement.ensures.writes (sym ended.failed ∙ sound)) c.end.ensures.part
