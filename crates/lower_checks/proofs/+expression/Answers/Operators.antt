-- What operators and the operands of `&&` and `||` do, from the left.
use Rattle.std.proofs.Common.{arith, ◌∙◌, ◌+◌, refl, sym, ap, subst, List, [], ◌∷◌, ◌++◌, length, map, drop, append_assoc}
use Rattle.cyc_tree.proofs.Forms.{all_of_tree, any_of_tree, chain_tree}
use Rattle.cyc_tree.specs.Tree.{MoreExpressions, MoreLinks}
use Rattle.cyc_tree.specs.View.{expression_tree, expressions_of, link_tree, links_of}
use Rattle.core_meaning.specs.Core.{If, NoStatements, Statement}
use Rattle.cyc_core.specs.Trees.{statement_tree}
use Rattle.source_meaning.specs.Operators.{operator_shape}
use Rattle.source_lowering.specs.Lowerable.{TakesAll, TakesLinks}
use Rattle.source_lowering.specs.Members.{words_in}
use Rattle.source_lowering.specs.Lowered.{
  all_code,
  all_of,
  all_values,
  any_code,
  expression_code,
  expression_values,
  link_values,
  linked_shape,
  links_code,
  operator_code,
  static_shape,
  truth_code,
  word_code,
}
use Rattle.cyc_tree.specs.Room.{argument_room, link_room}
use Rattle.lower_checks.specs.Room.{HasRoom}
use Rattle.lower_checks.specs.Scoped.{names_in, world_in}
use Rattle.lower_checks.specs.Views.{shape_tree}
use Rattle.lower_checks.specs.Writing.{IsEmitted, IsLeft, IsWritten, next_of}
use Rattle.lower_checks.proofs.Parts.{all_of_code, all_of_values, any_of_code, any_of_values, chain_code, chain_values}
use Rattle.lower_checks.proofs.Writing.{emit_write, left_more, next_is, part_written, write_emit, write_write}
use Rattle.lower_checks.proofs.Remaining.{left_links, left_operands}
use Rattle.lower_checks.proofs.+expression.Goals as goal

-- each form's code is that of its first part, and then that of the others
pub expression::lower_expression-returns-in-Chain-clause-writes : goal.expression::lower_expression-returns-in-Chain-clause-writes
expression::lower_expression-returns-in-Chain-clause-writes t c sound =
    let w = world_in c.args.scope.now in
    let names = names_in c.args.scope.now in
    let d = c.args.to.0 in
    let a = c.args.body.now in
    let own = next_of a in
    let e = expression_tree c.args.expression.now in
    let b = c.lower_expression-left.new.body in
    let first = expression_tree c.deref-in-Chain.result.now in
    let others = links_of (map link_tree c.deref-in-Chain-2.result.now) in
    let left = shape_tree c.lower_expression-left.result in
    let two = c.lower_links.ensures.writes sound in
    let one = c.lower_expression-left.ensures.writes two.sound in
    let first_code = expression_code w names first d own in
    let values = expression_values w names first in
    let e_is = ap expression_tree c.in-Chain.is ∙ chain_tree c.in-Chain.first c.in-Chain.links in
    let first_is = ap expression_tree c.deref-in-Chain.ensures in
    let others_are = ap (λ ls. links_of (map link_tree ls)) c.deref-in-Chain-2.ensures.value in
    let from = expression_tree c.in-Chain.first.value in
    let rest = links_of (map link_tree c.in-Chain.links.items) in
    write_write a b c.lower_links.new.body first_code (links_code w names others left d (next_of b)) (expression_code w names e d own) values
    (link_values w names others) (expression_values w names e) one two
    (chain_code w names d own e from first rest others left (next_of b) e_is first_is others_are (c.lower_expression-left.ensures.shape two.sound)
    (next_is a b first_code values one))
    (chain_values w names e from first rest others e_is first_is others_are)

pub expression::lower_expression-returns-in-AllOf-clause-writes : goal.expression::lower_expression-returns-in-AllOf-clause-writes
expression::lower_expression-returns-in-AllOf-clause-writes t c sound =
    let w = world_in c.args.scope.now in
    let names = names_in c.args.scope.now in
    let d = c.args.to.0 in
    let a = c.args.body.now in
    let own = next_of a in
    let e = expression_tree c.args.expression.now in
    let b = c.lower_expression-shape.new.body in
    let z = c.lower_truth.new.body in
    let first = expression_tree c.deref-in-AllOf.result.now in
    let others = expressions_of (map expression_tree c.deref-in-AllOf-2.result.now) in
    let shape = shape_tree c.lower_expression-shape.result in
    let four = c.lower_truth.ensures sound in
    let three = c.lower_all.ensures.writes four.sound in
    let two = c.lower_word.ensures three.sound in
    let one = c.lower_expression-shape.ensures.writes two.sound in
    let first_code = expression_code w names first d own in
    let values = expression_values w names first in
    let n = next_of b in
    let number = ap (λ own. length own.items) two.own in
    let code = all_code w names others d n in
    let e_is = ap expression_tree c.in-AllOf.is ∙ all_of_tree c.in-AllOf.first c.in-AllOf.others in
    let first_is = ap expression_tree c.deref-in-AllOf.ensures in
    let others_are = ap (λ es. expressions_of (map expression_tree es)) c.deref-in-AllOf-2.ensures.value in
    let from = expression_tree c.in-AllOf.first.value in
    let rest = expressions_of (map expression_tree c.in-AllOf.others.items) in
    let those = all_values w names others in
    let second =
    emit_write b c.lower_word.new.body z (word_code shape d) (code ++ truth_code d) (word_code shape d ++ (code ++ truth_code d)) those two
    (write_emit c.lower_word.new.body c.lower_all.new.body z (all_code w names others d (next_of c.lower_word.new.body)) (truth_code d)
    (code ++ truth_code d) those three four (ap (λ k. all_code w names others d k ++ truth_code d) (sym number))) refl in
    write_write a b z first_code (word_code shape d ++ (code ++ truth_code d)) (expression_code w names e d own) values those
    (expression_values w names e) one second
    (all_of_code w names d own e from first rest others shape n e_is first_is others_are (c.lower_expression-shape.ensures.shape two.sound)
    (next_is a b first_code values one))
    (all_of_values w names e from first rest others e_is first_is others_are)

pub expression::lower_expression-returns-in-AnyOf-clause-writes : goal.expression::lower_expression-returns-in-AnyOf-clause-writes
expression::lower_expression-returns-in-AnyOf-clause-writes t c sound =
    let w = world_in c.args.scope.now in
    let names = names_in c.args.scope.now in
    let d = c.args.to.0 in
    let a = c.args.body.now in
    let own = next_of a in
    let e = expression_tree c.args.expression.now in
    let b = c.lower_expression-shape-in-AnyOf.new.body in
    let z = c.lower_truth-in-AnyOf.new.body in
    let first = expression_tree c.deref-in-AnyOf.result.now in
    let others = expressions_of (map expression_tree c.deref-in-AnyOf-2.result.now) in
    let shape = shape_tree c.lower_expression-shape-in-AnyOf.result in
    let four = c.lower_truth-in-AnyOf.ensures sound in
    let three = c.lower_any.ensures.writes four.sound in
    let two = c.lower_word-in-AnyOf.ensures three.sound in
    let one = c.lower_expression-shape-in-AnyOf.ensures.writes two.sound in
    let first_code = expression_code w names first d own in
    let values = expression_values w names first in
    let n = next_of b in
    let number = ap (λ own. length own.items) two.own in
    let code = any_code w names others d n in
    let e_is = ap expression_tree c.in-AnyOf.is ∙ any_of_tree c.in-AnyOf.first c.in-AnyOf.others in
    let first_is = ap expression_tree c.deref-in-AnyOf.ensures in
    let others_are = ap (λ es. expressions_of (map expression_tree es)) c.deref-in-AnyOf-2.ensures.value in
    let from = expression_tree c.in-AnyOf.first.value in
    let rest = expressions_of (map expression_tree c.in-AnyOf.others.items) in
    let those = all_values w names others in
    let second =
    emit_write b c.lower_word-in-AnyOf.new.body z (word_code shape d) (code ++ truth_code d) (word_code shape d ++ (code ++ truth_code d)) those two
    (write_emit c.lower_word-in-AnyOf.new.body c.lower_any.new.body z (any_code w names others d (next_of c.lower_word-in-AnyOf.new.body)) (truth_code d)
    (code ++ truth_code d) those three four (ap (λ k. any_code w names others d k ++ truth_code d) (sym number))) refl in
    write_write a b z first_code (word_code shape d ++ (code ++ truth_code d)) (expression_code w names e d own) values those
    (expression_values w names e) one second
    (any_of_code w names d own e from first rest others shape n e_is first_is others_are (c.lower_expression-shape-in-AnyOf.ensures.shape two.sound)
    (next_is a b first_code values one))
    (any_of_values w names e from first rest others e_is first_is others_are)

pub operands::lower_all-each-preserved : goal.operands::lower_all-each-preserved
operands::lower_all-each-preserved t c =
    let w = world_in c.args.scope.now in
    let names = names_in c.args.scope.now in
    let d = c.args.to.0 in
    let k = c.each.operand-index in
    let e = expression_tree c.operand-item.result in
    let others = expressions_of (map expression_tree (drop (k + 1) c.args.operands.now)) in
    let here = left_operands c.args.operands.now k c.operand-item.result c.each-test.true c.operand-item.is in
    let room : HasRoom d (16 + argument_room (MoreExpressions e others)) = subst (λ es. HasRoom d (16 + argument_room es)) here c.each.invariant.room in
    record {
      written = λ sound.
          let a = c.args.body.now in
          let b = c.each.body in
          let x = c.lower_expression-shape.new.body in
          let v = c.lower_word.new.body in
          let f = c.end-these.new.self in
          let z = c.branch-body.new.self in
          let all = expressions_of (map expression_tree c.args.operands.now) in
          let part = map statement_tree c.end-these.result.items in
          let four = subst (λ xs. IsEmitted f z (If d (all_of part) (all_of (map statement_tree xs)) ∷ [])) c.new.ensures.items (c.branch-body.ensures sound) in
          let ended = c.end-these.ensures.ended in
          let three = c.lower_word.ensures (sym ended.failed ∙ four.sound) in
          let one = c.lower_expression-shape.ensures.writes three.sound in
          let begun = c.begin-outer.ensures.begun in
          let own = next_of b in
          let s = static_shape w names e in
          let first = expression_code w names e d own in
          let values = expression_values w names e in
          let begin = c.begin-outer.new.self in
          let one_here = subst (λ n. IsWritten begin x (expression_code w names e d n) values) (ap (λ own. length own.items) begun.own) one in
          let two = subst (λ s. IsEmitted x v (word_code s d)) (c.lower_expression-shape.ensures.shape three.sound) three in
          let whole : List Statement → List Statement = λ (ss : List Statement). If d (all_of ss) NoStatements ∷ [] in
          let written =
          part_written b begin x v f z (map statement_tree c.begin-outer.result.items) part first (word_code s d) values whole begun c.begin-outer.ensures.aside
          one_here two ended c.end-these.ensures.part four in
          let invariant = c.each.invariant.written (sym begun.failed ∙ one.sound) in
          let code = all_code w names all d (next_of a) in
          let every = all_values w names all in
          let left = subst (λ es. IsLeft a b code (all_code w names es d own) every (all_values w names es)) here invariant.left in
          let more =
          left_more a b z code (whole (first ++ word_code s d)) (all_code w names others d (own + length values)) every values (all_values w names others) left
          written in
          record {
            left = subst (λ n. IsLeft a z code (all_code w names others d n) every (all_values w names others))
                (sym (next_is b z (whole (first ++ word_code s d)) values written)) more;
            taken = (subst (TakesAll w names) here invariant.taken).1;
          };
      room = omega (arith, room);
    }

pub operands::lower_any-each-preserved : goal.operands::lower_any-each-preserved
operands::lower_any-each-preserved t c =
    let w = world_in c.args.scope.now in
    let names = names_in c.args.scope.now in
    let d = c.args.to.0 in
    let k = c.each.operand-index in
    let e = expression_tree c.operand-item.result in
    let others = expressions_of (map expression_tree (drop (k + 1) c.args.operands.now)) in
    let here = left_operands c.args.operands.now k c.operand-item.result c.each-test.true c.operand-item.is in
    let room : HasRoom d (16 + argument_room (MoreExpressions e others)) = subst (λ es. HasRoom d (16 + argument_room es)) here c.each.invariant.room in
    record {
      written = λ sound.
          let a = c.args.body.now in
          let b = c.each.body in
          let x = c.lower_expression-shape.new.body in
          let v = c.lower_word.new.body in
          let f = c.end-those.new.self in
          let z = c.branch-body.new.self in
          let all = expressions_of (map expression_tree c.args.operands.now) in
          let part = map statement_tree c.end-those.result.items in
          let four = subst (λ xs. IsEmitted f z (If d (all_of (map statement_tree xs)) (all_of part) ∷ [])) c.new.ensures.items (c.branch-body.ensures sound) in
          let ended = c.end-those.ensures.ended in
          let three = c.lower_word.ensures (sym ended.failed ∙ four.sound) in
          let one = c.lower_expression-shape.ensures.writes three.sound in
          let begun = c.begin-outer.ensures.begun in
          let own = next_of b in
          let s = static_shape w names e in
          let first = expression_code w names e d own in
          let values = expression_values w names e in
          let begin = c.begin-outer.new.self in
          let one_here = subst (λ n. IsWritten begin x (expression_code w names e d n) values) (ap (λ own. length own.items) begun.own) one in
          let two = subst (λ s. IsEmitted x v (word_code s d)) (c.lower_expression-shape.ensures.shape three.sound) three in
          let whole : List Statement → List Statement = λ (ss : List Statement). If d NoStatements (all_of ss) ∷ [] in
          let written =
          part_written b begin x v f z (map statement_tree c.begin-outer.result.items) part first (word_code s d) values whole begun c.begin-outer.ensures.aside
          one_here two ended c.end-those.ensures.part four in
          let invariant = c.each.invariant.written (sym begun.failed ∙ one.sound) in
          let code = any_code w names all d (next_of a) in
          let every = all_values w names all in
          let left = subst (λ es. IsLeft a b code (any_code w names es d own) every (all_values w names es)) here invariant.left in
          let more =
          left_more a b z code (whole (first ++ word_code s d)) (any_code w names others d (own + length values)) every values (all_values w names others) left
          written in
          record {
            left = subst (λ n. IsLeft a z code (any_code w names others d n) every (all_values w names others))
                (sym (next_is b z (whole (first ++ word_code s d)) values written)) more;
            taken = (subst (TakesAll w names) here invariant.taken).1;
          };
      room = omega (arith, room);
    }

pub operands::lower_links-each-preserved : goal.operands::lower_links-each-preserved
operands::lower_links-each-preserved t c =
    let w = world_in c.args.scope.now in
    let names = names_in c.args.scope.now in
    let d = c.args.to.0 in
    let k = c.each.link-index in
    let o = c.link-item.result.operator in
    let e = expression_tree c.link-item.result.operand in
    let others = links_of (map link_tree (drop (k + 1) c.args.links.now)) in
    let here = left_links c.args.links.now k c.link-item.result c.each-test.true c.link-item.is in
    let room : HasRoom d (16 + link_room (MoreLinks o e others)) = subst (λ ls. HasRoom d (16 + link_room ls)) here c.each.invariant.room in
    record {
      written = λ sound.
          let a = c.args.body.now in
          let b = c.each.body in
          let x = c.lower_expression-shape.new.body in
          let z = c.lower_operator.new.body in
          let all = links_of (map link_tree c.args.links.now) in
          let left = shape_tree c.each.left in
          let s = static_shape w names e in
          let own = next_of b in
          let values = expression_values w names e in
          let right = d + words_in left in
          let three = c.lower_operator.ensures sound in
          let two = c.lower_expression-shape.ensures.writes three.sound in
          let shape_is = c.lower_expression-shape.ensures.shape three.sound in
          let right_is = c.behind-right.ensures ∙ ap (λ n. d + n) c.words.ensures in
          let first = expression_code w names e right own in
          let second = operator_code o left s d in
          let begun = subst (λ n. IsWritten b x (expression_code w names e n own) values) right_is two in
          let done = subst (λ s. IsEmitted x z (operator_code o left s d)) shape_is three in
          let written = write_emit b x z first second (first ++ second) values begun done refl in
          let invariant = c.each.invariant.written two.sound in
          let code = links_code w names all (shape_tree c.args.first) d (next_of a) in
          let every = link_values w names all in
          let rest = links_code w names others (operator_shape o left s) d (own + length values) in
          let left_here = subst (λ ls. IsLeft a b code (links_code w names ls left d own) every (link_values w names ls)) here invariant.left in
          let apart =
          subst (λ ss. IsLeft a b code ss every (values ++ link_values w names others)) (sym (append_assoc first second rest)) left_here in
          let more = left_more a b z code (first ++ second) rest every values (link_values w names others) apart written in
          let left_is = c.operator_shape-left.ensures ∙ ap (operator_shape o left) shape_is in
          let counted =
          subst (λ n. IsLeft a z code (links_code w names others (operator_shape o left s) d n) every (link_values w names others))
          (sym (next_is b z (first ++ second) values written)) more in
          record {
            left = subst (λ x. IsLeft a z code (links_code w names others x d (next_of z)) every (link_values w names others)) (sym left_is) counted;
            shape = ap (linked_shape w names others) left_is ∙ ap (λ x. linked_shape w names x left) (sym here) ∙ invariant.shape;
            taken = (subst (TakesLinks w names) here invariant.taken).1;
          };
      room = omega (arith, room);
    }
