-- What a call's arguments and the call do.
use Rattle.std.proofs.Common.{◌≡◌, ◌∙◌, ◌+◌, ◌-◌, arith, refl, sym, ap, subst, add_assoc, ◌∷◌, ◌++◌, length, map, drop, take, append_assoc}
use Rattle.cyc_tree.specs.View.{expression_tree, expressions_of}
use Rattle.cyc_core.specs.Trees.{statement_tree}
use Rattle.cyc_tree.specs.Tree.{MoreExpressions}
use Rattle.source_lowering.specs.Lowerable.{TakesAll}
use Rattle.source_lowering.specs.Members.{words_in}
use Rattle.source_lowering.specs.Lowered.{
  all_values,
  argument_words,
  arguments_code,
  call_code,
  call_parameters,
  conversion_code,
  expression_code,
  expression_values,
  static_shape,
}
use Rattle.cyc_tree.specs.Room.{argument_room}
use Rattle.lower_checks.specs.Room.{HasRoom}
use Rattle.lower_checks.specs.Scoped.{names_in, world_in}
use Rattle.lower_checks.specs.Views.{shape_tree}
use Rattle.lower_checks.specs.Writing.{IsEmitted, IsLeft, IsWritten, next_of}
use Rattle.lower_checks.proofs.Writing.{left_more, next_is, part_apart, write_emit}
use Rattle.lower_checks.proofs.Room.{few_words, room_least, words_within}
use Rattle.lower_checks.proofs.Remaining.{first_of, left_operands}
use Rattle.lower_checks.proofs.+expression.Goals as goal

-- one more argument
pub operands::lower_arguments-each-preserved : goal.operands::lower_arguments-each-preserved
operands::lower_arguments-each-preserved t c =
    let w = world_in c.args.scope.now in
    let names = names_in c.args.scope.now in
    let first_at = c.args.first.0 in
    let d = first_at + c.each.words in
    let k = c.each.argument-index in
    let a = c.args.body.now in
    let b = c.each.body in
    let x = c.lower_expression-from.new.body in
    let z = c.lower_conversion.new.body in
    let own = next_of b in
    let to = c.behind-to.result.0 in
    let e = expression_tree c.argument-item.result in
    let s = static_shape w names e in
    let all = expressions_of (map expression_tree c.args.arguments.now) in
    let others = expressions_of (map expression_tree (drop (k + 1) c.args.arguments.now)) in
    let here = left_operands c.args.arguments.now k c.argument-item.result c.each-test.true c.argument-item.is in
    let shapes = map shape_tree c.each.left.now in
    let shape = shape_tree c.shape-item.result in
    let more_shapes = map shape_tree (take (length c.each.left.now - 1) (drop 1 c.each.left.now)) in
    let shapes_are : shapes ≡ shape ∷ more_shapes =
    ap (map shape_tree) (first_of c.each.left.now c.shape-item.result c.in-len1-up.len_at_least c.shape-item.is) in
    let words_are : c.each.words + c.words-words.result ≡ c.each.words + words_in shape = ap (λ n. c.each.words + n) c.words-words.ensures in
    let behind_it = d + words_in shape in
    let behind_is : first_at + (c.each.words + c.words-words.result) ≡ behind_it = omega (arith, words_are) in
    let room : HasRoom d (16 + argument_room (MoreExpressions e others)) = subst (λ es. HasRoom d (16 + argument_room es)) here c.each.invariant.room in
    record {
      written = λ sound.
          let values = expression_values w names e in
          let those = all_values w names others in
          let three = c.lower_conversion.ensures sound in
          let two = c.lower_expression-from.ensures.writes three.sound in
          let to_is : to ≡ d = c.behind-to.ensures in
          let first = expression_code w names e d own in
          let conversion = conversion_code w shape s d in
          let begun = subst (λ n. IsWritten b x (expression_code w names e n own) values) to_is two in
          let converted =
          subst (λ n. IsEmitted x z (conversion_code w shape s n)) to_is
          (subst (λ y. IsEmitted x z (conversion_code w shape y to)) (c.lower_expression-from.ensures.shape three.sound) three) in
          let written = write_emit b x z first conversion (first ++ conversion) values begun converted refl in
          let invariant = c.each.invariant.written two.sound in
          let code = arguments_code w names (map shape_tree c.args.shapes.now) all first_at (next_of a) in
          let every = all_values w names all in
          let rest = arguments_code w names more_shapes others behind_it (own + length values) in
          let left = subst (λ es. IsLeft a b code (arguments_code w names shapes es d own) every (all_values w names es)) here invariant.left in
          let one_left = subst (λ ss. IsLeft a b code (arguments_code w names ss (MoreExpressions e others) d own) every (values ++ those)) shapes_are left in
          let apart = subst (λ ss. IsLeft a b code ss every (values ++ those)) (sym (append_assoc first conversion rest)) one_left in
          let more = left_more a b z code (first ++ conversion) rest every values those apart written in
          record {
            left = subst (λ n. IsLeft a z code (arguments_code w names more_shapes others n (next_of z)) every those) (sym behind_is)
                (subst (λ n. IsLeft a z code (arguments_code w names more_shapes others behind_it n) every those)
                (sym (next_is b z (first ++ conversion) values written)) more);
            taken = (subst (TakesAll w names) here invariant.taken).1;
          };
      words = ap (λ x. x + argument_words more_shapes others) words_are
          ∙ add_assoc c.each.words (words_in shape) (argument_words more_shapes others)
          ∙ ap (λ x. c.each.words + argument_words x (MoreExpressions e others)) (sym shapes_are)
          ∙ ap (λ x. c.each.words + argument_words shapes x) (sym here) ∙ c.each.invariant.words;
      room = omega (arith, room, behind_is, few_words shape, room_least e);
    }

-- an argument without a parameter
pub operands::lower_apart-returns : goal.operands::lower_apart-returns
operands::lower_apart-returns t c sound =
    let w = world_in c.args.scope.now in
    let names = names_in c.args.scope.now in
    let a = c.args.body.now in
    let b = c.begin-outer.new.self in
    let x = c.lower_expression.new.body in
    let e = expression_tree c.args.argument.now in
    let ended = c.end.ensures.ended in
    let one = c.lower_expression.ensures.writes (sym ended.failed ∙ sound) in
    part_apart a b x c.end.new.self (map statement_tree c.begin-outer.result.items) (expression_code w names e c.args.to.0 (next_of b))
    (expression_values w names e) c.begin-outer.ensures.begun c.begin-outer.ensures.aside one ended

-- the words of arguments are within their room
pub operands::lower_called-lower_call-requires : goal.operands::lower_called-lower_call-requires
operands::lower_called-lower_call-requires t c =
    let es = expressions_of (map expression_tree c.args.arguments.now) in
    record {
      room = omega (arith, c.requires.room, c.lower_arguments-words.ensures.words, words_within (map shape_tree c.deref.result.now) es);
    }

-- a call behind its arguments
pub operands::lower_called-returns-in-Ok-clause-writes : goal.operands::lower_called-returns-in-Ok-clause-writes
operands::lower_called-returns-in-Ok-clause-writes t c sound =
    let w = world_in c.args.scope.now in
    let names = names_in c.args.scope.now in
    let d = c.args.to.0 in
    let a = c.args.body.now in
    let b = c.lower_arguments-words.new.body in
    let z = c.lower_call.new.body in
    let name = c.args.name.now in
    let es = expressions_of (map expression_tree c.args.arguments.now) in
    let shapes = call_parameters w name in
    let shapes_are : map shape_tree c.deref.result.now ≡ shapes = ap (map shape_tree) c.deref.ensures.value ∙ c.in-Ok.ensures.shapes in
    let two = c.lower_call.ensures sound in
    let one = c.lower_arguments-words.ensures.writes two.sound in
    let values = all_values w names es in
    let first = arguments_code w names shapes es d (next_of a) in
    let passed = subst (λ ss. IsWritten a b (arguments_code w names ss es d (next_of a)) values) shapes_are one in
    let words_are = c.lower_arguments-words.ensures.words ∙ ap (λ ss. argument_words ss es) shapes_are in
    let second = call_code w name (argument_words shapes es) d in
    write_emit a b z first second (first ++ second) values passed (subst (λ n. IsEmitted b z (call_code w name n d)) words_are two) refl
