use Rattle.std.proofs.Common.{◌≡◌, ◌∙◌, ◌+◌, suc, arith, sym, ap, subst, [], ◌∷◌, ◌++◌, map, drop, append_assoc}
use Rattle.cyc_tree.specs.View.{member_tree}
use Rattle.source_meaning.specs.Shapes.{Shape, part_of, part_shapes}
use Rattle.source_lowering.specs.Members.{words_in}
use Rattle.source_lowering.specs.Pieces.{stored_code}
use Rattle.source_lowering.specs.Programs.{named_here, parameter_names, parameters_code}
use Rattle.lower_checks.specs.Views.{shape_tree, stored_tree}
use Rattle.lower_checks.specs.Visible.{names_of}
use Rattle.lower_checks.specs.Writing.{IsEmitted, IsEmitting}
use Rattle.lower_checks.proofs.Bodies.{left_parameters}
use Rattle.lower_checks.proofs.Room.{few_words}
use Rattle.lower_checks.proofs.Writing.{emit_same, emitting_more}
use Rattle.lower_checks.proofs.function.lower_parameters.Goals as goal

-- a parameter has three words at most
pub overflow_add-words : goal.overflow_add-words
overflow_add-words c = omega (arith, c.words-words.ensures, few_words (shape_tree c.of-shape.result), c.each.invariant.few, c.each-test.true, c.requires.room)

pub each-preserved : goal.each-preserved
each-preserved c =
    let k = c.each.parameter-index in
    let a = c.args.body.now in
    let b = c.each.body in
    let x = c.lower_store_local.new.body in
    let z = c.declare.new.body in
    let free = c.args.free.0 in
    let index = c.each.index in
    let words = c.each.words in
    let p = part_of (member_tree c.parameter-item.result) in
    let all = map part_of (map member_tree c.args.parameters.now) in
    let others = map part_of (map member_tree (drop (k + 1) c.args.parameters.now)) in
    let here = left_parameters c.args.parameters.now k c.parameter-item.result c.each-test.true c.parameter-item.is in
    let shape_is : shape_tree c.of-shape.result ≡ p.shape = c.of-shape.ensures in
    let next_is : index + 1 ≡ suc index = omega arith in
    let words_are : words + c.words-words.result ≡ words + words_in p.shape = ap (λ n. words + n) (c.words-words.ensures ∙ ap words_in shape_is) in
    record {
      written = λ sound.
          let three = c.declare.ensures.stays sound in
          let two = c.lower_store_local.ensures three.sound in
          let invariant = c.each.invariant.written two.sound in
          let stored = subst (λ (s : Shape). IsEmitted b x (stored_code s free words 0 index)) shape_is two in
          let code = parameters_code all 0 0 free in
          let left = subst (λ ps. IsEmitting a b code (parameters_code ps index words free)) here invariant.code in
          let more =
          emitting_more a b z code (stored_code p.shape free words 0 index) (parameters_code others (suc index) (words + words_in p.shape) free) left
          (emit_same b x z (stored_code p.shape free words 0 index) stored three) in
          record {
            code = subst (λ n. IsEmitting a z code (parameters_code others n (words + c.words-words.result) free)) (sym next_is)
                (subst (λ n. IsEmitting a z code (parameters_code others (suc index) n free)) (sym words_are) more);
            names = ap (λ n. parameter_names others n (names_of c.declare.new.locals)) next_is
                ∙ ap (λ ms. parameter_names others (suc index) (names_of ms)) (c.declare.ensures.declared sound)
                ∙ ap (λ (s : Shape). parameter_names others (suc index) (named_here p.name s index ∷ names_of c.each.locals)) shape_is
                ∙ ap (λ ps. parameter_names ps index (names_of c.each.locals)) (sym here) ∙ invariant.names;
            stored = ap (λ ss. ss ++ part_shapes others)
                (c.declare.ensures.added sound ∙ ap (λ (s : Shape). map stored_tree c.each.all.items ++ s ∷ []) shape_is)
                ∙ append_assoc (map stored_tree c.each.all.items) (p.shape ∷ []) (part_shapes others)
                ∙ ap (λ ps. map stored_tree c.each.all.items ++ part_shapes ps) (sym here) ∙ invariant.stored;
          };
      index = omega (arith, c.each.invariant.index);
      few = omega (arith, c.each.invariant.few, words_are, few_words p.shape);
    }
