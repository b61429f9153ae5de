use Rattle.std.proofs.Common.{◌≡◌, ◌∙◌, ◌+◌, arith, ap, map, drop}
use Rattle.cyc_tree.specs.View.{member_tree}
use Rattle.source_meaning.specs.Shapes.{part_of, part_shapes}
use Rattle.source_lowering.specs.Members.{all_words, words_in}
use Rattle.lower_checks.specs.Views.{shape_tree}
use Rattle.lower_checks.proofs.Bodies.{left_parameters}
use Rattle.lower_checks.proofs.Room.{few_words}
use Rattle.lower_checks.proofs.function.parameter_words.Goals as goal

-- a parameter has three words at most
pub overflow_add-words : goal.overflow_add-words
overflow_add-words c = omega (arith, c.words-words.ensures, few_words (shape_tree c.of.result), c.each.invariant.few, c.each-test.true, c.requires.room)

pub each-preserved : goal.each-preserved
each-preserved c =
    let k = c.each.parameter-index in
    let p = part_of (member_tree c.parameter-item.result) in
    let others = map part_of (map member_tree (drop (k + 1) c.args.parameters.now)) in
    let here = left_parameters c.args.parameters.now k c.parameter-item.result c.each-test.true c.parameter-item.is in
    let left : all_words (part_shapes (map part_of (map member_tree (drop k c.args.parameters.now)))) ≡ words_in p.shape + all_words (part_shapes others) =
    ap (λ ps. all_words (part_shapes ps)) here in
    let words_are : c.words-words.result ≡ words_in p.shape = c.words-words.ensures ∙ ap words_in c.of.ensures in
    record {
      all = omega (arith, left, words_are, c.each.invariant.all);
      few = omega (arith, c.each.invariant.few, words_are, few_words p.shape);
    }
