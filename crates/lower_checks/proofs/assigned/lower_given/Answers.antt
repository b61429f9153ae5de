use Rattle.std.proofs.Common.{refl, ◌++◌}
use Rattle.cyc_tree.specs.Tree.{Expression}
use Rattle.cyc_tree.specs.View.{expression_tree}
use Rattle.source_lowering.specs.Lowered.{conversion_code, expression_code, expression_values, put_code, static_shape}
use Rattle.lower_checks.specs.Scoped.{names_in, world_in}
use Rattle.lower_checks.specs.Views.{shape_tree}
use Rattle.lower_checks.specs.Writing.{next_of}
use Rattle.lower_checks.proofs.Parts.{assign_code}
use Rattle.lower_checks.proofs.Writing.{next_is, write_write}
use Rattle.lower_checks.proofs.assigned.lower_given.Goals as goal

-- the value comes first
pub returns : goal.returns
returns c = record {
  writes = λ sound.
      let w = world_in c.args.scope.now in
      let names = names_in c.args.scope.now in
      let d = c.args.to.0 in
      let a = c.args.body.now in
      let b = c.lower_expression-from.new.body in
      let own = next_of a in
      let place = expression_tree c.args.place.now in
      let value = expression_tree c.args.value.now in
      let from = shape_tree c.lower_expression-from.result in
      let e = Expression.Assign place value in
      let two = c.lower_assign.ensures.writes sound in
      let one = c.lower_expression-from.ensures.writes two.sound in
      let value_code = expression_code w names value d own in
      let values = expression_values w names value in
      let more = expression_values w names place in
      write_write a b c.lower_assign.new.body value_code
      (conversion_code w (static_shape w names place) from d ++ put_code w names place d (next_of b)) (expression_code w names e d own) values more
      (values ++ more) one two
      (assign_code w names d own e place place value value from (next_of b) refl refl refl (c.lower_expression-from.ensures.shape two.sound)
      (next_is a b value_code values one)) refl;
}
