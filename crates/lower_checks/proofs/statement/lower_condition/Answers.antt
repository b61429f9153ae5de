-- A condition is that without its origin.
use Rattle.cyc_tree.specs.View.{expression_tree}
use Rattle.source_lowering.specs.Lowered.{expression_code, expression_values}
use Rattle.lower_checks.specs.Scoped.{names_in, world_in}
use Rattle.lower_checks.proofs.Writing.{moved}
use Rattle.lower_checks.proofs.statement.lower_condition.Goals as goal

pub lower_expression-requires : goal.lower_expression-requires
lower_expression-requires c = record {
  room = c.requires.room;
  taken = λ sound. c.requires.taken (c.go_to.ensures sound).sound;
}

pub returns : goal.returns
returns c = record {
  writes = λ sound.
      let w = world_in c.args.scope.now in
      let names = names_in c.args.scope.now in
      let e = expression_tree c.args.condition.now in
      let written = c.lower_expression.ensures.writes sound in
      moved c.args.body.now c.go_to.new.self c.lower_expression.new.body (λ n. expression_code w names e c.args.to.0 n) (expression_values w names e)
      (c.go_to.ensures written.sound) written;
}
