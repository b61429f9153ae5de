-- A statement is that without its origin.
use Rattle.std.proofs.Common.{ℕ}
use Rattle.cyc_tree.specs.View.{statement_tree as source_tree}
use Rattle.source_lowering.specs.Programs.{statement_code, statement_values}
use Rattle.lower_checks.specs.Scoped.{names_in, world_in}
use Rattle.lower_checks.specs.Views.{regions_tree, shape_tree}
use Rattle.lower_checks.proofs.Writing.{moved}
use Rattle.lower_checks.proofs.simple.lower_simple.Goals as goal

pub lower_plain-requires : goal.lower_plain-requires
lower_plain-requires c = record {
  room = c.requires.room;
  simple = c.requires.simple;
  taken = λ sound. c.requires.taken (c.go_to.ensures sound).sound;
}

pub returns : goal.returns
returns c sound =
    let w = world_in c.args.scope.now in
    let names = names_in c.args.scope.now in
    let s = source_tree c.args.statement.now in
    let b = c.go_to.new.self in
    let written = c.lower_plain.ensures sound in
    moved c.args.body.now b c.lower_plain.new.body
    (λ n. statement_code w (shape_tree c.args.shape.now) names (regions_tree c.args.around c.args.opened.now) n s) (statement_values w names s)
    (c.go_to.ensures written.sound) written
