-- A declaration is that without its origin.
use Rattle.cyc_tree.specs.View.{declaration_tree}
use Rattle.source_lowering.specs.Programs.{declaration_code, declaration_values}
use Rattle.lower_checks.specs.Scoped.{names_in, world_in}
use Rattle.lower_checks.proofs.Writing.{moved}
use Rattle.lower_checks.proofs.declaration.lower_declaration.Goals as goal

pub lower_first-requires : goal.lower_first-requires
lower_first-requires c = record {
  room = c.requires.room;
  taken = λ sound. c.requires.taken (c.go_to.ensures sound).sound;
}

pub returns : goal.returns
returns c = record {
  writes = λ sound.
      let w = world_in c.args.scope.now in
      let names = names_in c.args.scope.now in
      let d = declaration_tree c.args.declaration.now in
      let written = c.lower_first.ensures.writes sound in
      moved c.args.body.now c.go_to.new.self c.lower_first.new.body (λ n. declaration_code w names d c.args.to.0 c.args.index n) (declaration_values w names d)
      (c.go_to.ensures written.sound) written;
}
