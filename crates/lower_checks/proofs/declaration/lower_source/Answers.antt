use Rattle.std.proofs.Common.{◌≡◌, false}
use Rattle.cyc_tree.specs.View.{expression_tree}
use Rattle.source_lowering.specs.Whole.{is_made}
use Rattle.source_lowering.proofs.bounds.WholeObjects.{unmade_place}
use Rattle.lower_checks.specs.Scoped.{names_in, world_in}
use Rattle.lower_checks.proofs.declaration.lower_source.Goals as goal

-- what isn't made is named
pub lower_place-requires : goal.lower_place-requires
lower_place-requires c = record {
  room = c.requires.room;
  taken = λ sound.
      let w = world_in c.args.scope.now in
      let names = names_in c.args.scope.now in
      let e = expression_tree c.args.value.now in
      let made : is_made w e ≡ false = cc in
      unmade_place w names e (c.requires.taken sound) made;
}
