use Rattle.std.proofs.Common.{◌≡◌, ◌∙◌, sym, ap, subst}
use Rattle.cyc_core.specs.Trees.{bytes_of}
use Rattle.cyc_tree.specs.View.{expression_tree}
use Rattle.source_lowering.specs.Lowered.{expression_values, place_code}
use Rattle.source_lowering.specs.Programs.{ByName, ByPlace, side_code, side_of}
use Rattle.source_lowering.proofs.statements.Sides.{name_values}
use Rattle.lower_checks.specs.Scoped.{names_in, world_in}
use Rattle.lower_checks.specs.Views.{side_tree}
use Rattle.lower_checks.specs.Writing.{IsWritten, next_of}
use Rattle.lower_checks.proofs.Nothing.{written_none}
use Rattle.lower_checks.proofs.side.lower_side.Goals as goal

-- what is reached by name has no pointer, and no temporary objects
pub returns-in-ByName-clause-writes : goal.returns-in-ByName-clause-writes
returns-in-ByName-clause-writes c sound =
    let w = world_in c.args.scope.now in
    let names = names_in c.args.scope.now in
    let e = expression_tree c.args.place.now in
    let local = c.in-ByName.field-0 in
    let wide = bytes_of c.in-ByName.field-1 in
    let side : side_of names e ≡ ByName local.out local.index wide = sym c.side_of-side.ensures ∙ ap side_tree c.in-ByName.is in
    let pointer = place_code w names e c.args.to.0 (next_of c.args.body.now) in
    written_none c.args.body.now (side_code (side_of names e) pointer) (expression_values w names e) sound (ap (λ x. side_code x pointer) side)
    (name_values w names e local.out local.index wide side)

-- a pointer to its place is there
pub returns-in-ByPlace-clause-writes : goal.returns-in-ByPlace-clause-writes
returns-in-ByPlace-clause-writes c sound =
    let w = world_in c.args.scope.now in
    let names = names_in c.args.scope.now in
    let e = expression_tree c.args.place.now in
    let a = c.args.body.now in
    let pointer = place_code w names e c.args.to.0 (next_of a) in
    let side : side_of names e ≡ ByPlace = sym c.side_of-side.ensures ∙ ap side_tree c.in-ByPlace.is in
    subst (λ x. IsWritten a c.lower_place.new.body (side_code x pointer) (expression_values w names e)) (sym side) (c.lower_place.ensures.writes sound)
