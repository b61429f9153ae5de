use Rattle.std.proofs.Common.{◌≡◌, ◌∙◌, ap, subst, sym}
use Rattle.std.specs.Prelude.{IfSome, is_some}
use Rattle.cyc_tree.specs.View.{expression_tree}
use Rattle.source_meaning.specs.Shapes.{Shape, parts_of}
use Rattle.source_lowering.specs.Lowered.{static_shape, union_parts}
use Rattle.lower_checks.specs.Scoped.{names_in, world_in}
use Rattle.lower_checks.specs.Unions.{union_by}
use Rattle.lower_checks.specs.Views.{shape_tree}
use Rattle.lower_checks.proofs.Clauses.{union_known}
use Rattle.lower_checks.proofs.switch.lower_union_place.Goals as goal

pub returns-clause-parts : goal.returns-clause-parts
returns-clause-parts c sound =
    let w = world_in c.args.scope.now in
    let s = static_shape w (names_in c.args.scope.now) (expression_tree c.args.place.now) in
    let shape_is : shape_tree c.lower_place-shape.result ≡ s = c.lower_place-shape.ensures.shape (c.lower_tag.ensures sound).sound in
    subst (λ (x : Shape). IfSome c.union_tag.result (λ tag. parts_of w.unions tag.now ≡ union_parts w x)) shape_is c.union_tag.ensures.parts

-- what is switched on is a union of the program
pub returns-clause-found : goal.returns-clause-found
returns-clause-found c sound =
    let w = world_in c.args.scope.now in
    let s = static_shape w (names_in c.args.scope.now) (expression_tree c.args.place.now) in
    let two = c.lower_tag.ensures sound in
    let one = c.lower_place-shape.ensures.writes two.sound in
    let shape_is : shape_tree c.lower_place-shape.result ≡ s = c.lower_place-shape.ensures.shape two.sound in
    c.union_tag.ensures.found ∙ ap (λ x. is_some (union_by w.unions x)) shape_is ∙ union_known w.unions s (c.requires.taken one.sound).1
