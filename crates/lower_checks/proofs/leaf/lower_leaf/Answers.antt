use Rattle.std.proofs.Common.{◌∙◌, ap}
use Rattle.cyc_tree.specs.View.{expression_tree}
use Rattle.cyc_tree.proofs.Forms.{unique_region_tree}
use Rattle.source_lowering.specs.Lowered.{expression_code, expression_values}
use Rattle.lower_checks.specs.Scoped.{names_in, world_in}
use Rattle.lower_checks.specs.Writing.{next_of}
use Rattle.lower_checks.proofs.Nothing.{written_none}
use Rattle.lower_checks.proofs.leaf.lower_leaf.Goals as goal

-- the unique region has no code
pub returns-in-UniqueRegion-clause-writes : goal.returns-in-UniqueRegion-clause-writes
returns-in-UniqueRegion-clause-writes c sound =
    let w = world_in c.args.scope.now in
    let names = names_in c.args.scope.now in
    let d = c.args.to.0 in
    let a = c.args.body.now in
    let own = next_of a in
    let e = expression_tree c.args.expression.now in
    let e_is = ap expression_tree c.in-UniqueRegion.is ∙ unique_region_tree c.in-UniqueRegion.field-0 in
    written_none a (expression_code w names e d own) (expression_values w names e) sound (ap (λ x. expression_code w names x d own) e_is)
    (ap (expression_values w names) e_is)
