use Rattle.std.proofs.Common.{◌∙◌, Bool, ap, ap₂, List, map}
use Rattle.cyc_tree.specs.View.{pointer_tree, type_tree}
use Rattle.cyc_tree.specs.declared.name.Pointer as code_pointer
use Rattle.source_meaning.specs.Shapes.{base_shape, settled}
use Rattle.lower_checks.specs.Given.{given_by, pointed_given}
use Rattle.lower_checks.specs.Views.{shape_tree}
use Rattle.lower_checks.proofs.Settling.{given_settles}
use Rattle.lower_checks.proofs.given.settled_by.Goals as goal

pub returns : goal.returns
returns c = record {
  shape =
      let t = type_tree c.args.of.now in
      let by = shape_tree c.args.by in
      let given = c.in_ok-given.ensures.given ∙ ap (λ (ps : List code_pointer.Pointer). given_by (map pointer_tree ps) by) c.deref.ensures.value in
      c.type_shape.ensures
      ∙ ap₂ (λ (g : List Bool) (ps : List code_pointer.Pointer). settled (pointed_given g (map pointer_tree ps) (base_shape t.base))) given
      c.deref-2.ensures.value
      ∙ given_settles t.pointers t.base by;
}
