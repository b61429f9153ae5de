use Rattle.std.proofs.Common.{◌∙◌, Bool, ap, ap₂, List, map}
use Rattle.cyc_tree.specs.View.{pointer_tree, type_tree}
use Rattle.cyc_tree.specs.declared.name.Pointer as code_pointer
use Rattle.source_meaning.specs.Shapes.{base_shape, settled}
use Rattle.lower_checks.specs.Given.{pointed_given}
use Rattle.lower_checks.proofs.Pointers.{nothing_given}
use Rattle.lower_checks.proofs.shape.Shape.of.Goals as goal

pub returns : goal.returns
returns c =
    let t = type_tree c.args.of.now in
    let base = base_shape t.base in
    c.type_shape.ensures
    ∙ ap₂ (λ (g : List Bool) (ps : List code_pointer.Pointer). settled (pointed_given g (map pointer_tree ps) base)) c.none.ensures c.deref.ensures.value
    ∙ ap settled (nothing_given t.pointers base)
