use Rattle.std.proofs.Common.{◌∙◌, ◌<◌, ◌-◌, Bool, List, arith, sym, ap, ap₂, length, map, take}
use Rattle.cyc_tree.specs.View.{base_tree, pointer_tree}
use Rattle.source_meaning.specs.Shapes.{base_shape, owner_of, settled, signed_shape}
use Rattle.lower_checks.specs.Given.{owner_given, pointed_given}
use Rattle.lower_checks.proofs.Pointers.{last_pointer}
use Rattle.lower_checks.proofs.shape.type_shape.Goals as goal

pub returns-in-len1-up : goal.returns-in-len1-up
returns-in-len1-up c =
    let pointers = c.args.pointers.now in
    let base = base_shape (base_tree c.args.base.now) in
    let outer = pointer_tree c.outer-item.result in
    let some : 0 < length pointers = omega (arith, c.in-len1-up.len_at_least) in
    let is = last_pointer c.args.given.alone.now pointers c.outer-item.result base some c.outer-item.is in
    c.pointer_shape.ensures
    ∙ ap₂ (λ (b : Bool) (g : List Bool). settled (signed_shape outer.sign (owner_given b (owner_of outer.region))
    (pointed_given g (map pointer_tree (take (length pointers - 1) pointers)) base)))
    c.outermost.ensures c.within.ensures
    ∙ ap settled (sym is)
