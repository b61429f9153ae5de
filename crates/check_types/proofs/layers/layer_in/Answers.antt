use Rattle.std.proofs.Common.{ap, sym, ◌∙◌}
use Rattle.std.specs.Prelude.{option_map}
use Rattle.cyc_tree.specs.View.{region_tree}
use Rattle.check_types.specs.Reading.{made}
use Rattle.check_types.proofs.Pointers.{found_unique}
use Rattle.check_types.proofs.layers.layer_in.Goals as goal

pub returns-then-is_unique : goal.returns-then-is_unique
returns-then-is_unique c t =
    let p = c.args.pointer.now in
    c.unique_layer.ensures t
    ∙ ap (λ f. made p.sign f t) (found_unique c.args.names.now (option_map region_tree p.region) (sym c.is_unique.ensures ∙ c.if-is_unique.true))

pub returns-else-is_unique : goal.returns-else-is_unique
returns-else-is_unique c t =
    c.layer_of.ensures t
    ∙ ap (λ f. made c.args.pointer.now.sign f t) (sym (c.region_in.ensures (sym c.is_unique.ensures ∙ c.if-is_unique.false)))
