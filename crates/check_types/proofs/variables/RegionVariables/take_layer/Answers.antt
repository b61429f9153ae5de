use Rattle.std.proofs.Common.{ap, sym, ◌∙◌}
use Rattle.std.specs.Prelude.{option_map}
use Rattle.cyc_tree.specs.View.{region_tree}
use Rattle.check_types.specs.Reading.{made}
use Rattle.check_types.proofs.Parameters.{taken_unique}
use Rattle.check_types.proofs.variables.RegionVariables.take_layer.Goals as goal

pub returns-then-is_unique-clause-found : goal.returns-then-is_unique-clause-found
returns-then-is_unique-clause-found c t =
    let p = c.args.pointer.now in
    c.unique_layer.ensures t
    ∙ ap (λ f. made p.sign f t) (taken_unique c.args.self.now (option_map region_tree p.region) (sym c.is_unique.ensures ∙ c.if-is_unique.true))

pub returns-else-is_unique-clause-found : goal.returns-else-is_unique-clause-found
returns-else-is_unique-clause-found c t =
    c.layer_of.ensures t
    ∙ ap (λ f. made c.args.pointer.now.sign f t) (sym (c.in_ok-region.ensures.found (sym c.is_unique.ensures ∙ c.if-is_unique.false)))
