use Rattle.std.proofs.Common.{ap, sym, ◌∙◌}
use Rattle.cyc_tree.specs.View.{name_tree, region_tree}
use Rattle.check_structs.specs.Parameters.{with_parameter}
use Rattle.check_structs.proofs.parameters.add_name.Goals as goal

pub returns-in_ok-is_new-in-Named-clause-names : goal.returns-in_ok-is_new-in-Named-clause-names
returns-in_ok-is_new-in-Named-clause-names c =
    c.in_ok-is_new-in-Named.ensures.added (name_tree c.in-Named.name) (sym c.deref.ensures.value)
    ∙ sym (ap (λ r. with_parameter c.args.number (region_tree r) c.args.names.now) c.in-Named.is)
