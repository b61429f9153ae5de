use Rattle.std.proofs.Common.{ap, ◌∙◌}
use Rattle.cyc_tree.specs.View.{region_tree}
use Rattle.source_typing.specs.Faults.{earliest, region_rule, test}
use Rattle.check_structs.proofs.ReadParameters.{parameters_next}
use Rattle.check_structs.proofs.parameters.RegionParameters.add.Goals as goal

pub returns : goal.returns
returns c all rest left =
    parameters_next all rest (region_tree c.args.region.now) c.args.self.now
    (record { names = c.add_name.new.names; count = c.in_ok-count.count; fault = c.sooner-self.result }) c.unless_new-fault.result c.in_ok-is_new.is_new
    c.in_ok-is_new.ensures.names c.in_ok-is_new.ensures.is_new
    (c.unless_new-fault.ensures ∙ ap (λ n. earliest (test c.in_ok-is_new.is_new region_rule n)) c.place.ensures)
    c.sooner-self.ensures c.in_ok-count.ensures left
