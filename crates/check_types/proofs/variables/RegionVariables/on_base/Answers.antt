use Rattle.std.proofs.Common.{ap, sym, ◌∙◌}
use Rattle.std.specs.Prelude.{Some, option_map}
use Rattle.cyc_tree.specs.View.{type_tree}
use Rattle.source_typing.specs.Functions.{take_spots}
use Rattle.source_typing.specs.Written.{pointers_to}
use Rattle.check_types.specs.Reading.{pointer_spots, pointer_trees}
use Rattle.check_types.specs.Written.{partial_base}
use Rattle.check_types.proofs.Parameters.{plain_after, plain_parameter}
use Rattle.check_types.proofs.variables.RegionVariables.on_base.Goals as goal

pub returns-clause-found : goal.returns-clause-found
returns-clause-found c g h =
    let b = partial_base c.args.base in
    let vs = c.args.self.now in
    c.in_ok-parameter.ensures
    ∙ plain_parameter g vs (type_tree c.args.of.now) b h (option_map (λ ls. ls.items) c.in_ok-layers.layers)
    (sym (ap (λ ps. pointers_to (pointer_trees ps) (take_spots vs (pointer_spots ps)).found (Some b)) c.deref.ensures.value)
    ∙ c.in_ok-layers.ensures.found b)

pub returns-clause-after : goal.returns-clause-after
returns-clause-after c g h =
    let vs = c.args.self.now in
    c.in_ok-layers.ensures.after
    ∙ ap (λ ps. (take_spots vs (pointer_spots ps)).after_all) c.deref.ensures.value
    ∙ plain_after g vs (type_tree c.args.of.now) (partial_base c.args.base) h
