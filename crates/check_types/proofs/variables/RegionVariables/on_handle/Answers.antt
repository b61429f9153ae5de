use Rattle.std.proofs.Common.{List, ap, map, sym, true, ◌∙◌}
use Rattle.std.specs.Prelude.{Option, Some, option_map}
use Rattle.cyc_tree.specs.View.{region_tree, type_tree}
use Rattle.cyc_types.specs.Regions.{region_of}
use Rattle.source_typing.specs.Functions.{Variables, take_spots}
use Rattle.source_typing.specs.Written.{pointers_to, spot, type_built}
use Rattle.check_faults.specs.Verdicts.{shortened}
use Rattle.check_types.proofs.HandleTypes.{handle_after, parameter_right, parameter_wrong}
use Rattle.check_types.specs.Handles.{is_key_base, region_type}
use Rattle.check_types.specs.Parameters.{as_parameter}
use Rattle.check_types.specs.Reading.{led_by, listed, pointer_spots, pointer_trees}
use Rattle.check_types.specs.declared.layer.WrittenLayer.{WrittenLayer}
use Rattle.check_types.proofs.variables.RegionVariables.on_handle.Goals as goal

pub returns-in-Some-clause-found : goal.returns-in-Some-clause-found
returns-in-Some-clause-found c g base =
    parameter_wrong g c.args.self.now (type_tree c.args.of.now) (region_tree c.args.region.now) base c.in-Some.fault
    (c.unique_fault.ensures ∙ ap listed c.in-Some.is)

pub returns-in-Some-clause-after : goal.returns-in-Some-clause-after
returns-in-Some-clause-after c g base =
    let t = type_tree c.args.of.now in
    let r = region_tree c.args.region.now in
    let vs : Variables = c.args.self.now in
    let others = map (λ q. spot true q.region) t.pointers in
    c.in_ok-layers.ensures.after
    ∙ ap (λ ps. (take_spots c.take_argument.new.self (pointer_spots ps)).after_all) c.deref.ensures.value
    ∙ ap (λ v. (take_spots v others).after_all) c.in_ok-found.ensures.after
    ∙ handle_after g vs t r base

pub returns-in_ok-parameter-in-None-clause-found : goal.returns-in_ok-parameter-in-None-clause-found
returns-in_ok-parameter-in-None-clause-found c g base =
    let t = type_tree c.args.of.now in
    let r = region_tree c.args.region.now in
    let vs : Variables = c.args.self.now in
    let others = map (λ q. spot true q.region) t.pointers in
    let q = option_map region_of c.in_ok-found.found in
    let b = region_type (is_key_base t.base) q in
    let o : Option (List WrittenLayer) = option_map (λ ls. ls.items) c.in_ok-layers.layers in
    c.in_ok-parameter-in-None.ensures
    ∙ ap (λ p. shortened (as_parameter t.at (type_built t.at (led_by o p)))) c.region_base-base.ensures
    ∙ parameter_right g vs t r base q o (c.unique_fault.ensures ∙ ap listed c.in-None.is) c.in_ok-found.ensures.found
    (sym (ap (λ ps. pointers_to (pointer_trees ps) (take_spots c.take_argument.new.self (pointer_spots ps)).found (Some b)) c.deref.ensures.value
    ∙ ap (λ v. pointers_to t.pointers (take_spots v others).found (Some b)) c.in_ok-found.ensures.after)
    ∙ c.in_ok-layers.ensures.found b)

pub returns-in_ok-parameter-in-None-clause-after : goal.returns-in_ok-parameter-in-None-clause-after
returns-in_ok-parameter-in-None-clause-after c g base =
    let t = type_tree c.args.of.now in
    let r = region_tree c.args.region.now in
    let vs : Variables = c.args.self.now in
    let others = map (λ q. spot true q.region) t.pointers in
    c.in_ok-layers.ensures.after
    ∙ ap (λ ps. (take_spots c.take_argument.new.self (pointer_spots ps)).after_all) c.deref.ensures.value
    ∙ ap (λ v. (take_spots v others).after_all) c.in_ok-found.ensures.after
    ∙ handle_after g vs t r base
