use Rattle.std.proofs.Common.{◌≡◌, ◌++◌, List, ap, false, sym, ◌∙◌}
use Rattle.std.specs.Prelude.{Option, Some, option_map}
use Rattle.cyc_tree.specs.View.{region_tree, type_tree}
use Rattle.cyc_types.specs.Regions.{region_of}
use Rattle.source_typing.specs.Faults.{earliest}
use Rattle.source_typing.specs.Written.{all_found, found_by, pointers_to, type_built}
use Rattle.check_faults.specs.Faults.{fault_of, faults_of}
use Rattle.check_faults.specs.Verdicts.{shortened}
use Rattle.check_types.proofs.HandleTypes.{handle_right, handle_wrong, sooner_listed}
use Rattle.check_types.specs.Handles.{is_key_base, region_type}
use Rattle.check_types.specs.Reading.{led_by, pointer_spots, pointer_trees}
use Rattle.check_types.specs.Tagged.{pointers_found}
use Rattle.check_types.specs.declared.layer.WrittenLayer.{WrittenLayer}
use Rattle.check_types.proofs.handles.written_handle.Goals as goal

pub returns-in-Some : goal.returns-in-Some
returns-in-Some c g base =
    let names = c.args.names.now in
    let t = type_tree c.args.of.now in
    let r = region_tree c.args.region.now in
    let own = (found_by names (Some r) false).1 in
    let bad : faults_of c.sooner.result ≡ earliest (own ++ (pointers_found names t).1) =
    ap faults_of c.sooner.ensures
    ∙ sooner_listed c.argument_fault.result c.regions_fault.result own (pointers_found names t).1 c.argument_fault.ensures
    (c.regions_fault.ensures ∙ ap (λ ps. earliest (all_found names (pointer_spots ps)).1) c.deref.ensures.value) in
    handle_wrong g names t r base (fault_of c.in-Some.fault) (sym bad ∙ ap faults_of c.in-Some.is)

pub returns-in_ok-layers-in-None : goal.returns-in_ok-layers-in-None
returns-in_ok-layers-in-None c g base =
    let names = c.args.names.now in
    let t = type_tree c.args.of.now in
    let r = region_tree c.args.region.now in
    let own = (found_by names (Some r) false).1 in
    let bad : faults_of c.sooner.result ≡ earliest (own ++ (pointers_found names t).1) =
    ap faults_of c.sooner.ensures
    ∙ sooner_listed c.argument_fault.result c.regions_fault.result own (pointers_found names t).1 c.argument_fault.ensures
    (c.regions_fault.ensures ∙ ap (λ ps. earliest (all_found names (pointer_spots ps)).1) c.deref.ensures.value) in
    let q = option_map region_of c.argument_in.result in
    let b = region_type (is_key_base t.base) q in
    let o : Option (List WrittenLayer) = option_map (λ ls. ls.items) c.in_ok-layers-in-None.layers in
    c.built.ensures
    ∙ ap (λ p. shortened (type_built t.at (led_by o p))) c.region_base-base.ensures
    ∙ handle_right g names t r base q o (sym bad ∙ ap faults_of c.in-None.is) c.argument_in.ensures
    (sym (ap (λ ps. pointers_to (pointer_trees ps) (all_found names (pointer_spots ps)).0 (Some b)) c.deref-in-None.ensures.value)
    ∙ c.in_ok-layers-in-None.ensures b)
