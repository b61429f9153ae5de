use Rattle.std.proofs.Common.{◌≡◌, ◌++◌, List, ap, map, sym, true, ◌∙◌}
use Rattle.std.specs.Prelude.{Some, option_map}
use Rattle.std.proofs.lemmas.List.{append-nil}
use Rattle.cyc_tree.specs.View.{name_tree, region_tree, type_tree}
use Rattle.source_typing.specs.Faults.{earliest}
use Rattle.source_typing.specs.Functions.{Variables, parameter_type, take_spots}
use Rattle.source_typing.specs.Tags.{settled_alone}
use Rattle.source_typing.specs.Verdicts.{after}
use Rattle.source_typing.specs.Written.{Found, Spot, as_region, pointers_to, spot, written_with}
use Rattle.check_faults.specs.Verdicts.{shortened}
use Rattle.check_types.proofs.Parameters.{no_faults}
use Rattle.check_types.proofs.Places.{after_both, bad_both, taken_both, taken_each, taken_faults}
use Rattle.check_types.proofs.TagTypes.{spots_are_by, tagged_with}
use Rattle.check_types.specs.Arguments.{spots_by, unique_faults, written_arguments}
use Rattle.check_types.specs.Reading.{pointer_spots, pointer_trees}
use Rattle.check_types.specs.Tagged.{IsRead, regions_named, tagged_spots}
use Rattle.source_typing.specs.Faults as rules
use Rattle.check_types.proofs.variables.RegionVariables.on_tagged.Goals as goal

pub returns-clause-found : goal.returns-clause-found
returns-clause-found c g named base =
    let t = type_tree c.args.of.now in
    let x = name_tree c.args.name.now in
    let vs : Variables = c.args.self.now in
    let n = regions_named c.args.tag in
    let rs = written_arguments t.base in
    let own : List Spot = spots_by n rs in
    let others : List Spot = map (λ q. spot true q.region) t.pointers in
    let mid : Variables = (take_spots vs own).after_all in
    let y : List Found × List rules.Fault = ((take_spots vs (tagged_spots n t)).found, (take_spots vs (tagged_spots n t)).faults) in
    let after_own : c.take_arguments.new.self ≡ mid =
    c.in_ok-arguments.ensures.after
    ∙ ap (λ k. (take_spots vs (spots_by k (map region_tree c.written_arguments-written.result.now))).after_all) c.regions.ensures
    ∙ ap (λ qs. (take_spots vs (spots_by n qs)).after_all) c.written_arguments-written.ensures in
    let read : IsRead t n y c.in_ok-arguments.arguments.items (option_map (λ ls. ls.items) c.in_ok-layers.layers) c.unique_faults.result = record {
      of_base = (take_spots vs own).found;
      of_pointers = (take_spots mid others).found;
      found = taken_both vs own others;
      count = taken_each vs own;
      regions = c.in_ok-arguments.ensures.found
          ∙ ap (λ k. map as_region (take_spots vs (spots_by k (map region_tree c.written_arguments-written.result.now))).found) c.regions.ensures
          ∙ ap (λ qs. map as_region (take_spots vs (spots_by n qs)).found) c.written_arguments-written.ensures;
      pointers = λ b. sym
          (ap (λ ps. pointers_to (pointer_trees ps) (take_spots c.take_arguments.new.self (pointer_spots ps)).found (Some b)) c.deref.ensures.value
          ∙ ap (λ v. pointers_to t.pointers (take_spots v others).found (Some b)) after_own)
          ∙ c.in_ok-layers.ensures.found b;
      fault = c.unique_faults.ensures
          ∙ ap (λ qs. earliest (unique_faults qs)) c.written_arguments-written.ensures
          ∙ ap earliest (sym (append-nil (unique_faults rs)))
          ∙ ap (λ fs. earliest (unique_faults rs ++ fs)) (sym (no_faults mid t.pointers))
          ∙ ap (λ fs. earliest (fs ++ (take_spots mid others).faults)) (sym (taken_faults vs n rs))
          ∙ ap earliest (sym (bad_both vs own others));
    } in
    let w = written_with g t y in
    c.fitting.ensures (after w (settled_alone t.at))
    (c.in_ok-settled.ensures w (c.tagged_of-found.ensures y base read ∙ ap (λ v. shortened v) (tagged_with g t x c.args.tag base named y)))
    ∙ ap (λ ss. shortened (parameter_type g t (take_spots vs ss))) (sym (spots_are_by g t x c.args.tag base named))

pub returns-clause-after : goal.returns-clause-after
returns-clause-after c g named base =
    let t = type_tree c.args.of.now in
    let x = name_tree c.args.name.now in
    let vs : Variables = c.args.self.now in
    let n = regions_named c.args.tag in
    let rs = written_arguments t.base in
    let own : List Spot = spots_by n rs in
    let others : List Spot = map (λ q. spot true q.region) t.pointers in
    let after_own : c.take_arguments.new.self ≡ (take_spots vs own).after_all =
    c.in_ok-arguments.ensures.after
    ∙ ap (λ k. (take_spots vs (spots_by k (map region_tree c.written_arguments-written.result.now))).after_all) c.regions.ensures
    ∙ ap (λ qs. (take_spots vs (spots_by n qs)).after_all) c.written_arguments-written.ensures in
    c.in_ok-layers.ensures.after
    ∙ ap (λ ps. (take_spots c.take_arguments.new.self (pointer_spots ps)).after_all) c.deref.ensures.value
    ∙ ap (λ v. (take_spots v others).after_all) after_own
    ∙ sym (after_both vs own others)
    ∙ ap (λ ss. (take_spots vs ss).after_all) (sym (spots_are_by g t x c.args.tag base named))
