use Rattle.std.proofs.Common.{◌≡◌, List, ap, map, sym, true, ◌∙◌}
use Rattle.std.specs.Prelude.{Some, option_map}
use Rattle.cyc_tree.specs.View.{region_tree, type_tree}
use Rattle.source_typing.specs.Faults.{earliest}
use Rattle.source_typing.specs.Written.{Found, Spot, all_found, as_region, pointers_to, spot}
use Rattle.check_faults.proofs.Earliest.{earliest_of_both, found_sooner}
use Rattle.check_faults.specs.Faults.{faults_of, first_of}
use Rattle.check_types.proofs.Places.{faults_both, found_both, found_each, written_faults}
use Rattle.check_types.specs.Arguments.{named_spots, spots_by, written_arguments}
use Rattle.check_types.specs.Reading.{pointer_spots, pointer_trees}
use Rattle.check_types.specs.Tagged.{IsRead, regions_named, tagged_spots}
use Rattle.source_typing.specs.Faults as rules
use Rattle.check_types.proofs.tagged.written_tagged.Goals as goal

pub returns : goal.returns
returns c base =
    let names = c.args.names.now in
    let t = type_tree c.args.of.now in
    let n = regions_named c.args.tag in
    let rs = written_arguments t.base in
    let own : List Spot = spots_by n rs in
    let others : List Spot = map (λ q. spot true q.region) t.pointers in
    let y : List Found × List rules.Fault = all_found names (tagged_spots n t) in
    let bad_own : faults_of c.arguments_fault.result ≡ earliest (all_found names own).1 =
    c.arguments_fault.ensures ∙ ap (λ qs. earliest (all_found names (named_spots qs)).1) c.written_arguments-written.ensures
    ∙ ap earliest (sym (written_faults names n rs)) in
    let bad_others : faults_of c.regions_fault.result ≡ earliest (all_found names others).1 =
    c.regions_fault.ensures ∙ ap (λ ps. earliest (all_found names (pointer_spots ps)).1) c.deref-2.ensures.value in
    let read : IsRead t n y c.in_ok-arguments.arguments.items (option_map (λ ls. ls.items) c.in_ok-layers.layers) c.sooner-fault.result = record {
      of_base = (all_found names own).0;
      of_pointers = (all_found names others).0;
      found = found_both names own others;
      count = found_each names own;
      regions = c.in_ok-arguments.ensures
          ∙ ap (λ k. map as_region (all_found names (spots_by k (map region_tree c.written_arguments-written.result.now))).0) c.regions.ensures
          ∙ ap (λ qs. map as_region (all_found names (spots_by n qs)).0) c.written_arguments-written.ensures;
      pointers = λ b. sym (ap (λ ps. pointers_to (pointer_trees ps) (all_found names (pointer_spots ps)).0 (Some b)) c.deref.ensures.value)
          ∙ c.in_ok-layers.ensures b;
      fault = ap faults_of c.sooner-fault.ensures
          ∙ found_sooner c.arguments_fault.result c.regions_fault.result
          ∙ ap (λ o. first_of o (faults_of c.regions_fault.result)) bad_own
          ∙ ap (λ o. first_of (earliest (all_found names own).1) o) bad_others
          ∙ sym (earliest_of_both (all_found names own).1 (all_found names others).1)
          ∙ ap earliest (sym (faults_both names own others));
    } in
    c.tagged_of.ensures y base read
