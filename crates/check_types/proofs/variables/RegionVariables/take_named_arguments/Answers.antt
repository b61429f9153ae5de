use Rattle.std.proofs.Common.{◌≡◌, ◌+◌, ◌∷◌, ◌++◌, ap, drop, map, sym, ◌∙◌}
use Rattle.std.proofs.lemmas.List.{drop_more}
use Rattle.cyc_tree.specs.View.{region_tree}
use Rattle.source_typing.specs.Functions.{take_spots}
use Rattle.source_typing.specs.Written.{as_region}
use Rattle.check_types.specs.Arguments.{named_spots}
use Rattle.check_types.specs.Written.{partial_regions}
use Rattle.check_types.proofs.Places.{next_left, next_taken}
use Rattle.check_types.proofs.variables.RegionVariables.take_named_arguments.Goals as goal

pub each-preserved : goal.each-preserved
each-preserved c =
    let rs = c.args.arguments.now in
    let i = c.each.argument-index in
    let x = c.argument-item.result in
    let old = c.each.self in
    let new = c.take_argument.new.self in
    let e : drop i rs ≡ x ∷ drop (i + 1) rs = drop_more rs i x c.each-test.true ∙ ap (λ y. y ∷ drop (i + 1) rs) (sym c.argument-item.is) in
    record {
      found = ap (λ fs. partial_regions fs ++ map as_region (take_spots new (named_spots (map region_tree (drop (i + 1) rs)))).found) c.in_ok-push.ensures.ok
          ∙ next_taken rs i x e old new c.in_ok-region.ensures.after c.each.found.items c.in_ok-region.region c.in_ok-region.ensures.found
          ∙ c.each.invariant.found;
      after = next_left rs i x e old new c.in_ok-region.ensures.after ∙ c.each.invariant.after;
    }
