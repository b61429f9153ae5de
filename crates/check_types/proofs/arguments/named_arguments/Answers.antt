use Rattle.std.proofs.Common.{◌≡◌, ◌+◌, ◌∷◌, ◌++◌, ap, drop, map, sym, ◌∙◌}
use Rattle.std.proofs.lemmas.List.{drop_more}
use Rattle.cyc_tree.specs.View.{region_tree}
use Rattle.source_typing.specs.Written.{all_found, as_region}
use Rattle.check_types.specs.Arguments.{named_spots}
use Rattle.check_types.specs.Written.{partial_regions}
use Rattle.check_types.proofs.Places.{next_argument}
use Rattle.check_types.proofs.arguments.named_arguments.Goals as goal

pub each-preserved : goal.each-preserved
each-preserved c =
    let names = c.args.names.now in
    let rs = c.args.arguments.now in
    let i = c.each.argument-index in
    let x = c.argument-item.result in
    let e : drop i rs ≡ x ∷ drop (i + 1) rs = drop_more rs i x c.each-test.true ∙ ap (λ y. y ∷ drop (i + 1) rs) (sym c.argument-item.is) in
    ap (λ fs. partial_regions fs ++ map as_region (all_found names (named_spots (map region_tree (drop (i + 1) rs)))).0) c.in_ok-push.ensures.ok
    ∙ next_argument rs i x e names c.each.found.items c.argument_in.result c.argument_in.ensures
    ∙ c.each.invariant
