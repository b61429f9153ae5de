use Rattle.std.proofs.Common.{◌≡◌, ◌+◌, ◌∷◌, ap, drop, map, sym, ◌∙◌}
use Rattle.std.proofs.lemmas.List.{drop_more}
use Rattle.cyc_tree.specs.View.{region_tree}
use Rattle.source_typing.specs.Faults.{earliest}
use Rattle.source_typing.specs.Written.{all_found}
use Rattle.check_faults.specs.Faults.{faults_of, first_of}
use Rattle.check_types.specs.Arguments.{named_spots}
use Rattle.check_types.proofs.Places.{next_wrong}
use Rattle.check_types.proofs.arguments.arguments_fault.Goals as goal

pub each-preserved : goal.each-preserved
each-preserved c =
    let names = c.args.names.now in
    let rs = c.args.arguments.now in
    let i = c.each.argument-index in
    let x = c.argument-item.result in
    let e : drop i rs ≡ x ∷ drop (i + 1) rs = drop_more rs i x c.each-test.true ∙ ap (λ y. y ∷ drop (i + 1) rs) (sym c.argument-item.is) in
    ap (λ o. first_of (faults_of o) (earliest (all_found names (named_spots (map region_tree (drop (i + 1) rs)))).1)) c.sooner-found.ensures
    ∙ next_wrong rs i x e names c.each.found c.argument_fault.result c.argument_fault.ensures
    ∙ c.each.invariant
