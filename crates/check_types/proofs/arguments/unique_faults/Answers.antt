use Rattle.std.proofs.Common.{◌≡◌, ◌+◌, ◌∷◌, ap, drop, map, sym, ◌∙◌}
use Rattle.std.proofs.lemmas.List.{drop_more}
use Rattle.cyc_tree.specs.View.{region_tree}
use Rattle.source_typing.specs.Faults.{earliest}
use Rattle.check_faults.specs.Faults.{faults_of, first_of}
use Rattle.check_types.specs.Arguments.{unique_faults}
use Rattle.check_types.proofs.Places.{next_unique}
use Rattle.check_types.proofs.arguments.unique_faults.Goals as goal

pub each-preserved : goal.each-preserved
each-preserved c =
    let rs = c.args.arguments.now in
    let i = c.each.argument-index in
    let x = c.argument-item.result in
    let e : drop i rs ≡ x ∷ drop (i + 1) rs = drop_more rs i x c.each-test.true ∙ ap (λ y. y ∷ drop (i + 1) rs) (sym c.argument-item.is) in
    ap (λ o. first_of (faults_of o) (earliest (unique_faults (map region_tree (drop (i + 1) rs))))) c.sooner-found.ensures
    ∙ next_unique rs i x e c.each.found c.unique_fault.result c.unique_fault.ensures
    ∙ c.each.invariant
