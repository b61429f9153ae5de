use Rattle.std.proofs.Common.{◌≡◌, ◌+◌, ◌∷◌, ap, drop, sym, ◌∙◌}
use Rattle.std.proofs.lemmas.List.{drop_more}
use Rattle.source_typing.specs.Faults.{earliest}
use Rattle.source_typing.specs.Written.{all_found}
use Rattle.check_faults.specs.Faults.{faults_of, first_of}
use Rattle.check_types.specs.Reading.{pointer_spots}
use Rattle.check_types.proofs.Pointers.{next_fault}
use Rattle.check_types.proofs.layers.regions_fault.Goals as goal

pub each-preserved : goal.each-preserved
each-preserved c =
    let names = c.args.names.now in
    let ps = c.args.pointers.now in
    let i = c.each.pointer-index in
    let x = c.pointer-item.result in
    let e : drop i ps ≡ x ∷ drop (i + 1) ps = drop_more ps i x c.each-test.true ∙ ap (λ y. y ∷ drop (i + 1) ps) (sym c.pointer-item.is) in
    ap (λ o. first_of (faults_of o) (earliest (all_found names (pointer_spots (drop (i + 1) ps))).1)) c.sooner-found.ensures
    ∙ next_fault names ps i x e c.each.found c.region_fault.result c.region_fault.ensures
    ∙ c.each.invariant
