use Rattle.std.proofs.Common.{◌≡◌, ◌+◌, ◌∷◌, ap, drop, sym, ◌∙◌}
use Rattle.std.proofs.lemmas.List.{drop_more}
use Rattle.check_faults.specs.Faults.{faults_of, first_of, sooner_found}
use Rattle.check_faults.specs.Verdicts.{fault_found}
use Rattle.check_heads.proofs.HeadFaults.{next_found}
use Rattle.check_heads.specs.Reading.{types_fault}
use Rattle.check_heads.proofs.found.types_fault.Goals as goal

pub each-preserved : goal.each-preserved
each-preserved c =
    let ps = c.args.parameters.now in
    let i = c.each.parameter-index in
    let x = c.parameter-item.result in
    let e : drop i ps ≡ x ∷ drop (i + 1) ps = drop_more ps i x c.each-test.true ∙ ap (λ y. y ∷ drop (i + 1) ps) (sym c.parameter-item.is) in
    next_found c.each.found (fault_found x.of) c.sooner-found.result (types_fault (drop (i + 1) ps))
    (c.sooner-found.ensures ∙ ap (λ o. sooner_found c.each.found o) c.fault.ensures)
    ∙ sym (ap (λ qs. first_of (faults_of c.each.found) (types_fault qs)) e)
    ∙ c.each.invariant
