use Rattle.std.proofs.Common.{◌≡◌, ◌+◌, ◌∷◌, ap, drop, sym, ◌∙◌}
use Rattle.std.specs.Prelude.{bytes_eq}
use Rattle.std.proofs.lemmas.List.{drop_more}
use Rattle.indexmap.specs.IndexSet.{contains}
use Rattle.source_typing.specs.Faults.{earliest, name_rule, test}
use Rattle.check_faults.specs.Faults.{faults_of, first_of}
use Rattle.check_heads.proofs.HeadFaults.{next_found, next_named}
use Rattle.check_heads.specs.Reading.{repeated_after}
use Rattle.check_heads.proofs.found.repeated_fault.Goals as goal

pub each-preserved : goal.each-preserved
each-preserved c =
    let ps = c.args.parameters.now in
    let i = c.each.parameter-index in
    let x = c.parameter-item.result in
    let was = contains (λ x y. bytes_eq x.now y.now) c.each.seen in
    let now = contains (λ x y. bytes_eq x.now y.now) c.insert.new.self in
    let e : drop i ps ≡ x ∷ drop (i + 1) ps = drop_more ps i x c.each-test.true ∙ ap (λ y. y ∷ drop (i + 1) ps) (sym c.parameter-item.is) in
    next_found c.each.found c.unless.result c.sooner-found.result (earliest (repeated_after now (drop (i + 1) ps))) c.sooner-found.ensures
    ∙ ap (λ o. first_of (faults_of c.each.found) o)
    (next_named was now x (drop (i + 1) ps) c.unless.result (c.unless.ensures ∙ ap (λ b. earliest (test b name_rule x.at)) c.in_ok-is_first.ensures.added)
    c.in_ok-is_first.ensures.updates.0)
    ∙ sym (ap (λ qs. first_of (faults_of c.each.found) (earliest (repeated_after was qs))) e)
    ∙ c.each.invariant
