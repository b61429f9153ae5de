use Rattle.std.specs.Prelude.{None, option_map}
use Rattle.std.proofs.Common.{◌+◌, drop, get_or, ap, sym, ◌∙◌}
use Rattle.std.proofs.lemmas.List.{append-nil, drop_more}
use Rattle.source_typing.specs.Faults.{earliest}
use Rattle.check_faults.specs.Faults.{faults_of, first_of}
use Rattle.check_calls.specs.Fixings.{fixing_fault, fixing_faults, fixing_of, fixings_of}
use Rattle.check_calls.proofs.Found.{next_found}
use Rattle.check_calls.proofs.fixing.fixings_fault.Goals as goal

pub each-preserved : goal.each-preserved
each-preserved c =
    let all = c.args.fixings.now in
    let i = c.each.fixing-index in
    let own = fixing_fault (option_map fixing_of (get_or all i None)) in
    next_found c.each.found c.fixing_fault.result c.sooner-found.result own (fixing_faults (fixings_of (drop (i + 1) all)))
    (earliest (fixing_faults (fixings_of all))) c.sooner-found.ensures (c.fixing_fault.ensures ∙ ap earliest (append-nil own))
    (ap (λ l. first_of (faults_of c.each.found) (earliest (fixing_faults (fixings_of l)))) (sym (drop_more all i None c.each-test.true)) ∙ c.each.invariant)
