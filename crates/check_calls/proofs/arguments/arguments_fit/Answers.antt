use Rattle.std.specs.Prelude.{None, is_some, nat_eq, not, replicate, ◌&&◌, ◌||◌}
use Rattle.std.proofs.Common.{◌≡◌, true, ap, arith, length, ◌∙◌}
use Rattle.std.proofs.lemmas.Result.{IfOk-at_ok}
use Rattle.cyc_types.specs.Regions.{regions_of}
use Rattle.source_typing.specs.Faults.{earliest}
use Rattle.check_faults.specs.Faults.{faults_of, sooner_found}
use Rattle.check_calls.specs.Converted.{arguments_faults, regions_in, short_unless}
use Rattle.check_calls.specs.Enclosings.{enclosing_of}
use Rattle.check_calls.specs.Fitted.{fits_all}
use Rattle.check_calls.specs.Fixings.{fixed_with, fixing_faults, fixings_of, last_fixing, regions_by, settled, which_are_known}
use Rattle.check_calls.proofs.Converting.{arguments_are}
use Rattle.check_calls.proofs.Settling.{are_settled}
use Rattle.check_calls.proofs.arguments.arguments_fit.Goals as goal

pub returns : goal.returns
returns c g h same =
    let ps = c.args.parameters.now in
    let vs = c.args.arguments.now in
    let n = c.args.variables in
    let around = enclosing_of c.args.enclosing in
    let fs = c.in_ok-fixings.fixings.items in
    let regions = c.in_ok-regions.regions in
    let fixing = c.fixings_fault-fixing.result in
    let fixed = c.are_settled-are_settled.result in
    let conversion = c.in_ok-conversion.conversion in
    let first = c.as_slice.result.now in
    let fourth = c.as_slice-4.result.now in
    let fifth = c.as_slice-5.result.now in
    let some = which_are_known (fixings_of fs) in
    let rs = regions_by (fixings_of fs) in
    let are = IfOk-at_ok (λ f. fixings_of f.items ≡ settled (last_fixing around c.args.at) (fixed_with (fits_all ps vs) 0 (replicate n None)))
    c.in_ok-fixings.was c.fixings_for.ensures in
    let stand : regions_in regions ≡ rs =
    IfOk-at_ok (λ r. regions_of r.items ≡ regions_by (fixings_of first)) c.in_ok-regions.was c.regions_by.ensures
    ∙ ap (λ l. regions_by (fixings_of l)) c.as_slice.ensures.value in
    let fault : faults_of fixing ≡ earliest (fixing_faults (fixings_of fs)) =
    c.fixings_fault-fixing.ensures ∙ ap (λ l. earliest (fixing_faults (fixings_of l))) c.as_slice-2.ensures.value in
    let are_fixed : fixed ≡ are_settled fs = c.are_settled-are_settled.ensures ∙ ap are_settled c.as_slice-3.ensures.value in
    let converted : faults_of conversion ≡ earliest (arguments_faults (is_some fixing || not fixed) g some rs ps vs) =
    IfOk-at_ok (λ f. faults_of f ≡ earliest (arguments_faults c.is_partly.result g (which_are_known (fixings_of fourth)) (regions_of fifth) ps vs))
    c.in_ok-conversion.was (c.conversions_fault.ensures g h)
    ∙ ap (λ b. earliest (arguments_faults b g (which_are_known (fixings_of fourth)) (regions_of fifth) ps vs)) c.is_partly.ensures
    ∙ ap (λ l. earliest (arguments_faults (is_some fixing || not fixed) g (which_are_known (fixings_of l)) (regions_of fifth) ps vs)) c.as_slice-4.ensures.value
    ∙ ap (λ l. earliest (arguments_faults (is_some fixing || not fixed) g some (regions_of l) ps vs)) c.as_slice-5.ensures.value
    ∙ ap (λ l. earliest (arguments_faults (is_some fixing || not fixed) g some l ps vs)) stand in
    let count : nat_eq (length ps) (length vs) ≡ true = grind (arith, c.if-parameters-arguments.false) in
    let known = c.are_known-are_known.result in
    c.unless_found.ensures
    ∙ ap (λ o. short_unless (faults_of o) (fixed && known) (regions_in regions)) c.sooner.ensures
    ∙ ap (λ l. short_unless (faults_of (sooner_found fixing conversion)) (fixed && known) l) stand
    ∙ arguments_are g ps vs fs conversion c.args.at n around fixing fixed known same are count are_fixed c.are_known-are_known.ensures fault converted
