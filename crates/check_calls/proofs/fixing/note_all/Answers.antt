use Rattle.std.proofs.Common.{◌≡◌, ◌+◌, suc, ap, arith, ◌∙◌}
use Rattle.std.proofs.lemmas.List.{length-map}
use Rattle.std.specs.Prelude.{option_map}
use Rattle.check_calls.specs.Fixings.{fixing_of, fixings_of, noted}
use Rattle.check_calls.proofs.Settling.{all_settled, next_settled, settled_from}
use Rattle.check_calls.proofs.fixing.note_all.Goals as goal

pub each-preserved : goal.each-preserved
each-preserved c =
    let last = fixing_of c.args.last in
    let i = c.each.variable in
    let next : i + 1 ≡ suc i = omega arith in
    ap (settled_from last (i + 1)) c.note_at.ensures
    ∙ ap (λ k. settled_from last k (noted (fixings_of c.each.fixings.items) i last)) next
    ∙ next_settled last i (fixings_of c.each.fixings.items) ∙ c.each.invariant

pub returns : goal.returns
returns c =
    let same = length-map c.args.fixings.now.items (option_map fixing_of) in
    all_settled (fixing_of c.args.last) c.each.variable (fixings_of c.each.fixings.items) (fixings_of c.args.fixings.now.items)
    (omega (arith, c.each-test.false, c.len-variable-end.ensures, same)) c.each.invariant
