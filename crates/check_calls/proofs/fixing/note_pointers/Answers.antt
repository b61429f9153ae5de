use Rattle.std.specs.Prelude.{slice_get, ◌+◌}
use Rattle.std.proofs.Common.{ap, arith, drop, refl, sym, ◌∙◌}
use Rattle.cyc_types.specs.Shared.{listed}
use Rattle.check_calls.specs.Fitted.{layer_fits, place_fits, pointer_fits}
use Rattle.check_calls.specs.Fixings.{fixed_with, fixings_of}
use Rattle.check_calls.proofs.Fixes.{all_fixed, next_fixed}
use Rattle.check_calls.proofs.Places.{next_places, no_pointer_fits}
use Rattle.check_calls.proofs.fixing.note_pointers.Goals as goal

pub each-preserved : goal.each-preserved
each-preserved c =
    let at = c.args.at in
    let i = c.each.index in
    let ls = listed c.args.mine in
    let ks = listed c.args.theirs in
    let before = fixings_of c.each.fixings.items in
    next_fixed (place_fits at (slice_get ls i) (slice_get ks i)) (pointer_fits at (drop (i + 1) ls) (drop (i + 1) ks)) before
    (fixings_of c.note_place.new.fixings.items) (fixed_with (pointer_fits at ls ks) 0 (fixings_of c.args.fixings.now.items))
    (c.note_place.ensures
    ∙ ap (λ l. fixed_with (place_fits at l c.get-there.result) 0 before) c.get-here.ensures
    ∙ ap (λ k. fixed_with (place_fits at (slice_get ls i) k) 0 before) c.get-there.ensures)
    (ap (λ fs. fixed_with fs 0 before) (sym (next_places at i ls ks)) ∙ c.each.invariant)

pub returns : goal.returns
returns c =
    let at = c.args.at in
    let ls = listed c.args.mine in
    let ks = listed c.args.theirs in
    all_fixed (pointer_fits at) (layer_fits at) (λ ys. refl) (no_pointer_fits at) (λ x xs y ys. refl) c.each.index ls ks
    (fixings_of c.each.fixings.items) (fixed_with (pointer_fits at ls ks) 0 (fixings_of c.args.fixings.now.items))
    (omega (arith, c.each-test.false, c.min-count.ensures, c.len.ensures, c.len-2.ensures)) c.each.invariant
