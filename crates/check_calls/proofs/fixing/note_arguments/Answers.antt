use Rattle.std.proofs.Common.{List, [], ◌∷◌, arith, refl}
use Rattle.cyc_types.specs.Regions.{region_of, regions_of}
use Rattle.cyc_types.specs.declared.region.RegionId.{RegionId}
use Rattle.source_typing.specs.Fixing.{fit, fit_all}
use Rattle.source_typing.specs.Written.{Is}
use Rattle.check_calls.specs.Fixings.{fixed_with, fixings_of}
use Rattle.check_calls.proofs.Fixes.{all_fixed, next_fixes}
use Rattle.check_calls.proofs.Places.{no_argument_fits}
use Rattle.check_calls.proofs.fixing.note_arguments.Goals as goal

pub each-preserved : goal.each-preserved
each-preserved c =
    let at = c.args.at in
    next_fixes (λ (rs : List RegionId) (qs : List RegionId). fit_all at (regions_of rs) (regions_of qs))
    (λ (r : RegionId) (q : RegionId). fit at (region_of r) (Is (region_of q)) ∷ [])
    (λ ys. refl) (no_argument_fits at) (λ x xs y ys. refl) c.each.index c.args.mine.now c.args.theirs.now _ _ _ _
    (fixings_of c.each.fixings.items) (fixings_of c.note.new.fixings.items)
    (fixed_with (fit_all at (regions_of c.args.mine.now) (regions_of c.args.theirs.now)) 0 (fixings_of c.args.fixings.now.items))
    (omega (arith, c.each-test.true, c.min-count.ensures)) refl refl c.note.ensures c.each.invariant

pub returns : goal.returns
returns c =
    let at = c.args.at in
    all_fixed (λ (rs : List RegionId) (qs : List RegionId). fit_all at (regions_of rs) (regions_of qs))
    (λ (r : RegionId) (q : RegionId). fit at (region_of r) (Is (region_of q)) ∷ [])
    (λ ys. refl) (no_argument_fits at) (λ x xs y ys. refl) c.each.index c.args.mine.now c.args.theirs.now
    (fixings_of c.each.fixings.items)
    (fixed_with (fit_all at (regions_of c.args.mine.now) (regions_of c.args.theirs.now)) 0 (fixings_of c.args.fixings.now.items))
    (omega (arith, c.each-test.false, c.min-count.ensures)) c.each.invariant
