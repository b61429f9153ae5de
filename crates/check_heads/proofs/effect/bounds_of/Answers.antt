use Rattle.std.proofs.Common.{subst}
use Rattle.cyc_tree.specs.View.{bound_tree}
use Rattle.check_regions.specs.Fields.{pair_of}
use Rattle.check_heads.specs.Used.{IsUsed, bound_by}
use Rattle.check_heads.proofs.Effects.{map_twice, used_all, used_next}
use Rattle.check_heads.proofs.effect.bounds_of.Goals as goal

pub each-preserved : goal.each-preserved
each-preserved c =
    let names = c.args.names.now in
    used_next pair_of (λ b. bound_by names (bound_tree b)) c.args.bounds.now c.each.bound-index c.bound-item.result c.each.used c.add.new.self
    c.used_bound.result c.each-test.true c.bound-item.is c.each.invariant c.used_bound.ensures c.in_ok-add.ensures.known c.in_ok-add.ensures.fault

pub returns : goal.returns
returns c =
    let names = c.args.names.now in
    let bs = c.args.bounds.now in
    subst (λ vs. IsUsed pair_of vs c.each.used) (map_twice (bound_by names) bound_tree bs)
    (used_all pair_of (λ b. bound_by names (bound_tree b)) bs c.each.bound-index c.each.used c.each-test.false c.each.invariant)
