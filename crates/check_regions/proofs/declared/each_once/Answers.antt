use Rattle.std.proofs.Common.{map, subst, sym, take}
use Rattle.check_regions.specs.Fields.{pair_of}
use Rattle.check_regions.specs.Once.{AreTaken}
use Rattle.check_regions.proofs.Once.{one_more_given}
use Rattle.check_regions.proofs.declared.each_once.Goals as goal

pub each-preserved : goal.each-preserved
each-preserved c =
    let given = c.args.given.now in
    let i = c.each.bound-index in
    subst (λ gs. AreTaken c.take_once.new.seen.keys (map pair_of c.take_once.new.once.items) gs)
    (sym (one_more_given pair_of given i _ c.each-test.true))
    (c.in_ok-take_once.ensures (map pair_of (take i given)) c.each.invariant)
