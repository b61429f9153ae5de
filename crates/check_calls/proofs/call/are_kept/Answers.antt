use Rattle.std.proofs.Common.{IfOk, subst, ◌≡◌}
use Rattle.cyc_types.specs.Regions.{regions_of}
use Rattle.check_calls.proofs.Entering.{once_ordered}
use Rattle.check_calls.proofs.call.are_kept.Goals as goal

pub returns : goal.returns
returns c = λ g h.
    subst (λ v. IfOk c.are_ordered.result (λ b. b ≡ v)) (once_ordered g (regions_of c.args.regions.now) _ _ c.once.ensures) (c.are_ordered.ensures g h)
