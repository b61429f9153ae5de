use Rattle.std.proofs.Common.{◌≡◌, IfOk, sym, subst, Some}
use Rattle.std.proofs.lemmas.Result.{IfOk-weaker}
use Rattle.cyc_types.specs.Regions.{region_of}
use Rattle.source_typing.specs.Scope.{outlives}
use Rattle.check_operators.specs.Pointers.{regions_ordered}
use Rattle.check_operators.proofs.conversion.are_ordered.Goals as goal

pub returns-in-Some-Some : goal.returns-in-Some-Some
returns-in-Some-Some c g h =
    let one = c.in-Some-Some.one in
    let other = c.in-Some-Some.other in
    let r = c.outlives.result in
    subst (λ from. IfOk r (λ b. regions_ordered g.regions b from c.args.to ≡ b)) (sym c.in-Some-Some.is-0)
    (subst (λ to. IfOk r (λ b. regions_ordered g.regions b (Some one) to ≡ b)) (sym c.in-Some-Some.is-1)
    (IfOk-weaker r (λ b. b ≡ outlives g (region_of one) (region_of other)) (λ b. outlives g (region_of one) (region_of other) ≡ b) (λ b e. sym e)
    (c.outlives.ensures g h)))
