use Rattle.std.proofs.Common.{◌≡◌, Some, ap, sym, ◌∙◌}
use Rattle.std.proofs.lemmas.Result.{IfOk-weaker}
use Rattle.cyc_types.specs.Layers.{outermost}
use Rattle.cyc_types.specs.Regions.{region_of}
use Rattle.cyc_types.specs.Types.{static_type}
use Rattle.source_typing.specs.Operators.{compared, compared_thin}
use Rattle.check_faults.specs.Verdicts.{short_of, shortened}
use Rattle.check_operators.specs.Pointers.{thin_regions}
use Rattle.check_operators.specs.Values.{value_of}
use Rattle.check_operators.proofs.Applying.{pointers_compared}
use Rattle.check_operators.proofs.comparison.compared.Goals as goal

pub returns-in-Some : goal.returns-in-Some
returns-in-Some c g h =
    let at = c.args.one.at in
    let t = static_type c.args.one.of in
    let u = static_type c.args.two.of in
    let p = static_type c.into_pointee.result in
    let q = static_type c.into_pointee-in-Some.result in
    let here = c.in-Some.here in
    let there = c.in-Some.there in
    let l = outermost c.args.one.of.layers.items in
    let k = outermost c.args.two.of.layers.items in
    let found : thin_regions l k ≡ Some (here, there) =
    sym (c.thin_regions.ensures ∙ ap (λ o. thin_regions o c.outer-2.result) c.outer.ensures ∙ ap (λ o. thin_regions l o) c.outer-2.ensures) ∙ c.in-Some.is in
    let same =
    ap (λ b. shortened (compared_thin g at b (region_of here) (region_of there))) c.is_same-are_same.ensures
    ∙ ap (λ v. shortened v) (sym (pointers_compared g at p q l k (here, there) t u found c.into_pointee.ensures c.into_pointee-in-Some.ensures)) in
    IfOk-weaker c.compared_thin.result (λ v. short_of value_of v ≡ shortened (compared_thin g at c.is_same-are_same.result (region_of here) (region_of there)))
    (λ v. short_of value_of v ≡ shortened (compared g at t u)) (λ v e. e ∙ same) (c.compared_thin.ensures g h)
