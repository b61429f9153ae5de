use Rattle.std.proofs.Common.{◌≡◌, ap, sym, ◌∙◌}
use Rattle.std.proofs.lemmas.Result.{IfOk-at_ok}
use Rattle.cyc_types.specs.Layers.{outermost}
use Rattle.source_typing.specs.Conversions.{broken}
use Rattle.source_typing.specs.Faults.{earliest}
use Rattle.check_operators.specs.Pointers.{region_outside, regions_ordered}
use Rattle.check_operators.proofs.Following.{in_order}
use Rattle.check_operators.proofs.conversion.converted.Goals as goal

pub returns : goal.returns
returns c g h =
    let value = c.args.value.now in
    let l = outermost value.of.layers.items in
    let k = outermost c.args.to.now.layers.items in
    let o = c.in_ok-outlives.outlives in
    let here = c.region_outside-here.result in
    let there = c.region_outside-there.result in
    let ordered : regions_ordered g.regions o here there ≡ o =
    IfOk-at_ok (λ b. regions_ordered g.regions b here there ≡ b) c.in_ok-outlives.was (c.are_ordered.ensures g h) in
    let first : here ≡ region_outside l = c.region_outside-here.ensures ∙ ap region_outside c.outer.ensures in
    let second : there ≡ region_outside k = c.region_outside-there.ensures ∙ ap region_outside c.outer-2.ensures in
    let same = ap (λ a. regions_ordered g.regions o a there) first ∙ ap (λ b. regions_ordered g.regions o (region_outside l) b) second in
    c.broken.ensures ∙ ap (λ r. earliest (broken value.at r)) (c.conversion.ensures g.regions (in_order g.regions o l k (sym same ∙ ordered)))
