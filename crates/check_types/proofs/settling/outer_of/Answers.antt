use Rattle.std.proofs.Common.{◌≡◌, ◌<◌, ◌-◌, suc, ap, arith, length, take, ◌∙◌}
use Rattle.cyc_types.specs.Layers.{outermost}
use Rattle.cyc_types.specs.Shared.{listed}
use Rattle.check_types.proofs.MissingRegions.{last_taken}
use Rattle.check_types.proofs.settling.outer_of.Goals as goal

pub returns : goal.returns
returns c =
    let ls = listed c.args.layers in
    let last = c.len-count.result - c.args.depth - 1 in
    let h : last < length ls = omega (arith, c.if-count-depth.false, c.len-count.ensures) in
    let e : suc last ≡ length ls - c.args.depth = omega (arith, c.if-count-depth.false, c.len-count.ensures) in
    c.get.ensures ∙ last_taken last ls h ∙ ap (λ n. outermost (take n ls)) e
