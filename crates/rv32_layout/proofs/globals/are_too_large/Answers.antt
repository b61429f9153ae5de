use Rattle.std.proofs.Common.{◌≡◌, ◌+◌, ◌<◌, ◌∷◌, length, drop, map, refl, sym, ap, ◌∙◌, arith}
use Rattle.std.proofs.lemmas.List.{drop_more}
use Rattle.cyc_core.specs.Trees.{datum_tree}
use Rattle.core_lines.specs.Selected.{rounded}
use Rattle.core_lines.specs.Running.{data_offsets}
use Rattle.rv32_layout.specs.Sizes.{datum_size}
use Rattle.rv32_layout.proofs.Statics.{data_of_rest, ends_within}
use Rattle.rv32_layout.proofs.globals.are_too_large.Goals as goal

pub each-preserved : goal.each-preserved
each-preserved c =
    let globals = c.args.globals.now in
    let os = data_offsets (map datum_tree globals) in
    let d = c.global-item.result in
    let others = drop (c.each.global-index + 1) globals in
    let inside : c.each.global-index < length globals = omega arith in
    let here = drop_more globals c.each.global-index d inside ∙ ap (λ x. x ∷ others) (sym c.global-item.is) in
    let told = c.in-Some.ensures.some in
    let ends : c.in-Some.end ≡ rounded c.each.at + datum_size d = told.0 ∙ ap (λ n. n + datum_size d) c.rounded.ensures in
    record { whole = data_of_rest os (drop c.each.global-index globals) d others c.each.at c.in-Some.end _ here ends c.each.invariant.whole; within = told.1 }

pub returns-in_default : goal.returns-in_default
returns-in_default c =
    let globals = c.args.globals.now in
    let os = data_offsets (map datum_tree globals) in
    let d = c.global-item.result in
    let others = drop (c.each.global-index + 1) globals in
    let inside : c.each.global-index < length globals = omega arith in
    let here = drop_more globals c.each.global-index d inside ∙ ap (λ x. x ∷ others) (sym c.global-item.is) in
    let within = ends_within os (drop c.each.global-index globals) d others c.each.at _ here c.each.invariant.whole in
    let over = c.in_default.ensures.none in
    (λ is. omega (arith, within, over, c.rounded.ensures), λ is. refl)
