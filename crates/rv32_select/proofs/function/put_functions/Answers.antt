use Rattle.std.proofs.Common.{◌<◌, ◌+◌, ◌∷◌, ◌++◌, length, drop, map, arith, sym, ap, ◌∙◌}
use Rattle.std.proofs.lemmas.List.{drop_more}
use Rattle.cyc_core.specs.Trees.{function_tree}
use Rattle.core_lines.specs.Choosing.{far}
use Rattle.core_lines.specs.Selected.{function_code, functions_code}
use Rattle.rv32_select.proofs.Functions.{functions_more}
use Rattle.rv32_select.proofs.function.put_functions.Goals as goal

pub each-preserved : goal.each-preserved
each-preserved c =
    let functions = c.args.functions.now in
    let f = c.function-item.result in
    let rest = map function_tree (drop (c.each.function-index + 1) functions) in
    let statics = c.args.place.now.statics.items in
    let before = c.each.lines.items in
    let one = c.put_function.new.lines.items in
    let within : c.each.function-index < length functions = omega arith in
    let here = drop_more functions c.each.function-index f within ∙ ap (λ x. x ∷ drop (c.each.function-index + 1) functions) (sym c.function-item.is) in
    let code = c.in_ok-next-2.ensures.code
    ∙ ap (λ s. before ++ function_code far s c.args.refused c.each.number c.each.next (function_tree f)) c.each.invariant.same in
    record {
      whole = ap (λ n. one ++ functions_code far statics c.args.refused n c.in_ok-next-2.next rest) c.in_ok-number.ensures ∙
          ap (λ n. one ++ functions_code far statics c.args.refused (c.each.number + 1) n rest) c.in_ok-next-2.ensures.free ∙
          functions_more statics c.args.refused c.each.number c.each.next (function_tree f) rest before one code ∙
          ap (λ fs. before ++ functions_code far statics c.args.refused c.each.number c.each.next (map function_tree fs)) (sym here) ∙ c.each.invariant.whole;
      same = c.in_ok-next-2.ensures.same ∙ c.each.invariant.same;
    }
