use Rattle.std.proofs.Common.{◌≡◌, ◌+◌, [], ◌∷◌, ◌++◌, map, take, ap, sym, ◌∙◌}
use Rattle.std.proofs.lemmas.List.{map-append, map_more}
use Rattle.core_lines.specs.Selected.{frame_bytes}
use Rattle.cyc_core.specs.Trees.{function_tree}
use Rattle.rv32_select.proofs.framing.frames_of.Goals as goal

pub each-preserved : goal.each-preserved
each-preserved c =
    let fs = c.args.functions.now in
    let f = c.function-item.result in
    let before = map function_tree (take c.each.function-index fs) in
    let trees : map function_tree (take (c.each.function-index + 1) fs) ≡ before ++ function_tree f ∷ [] =
    map_more function_tree fs c.each.function-index f c.each-test.true ∙ ap (λ x. before ++ function_tree x ∷ []) (sym c.function-item.is) in
    record {
      whole = c.in_ok-push.ensures.items
          ∙ (λ k. c.each.invariant.whole k ++ c.in_ok-frame_of.ensures k ∷ [])
          ∙ sym (ap (map frame_bytes) trees ∙ map-append frame_bytes before (function_tree f ∷ []));
    }
