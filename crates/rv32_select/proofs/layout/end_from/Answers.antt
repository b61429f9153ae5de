use Rattle.std.proofs.Common.{◌≡◌, ◌+◌, ◌∷◌, ap, drop, map, sym, ◌∙◌}
use Rattle.std.proofs.lemmas.List.{drop_more}
use Rattle.cyc_core.specs.Trees.{local_tree}
use Rattle.core_lines.specs.Selected.{bytes_of, shrink}
use Rattle.rv32_select.proofs.Shrinking.{end_more}
use Rattle.rv32_select.proofs.layout.end_from.Goals as goal

pub each-preserved : goal.each-preserved
each-preserved c =
    let xs = c.args.locals.now in
    let i = c.each.index in
    let x = c.index-locals-index.result in
    let e : drop i xs ≡ x ∷ drop (i + 1) xs = drop_more xs i x c.each-test.true ∙ ap (λ y. y ∷ drop (i + 1) xs) (sym c.index-locals-index.is) in
    let bytes = c.frame_bytes_of.ensures ∙ ap (λ h. bytes_of (shrink h (local_tree x))) c.home_at.ensures in
    record {
      whole = end_more c.each.at c.in_ok-at.at i (local_tree x) (map local_tree (drop (i + 1) xs)) (map local_tree (drop i xs)) c.args.homes.now
          (ap (map local_tree) e) (c.in_ok-at.ensures ∙ (λ k. c.in_ok-rounded.ensures k + bytes k)) ∙ c.each.invariant.whole;
    }
