use Rattle.std.proofs.Common.{◌≡◌, ◌+◌, ◌∷◌, ap, drop, map, sym, ◌∙◌}
use Rattle.std.proofs.lemmas.List.{drop_more}
use Rattle.cyc_core.specs.Trees.{local_tree}
use Rattle.core_lines.specs.Selected.{bytes_of, offsets_from, rounded, shrink, shrunk}
use Rattle.rv32_select.proofs.Pushing.{pushed}
use Rattle.rv32_select.proofs.Shrinking.{offsets_more}
use Rattle.rv32_select.proofs.layout.offsets_from.Goals as goal

pub each-preserved : goal.each-preserved
each-preserved c =
    let xs = c.args.locals.now in
    let hs = c.args.homes.now in
    let i = c.each.index in
    let x = c.index-locals-index.result in
    let e : drop i xs ≡ x ∷ drop (i + 1) xs = drop_more xs i x c.each-test.true ∙ ap (λ y. y ∷ drop (i + 1) xs) (sym c.index-locals-index.is) in
    let bytes = c.frame_bytes_of.ensures ∙ ap (λ h. bytes_of (shrink h (local_tree x))) c.home_at.ensures in
    let next = c.in_ok-at.ensures.end ∙ ap (λ n. rounded c.each.at + n) bytes in
    let rest = map local_tree (drop (i + 1) xs) in
    let here = map local_tree (drop i xs) in
    let more = offsets_more c.each.at c.in_ok-at.at i (local_tree x) rest here hs (ap (map local_tree) e) next in
    record {
      whole = pushed c.each.offsets.items _ (offsets_from c.in_ok-at.at (shrunk rest (drop (i + 1) hs)))
          (offsets_from c.each.at (shrunk here (drop i hs))) (rounded c.each.at) c.in_ok-at.ensures.begin (sym more) ∙ c.each.invariant.whole;
    }
