use Rattle.std.proofs.Common.{◌≡◌, suc, ◌+◌, ◌∷◌, ◌++◌, ap, arith, drop, sym, ◌∙◌}
use Rattle.std.proofs.lemmas.List.{drop_more}
use Rattle.core_lines.specs.Frames.{load_code, restores_code}
use Rattle.rv32_select.proofs.Pushing.{appended}
use Rattle.rv32_select.proofs.function.put_restores.Goals as goal

pub each-preserved : goal.each-preserved
each-preserved c =
    let xs = c.args.saved.now in
    let slot = c.each.slot in
    let i = c.each.register-index in
    let x = c.register-item.result in
    let e : drop i xs ≡ x ∷ drop (i + 1) xs = drop_more xs i x c.each-test.true ∙ ap (λ y. y ∷ drop (i + 1) xs) (sym c.register-item.is) in
    let next : slot + 1 ≡ suc slot = omega arith in
    let rest = drop (i + 1) xs in
    record {
      whole = appended c.each.lines.items _ (load_code x slot) (restores_code c.in_ok-slot.slot rest) (restores_code slot (drop i xs))
          c.in_ok-put_load.ensures
          (ap (λ k. load_code x slot ++ restores_code k rest) (c.in_ok-slot.ensures ∙ next) ∙ ap (restores_code slot) (sym e)) ∙ c.each.invariant.whole;
    }
