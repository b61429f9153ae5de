use Rattle.std.proofs.Common.{◌≡◌, suc, ◌+◌, ◌∷◌, ◌++◌, ap, arith, drop, sym, ◌∙◌}
use Rattle.std.proofs.lemmas.List.{drop_more}
use Rattle.core_lines.specs.Frames.{save_code, saves_code}
use Rattle.rv32_select.proofs.Pushing.{appended}
use Rattle.rv32_select.proofs.function.put_saves.Goals as goal

pub each-preserved : goal.each-preserved
each-preserved c =
    let xs = c.args.saved.now in
    let slot = c.each.slot in
    let i = c.each.register-index in
    let x = c.register-item.result in
    let e : drop i xs ≡ x ∷ drop (i + 1) xs = drop_more xs i x c.each-test.true ∙ ap (λ y. y ∷ drop (i + 1) xs) (sym c.register-item.is) in
    let next : slot + 1 ≡ suc slot = omega arith in
    let rest = drop (i + 1) xs in
    record {
      whole = appended c.each.lines.items _ (save_code x slot) (saves_code c.in_ok-slot.slot rest) (saves_code slot (drop i xs))
          c.in_ok-put_save.ensures
          (ap (λ k. save_code x slot ++ saves_code k rest) (c.in_ok-slot.ensures ∙ next) ∙ ap (saves_code slot) (sym e)) ∙ c.each.invariant.whole;
    }
