use Rattle.std.proofs.Common.{◌≡◌, ◌+◌, true, false, get_or, take, sym, ap, ◌∙◌, arith}
use Rattle.cyc_lexer.specs.Bytes.{is_space}
use Rattle.cyc_format.proofs.Stripping.{space_more, other_more}
use Rattle.cyc_format.proofs.comments.stripped.Goals as goal
use Rattle.cyc_format.proofs.comments.stripped.Goals.{then-not-is_space, else-not-is_space}

pub loop-i-preserved : goal.loop-i-preserved
loop-i-preserved c =
    let s = c.args.comment.now in
    let i = c.loop-i.i in
    elim c.if-not-is_space.branch [
      | then-not-is_space w ↦
          (let end : c.if-not-is_space.end ≡ i + 1 = w.end-is in
          (other_more s i c.loop-i-test.true (sym c.is_space.ensures ∙ w.if-not-is_space.true) ∙ ap (λ k. take k s) (sym end), omega arith))
      | else-not-is_space w ↦
          (let end : c.if-not-is_space.end ≡ c.loop-i.end = w.end-is in (
            space_more s i c.loop-i.end c.loop-i-test.true (sym c.is_space.ensures ∙ w.if-not-is_space.false) c.loop-i.invariant.0
                ∙ ap (λ k. take k s) (sym end),
            omega arith,
          ))
    ]
