use Rattle.std.proofs.Common.{◌∙◌, ◌+◌, ap, drop, sym}
use Rattle.std.proofs.lemmas.List.{drop_more}
use Rattle.rv32_select.specs.Runs.{flags_in}
use Rattle.rv32_select.proofs.Pushing.{appended}
use Rattle.rv32_select.proofs.runs.put_flags.Goals as goal

pub each-preserved : goal.each-preserved
each-preserved c =
    let xs = c.args.runs.now in
    let i = c.each.run-index in
    record {
      whole = appended c.each.flags.items _ _ (flags_in (drop (i + 1) xs)) (flags_in (drop i xs)) c.in_ok-put_alike.ensures
          (ap flags_in (sym (drop_more xs i _ c.each-test.true))) ∙ c.each.invariant.whole;
    }
