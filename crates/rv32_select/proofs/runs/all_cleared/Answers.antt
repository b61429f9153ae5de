use Rattle.std.proofs.Common.{◌∙◌, ◌+◌, ◌++◌, ap, drop, sym}
use Rattle.std.proofs.lemmas.List.{append-nil, drop_all, drop_more}
use Rattle.core_lines.specs.Saved.{cleared}
use Rattle.rv32_select.specs.Runs.{flags_in}
use Rattle.rv32_select.proofs.Pushing.{appended}
use Rattle.rv32_select.proofs.Running.{cleared_run}
use Rattle.rv32_select.proofs.runs.all_cleared.Goals as goal

pub each-preserved : goal.each-preserved
each-preserved c =
    let xs = c.args.runs.now in
    let i = c.each.run-index in
    let rest = flags_in (drop (i + 1) xs) in
    record {
      whole = appended (flags_in c.each.none.items) _ _ (cleared rest) (cleared (flags_in (drop i xs))) c.in_ok-put_run.ensures
          (sym (cleared_run _ _ rest) ∙ ap (λ rs. cleared (flags_in rs)) (sym (drop_more xs i _ c.each-test.true))) ∙ c.each.invariant.whole;
    }

pub returns : goal.returns
returns c =
    let none = flags_in c.each.none.items in
    sym (append-nil none) ∙ ap (λ rs. none ++ cleared (flags_in rs)) (sym (drop_all c.each.run-index c.args.runs.now c.each-test.false))
    ∙ c.each.invariant.whole
