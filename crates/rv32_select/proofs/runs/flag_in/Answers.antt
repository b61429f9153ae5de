use Rattle.std.proofs.Common.{◌∙◌, ◌+◌, ap, drop, sym}
use Rattle.std.proofs.lemmas.List.{drop_all, drop_more}
use Rattle.core_lines.specs.Homes.{flag_at}
use Rattle.rv32_select.specs.Runs.{flags_in}
use Rattle.rv32_select.proofs.Running.{flag_here, flag_behind}
use Rattle.rv32_select.proofs.runs.flag_in.Goals as goal

pub returns-then-left-run : goal.returns-then-left-run
returns-then-left-run c =
    let xs = c.args.runs.now in
    let i = c.each.run-index in
    sym (flag_here _ c.each.left _ (flags_in (drop (i + 1) xs)) c.if-left-run.true)
    ∙ ap (λ rs. flag_at (flags_in rs) c.each.left) (sym (drop_more xs i _ c.each-test.true)) ∙ c.each.invariant.whole

pub each-preserved : goal.each-preserved
each-preserved c =
    let xs = c.args.runs.now in
    let i = c.each.run-index in
    record {
      whole = sym (flag_behind _ c.each.left _ (flags_in (drop (i + 1) xs)) c.if-left-run.false)
          ∙ ap (λ rs. flag_at (flags_in rs) c.each.left) (sym (drop_more xs i _ c.each-test.true)) ∙ c.each.invariant.whole;
    }

pub returns : goal.returns
returns c =
    ap (λ rs. flag_at (flags_in rs) c.each.left) (sym (drop_all c.each.run-index c.args.runs.now c.each-test.false)) ∙ c.each.invariant.whole
