use Rattle.std.proofs.Common.{◌∙◌, ◌+◌, ◌++◌, ap, drop, sym}
use Rattle.std.proofs.lemmas.List.{append-nil, drop_all, drop_more}
use Rattle.rv32_select.specs.Runs.{flags_in, set_at}
use Rattle.rv32_select.proofs.Running.{set_nothing}
use Rattle.rv32_select.proofs.runs.with_set.Goals as goal

pub each-preserved : goal.each-preserved
each-preserved c =
    let xs = c.args.runs.now in
    let i = c.each.run-index in
    let old = flags_in c.each.set.items in
    record {
      whole = c.in_ok-left.ensures (flags_in (drop (i + 1) xs))
          ∙ ap (λ rs. old ++ set_at c.args.value c.each.left (flags_in rs)) (sym (drop_more xs i _ c.each-test.true)) ∙ c.each.invariant.whole;
    }

pub returns : goal.returns
returns c =
    let set = flags_in c.each.set.items in
    sym (append-nil set) ∙ ap (λ bs. set ++ bs) (sym (set_nothing c.args.value c.each.left))
    ∙ ap (λ rs. set ++ set_at c.args.value c.each.left (flags_in rs)) (sym (drop_all c.each.run-index c.args.runs.now c.each-test.false))
    ∙ c.each.invariant.whole
