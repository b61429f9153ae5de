use Rattle.std.proofs.Common.{◌≡◌, ◌∙◌, ◌++◌, ap, arith, refl, sym}
use Rattle.rv32_select.specs.Runs.{flags_in, run_flags, set_at}
use Rattle.rv32_select.proofs.Running.{next_here, next_behind}
use Rattle.rv32_select.proofs.runs.put_next.Goals as goal

pub returns-in_ok-put_set-in-Some : goal.returns-in_ok-put_set-in-Some
returns-in_ok-put_set-in-Some c rest =
    let old = flags_in c.args.runs.now.items in
    next_here old _ rest c.args.run c.in-Some.number c.args.value c.if-number-run.true c.in_ok-put_set-in-Some.ensures
    ∙ ap (λ o. old ++ set_at c.args.value o (run_flags c.args.run ++ rest)) (sym c.in-Some.is)

pub returns-in_ok-put_run-in-Some-2 : goal.returns-in_ok-put_run-in-Some-2
returns-in_ok-put_run-in-Some-2 c rest =
    let old = flags_in c.args.runs.now.items in
    let same : c.in-Some-2.number ≡ c.in-Some.number = cc (sym c.in-Some-2.is ∙ c.in-Some.is) in
    let more = c.if-number-run.false in
    next_behind old _ rest c.args.run c.in-Some-2.number _ c.args.value (omega (arith, same, more)) refl c.in_ok-put_run-in-Some-2.ensures
    ∙ ap (λ o. old ++ set_at c.args.value o (run_flags c.args.run ++ rest)) (sym c.in-Some-2.is)
