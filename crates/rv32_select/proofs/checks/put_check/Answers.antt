use Rattle.std.proofs.Common.{◌≡◌, ◌++◌, ℕ, Option, OnOk, sym, subst, ◌∙◌}
use Rattle.core_lines.specs.Checks.{tested_code}
use Rattle.rv32_select.specs.Failures.{failure_tree}
use Rattle.rv32_select.proofs.checks.put_check.Goals as goal

pub returns-in-Some : goal.returns-in-Some
returns-in-Some c =
    let place = c.args.place.now in
    subst (λ (n : Option ℕ). OnOk c.put_known_check.result
    (c.put_known_check.new.lines.items ≡ c.args.lines.now.items ++ tested_code place.passed place.held c.args.test.0 (failure_tree c.args.failure) n))
    (sym c.in-Some.is ∙ c.number.ensures) (c.put_known_check.ensures c.args.test.0)
