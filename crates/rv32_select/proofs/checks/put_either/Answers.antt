use Rattle.std.proofs.Common.{◌≡◌, ◌++◌, ℕ, Option, OnOk, sym, subst, ◌∙◌}
use Rattle.core_lines.specs.Checks.{either_code}
use Rattle.rv32_select.proofs.checks.put_either.Goals as goal

pub returns-in-Some : goal.returns-in-Some
returns-in-Some c =
    let place = c.args.place.now in
    subst (λ (n : Option ℕ). OnOk c.put_known_failure.result
    (c.put_known_failure.new.lines.items ≡ c.args.lines.now.items ++ either_code place.passed place.held c.args.test.0 c.args.first c.args.second n))
    (sym c.in-Some.is ∙ c.number.ensures) (c.put_known_failure.ensures place.passed c.args.test.0 place.held)
