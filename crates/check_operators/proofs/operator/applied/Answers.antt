use Rattle.std.proofs.Common.{◌≡◌, ap, sym, ◌∙◌}
use Rattle.std.proofs.lemmas.Result.{IfOk-weaker}
use Rattle.cyc_types.specs.Types.{static_type}
use Rattle.source_typing.specs.Operators.{applied_to, compared}
use Rattle.check_faults.specs.Verdicts.{short_of, shortened}
use Rattle.check_operators.specs.Values.{value_of}
use Rattle.check_operators.proofs.Applying.{equality_applied}
use Rattle.check_operators.proofs.operator.applied.Goals as goal

pub returns-then-is_equality : goal.returns-then-is_equality
returns-then-is_equality c g h =
    let at = c.args.one.at in
    let t = static_type c.args.one.of in
    let u = static_type c.args.two.of in
    let o = c.args.operator in
    let same =
    equality_applied g o at t u (sym c.moves.ensures ∙ c.if-moves.false) (sym c.are_integers.ensures ∙ c.if-are_integers.false)
    (sym c.is_equality.ensures ∙ c.if-is_equality.true) in
    IfOk-weaker c.compared.result (λ v. short_of value_of v ≡ shortened (compared g at t u)) (λ v. short_of value_of v ≡ shortened (applied_to g o at t u))
    (λ v e. e ∙ ap (λ v. shortened v) same) (c.compared.ensures g h)
