use Rattle.std.proofs.Common.{◌≡◌, ap, subst, sym, ◌∙◌}
use Rattle.std.specs.Prelude.{IfOk}
use Rattle.cyc_types.specs.Types.{static_type}
use Rattle.check_operators.specs.Values.{value_of}
use Rattle.source_typing.specs.Declarations.{converted_to}
use Rattle.source_typing.specs.Faults.{earliest}
use Rattle.source_typing.specs.Verdicts.{Of}
use Rattle.check_faults.specs.Faults.{faults_of}
use Rattle.check_faults.specs.Verdicts.{short_of}
use Rattle.check_scopes.proofs.Keeping.{sees}
use Rattle.check_heads.proofs.Answered.{of_short}
use Rattle.check_declarations.proofs.local.conversion.Goals as goal

pub returns-in-Of-Of : goal.returns-in-Of-Of
returns-in-Of-Of c g v t k e h =
    let r = c.converted.result in
    let value = of_short v _ (ap (short_of value_of) (sym c.in-Of-Of.is-0) ∙ e) in
    let to = of_short t _ (ap (short_of static_type) (sym c.in-Of-Of.is-1) ∙ h) in
    subst (λ u. IfOk r (λ f. faults_of f ≡ earliest (converted_to g u t))) (sym value)
    (subst (λ u. IfOk r (λ f. faults_of f ≡ earliest (converted_to g (Of (value_of c.in-Of-Of.value)) u))) (sym to) (c.converted.ensures g (sees k)))
