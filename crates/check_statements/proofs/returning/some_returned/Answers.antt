use Rattle.std.proofs.Common.{◌≡◌, IfOk, Option, Some, ap, subst, sym, ◌∙◌}
use Rattle.std.specs.Prelude.{option_map}
use Rattle.cyc_types.specs.Types.{static_type}
use Rattle.check_operators.specs.Values.{value_of}
use Rattle.source_typing.specs.Faults.{earliest}
use Rattle.source_typing.specs.Statements.{returned}
use Rattle.check_faults.specs.Faults.{faults_of}
use Rattle.check_faults.specs.Verdicts.{short_of}
use Rattle.check_heads.proofs.Answered.{of_short}
use Rattle.check_statements.proofs.returning.some_returned.Goals as goal

pub returns-in-Of-Some : goal.returns-in-Of-Some
returns-in-Of-Some c = λ g v h e.
    subst (λ (o : Option _). IfOk c.value_returned.result (λ f. faults_of f ≡ earliest (returned g c.args.at (option_map (λ t. static_type t.now) o) (Some v))))
    (sym c.in-Of-Some.is-1)
    (subst (λ w. IfOk c.value_returned.result (λ f. faults_of f ≡ earliest (returned g c.args.at (Some (static_type c.in-Of-Some.of.now)) (Some w))))
    (sym (of_short v (value_of c.in-Of-Some.value) (sym (ap (λ x. short_of value_of x) c.in-Of-Some.is-0) ∙ e))) (c.value_returned.ensures g h))
