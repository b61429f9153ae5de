use Rattle.std.proofs.Common.{◌≡◌, IfOk, ap, subst, sym, ◌∙◌}
use Rattle.std.specs.Prelude.{option_map}
use Rattle.cyc_tree.specs.View.{expression_tree}
use Rattle.cyc_types.specs.Types.{static_type}
use Rattle.source_typing.specs.Expressions.{judge}
use Rattle.source_typing.specs.Faults.{earliest}
use Rattle.source_typing.specs.Statements.{returned}
use Rattle.check_faults.specs.Faults.{faults_of}
use Rattle.check_statements.proofs.returning.return_fault.Goals as goal

pub returns-in-None : goal.returns-in-None
returns-in-None c g h =
    c.none_returned.ensures g
    ∙ ap (λ v. earliest (returned g c.args.at (option_map (λ t. static_type t.now) c.args.result_type)
    (option_map (λ e. judge g (expression_tree e)) v)))
    (sym c.in-None.is)

pub returns-in_ok-judged-in-Some : goal.returns-in_ok-judged-in-Some
returns-in_ok-judged-in-Some c g h =
    subst (λ v. IfOk c.some_returned.result (λ f. faults_of f ≡ earliest (returned g c.args.at (option_map (λ t. static_type t.now) c.args.result_type)
    (option_map (λ e. judge g (expression_tree e)) v)))) (sym c.in-Some.is)
    (c.some_returned.ensures g (judge g (expression_tree c.in-Some.value)) h (c.in_ok-judged-in-Some.ensures g h))
