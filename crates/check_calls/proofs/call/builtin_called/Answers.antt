use Rattle.std.specs.Prelude.{map}
use Rattle.std.proofs.Common.{◌≡◌, ap, ◌∙◌}
use Rattle.std.proofs.lemmas.Result.{IfOk-at_ok}
use Rattle.check_operators.specs.Values.{value_of}
use Rattle.source_typing.specs.Calls.{arguments_fit, builtin_parameters}
use Rattle.check_faults.specs.Verdicts.{short_of, shortened}
use Rattle.check_calls.specs.Converted.{regions_in}
use Rattle.check_calls.specs.Fitted.{parameter_types}
use Rattle.check_calls.proofs.call.builtin_called.Goals as goal

pub returns : goal.returns
returns c g h same =
    let at = c.args.at in
    let n = c.args.count in
    let vs = map value_of c.args.arguments.now in
    let given = c.as_slice-types.result.now in
    c.builtin_entered.ensures (arguments_fit g at 0 (builtin_parameters n) vs)
    (IfOk-at_ok (λ v. short_of regions_in v ≡ shortened (arguments_fit g at 0 (parameter_types given) vs)) c.in_ok-fit.was (c.arguments_fit.ensures g h same)
    ∙ ap (λ ps. shortened (arguments_fit g at 0 (parameter_types ps) vs)) c.as_slice-types.ensures.value
    ∙ ap (λ ps. shortened (arguments_fit g at 0 ps vs))
    (IfOk-at_ok (λ ts. parameter_types ts.items ≡ builtin_parameters n) c.in_ok-parameters.was c.builtin_parameters.ensures))
