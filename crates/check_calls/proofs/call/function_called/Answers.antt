use Rattle.std.specs.Prelude.{map}
use Rattle.std.proofs.Common.{◌≡◌, ap, ◌∙◌}
use Rattle.std.proofs.lemmas.Result.{IfOk-at_ok}
use Rattle.check_operators.specs.Values.{value_of}
use Rattle.source_typing.specs.Calls.{arguments_fit}
use Rattle.check_faults.specs.Verdicts.{short_of, shortened}
use Rattle.check_calls.specs.Converted.{regions_in}
use Rattle.check_calls.specs.Fitted.{parameter_types}
use Rattle.check_calls.proofs.call.function_called.Goals as goal

pub returns : goal.returns
returns c g h same =
    let s = c.args.signature.now in
    let vs = map value_of c.args.arguments.now in
    let given = c.as_slice-parameters.result.now in
    c.function_entered.ensures g h (arguments_fit g c.args.at s.regions (parameter_types s.parameters.items) vs)
    (IfOk-at_ok (λ v. short_of regions_in v ≡ shortened (arguments_fit g c.args.at s.regions (parameter_types given) vs)) c.in_ok-fit.was
    (c.arguments_fit.ensures g h same)
    ∙ ap (λ ps. shortened (arguments_fit g c.args.at s.regions (parameter_types ps) vs)) c.as_slice-parameters.ensures.value)
