use Rattle.std.proofs.Common.{◌≡◌, ap, sym, ◌∙◌}
use Rattle.std.proofs.lemmas.Result.{IfOk-weaker}
use Rattle.cyc_types.specs.Regions.{regions_of}
use Rattle.check_operators.specs.Values.{value_of}
use Rattle.check_scopes.specs.Means.{signature_of}
use Rattle.source_typing.specs.Calls.{call_entered}
use Rattle.source_typing.specs.Verdicts.{after}
use Rattle.check_faults.specs.Verdicts.{short_of, shortened}
use Rattle.check_faults.proofs.Shortened.{after_of}
use Rattle.check_calls.specs.Converted.{regions_in}
use Rattle.check_calls.proofs.call.function_entered.Goals as goal

pub returns-in-Of : goal.returns-in-Of
returns-in-Of c g h v e =
    let rule = call_entered g c.args.at (signature_of c.args.signature.now) in
    IfOk-weaker c.call_entered.result (λ r. short_of value_of r ≡ shortened (rule (regions_of c.as_slice.result.now)))
    (λ r. short_of value_of r ≡ shortened (after v rule))
    (λ r p. p ∙ ap (λ l. shortened (rule (regions_of l))) c.as_slice.ensures.value ∙ sym (after_of regions_in c.args.fit v rule e c.in-Of.regions c.in-Of.is))
    (c.call_entered.ensures g h)
