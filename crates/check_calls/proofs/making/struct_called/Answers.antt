use Rattle.std.specs.Prelude.{map}
use Rattle.std.proofs.Common.{◌≡◌, ap, ◌∙◌}
use Rattle.std.proofs.lemmas.Result.{IfOk-at_ok}
use Rattle.cyc_types.specs.Tags.{members_of}
use Rattle.check_operators.specs.Values.{value_of}
use Rattle.source_typing.specs.Calls.{arguments_fit, part_types}
use Rattle.check_faults.specs.Verdicts.{short_of, shortened}
use Rattle.check_calls.specs.Converted.{regions_in}
use Rattle.check_calls.specs.Fitted.{parameter_types}
use Rattle.check_calls.proofs.making.struct_called.Goals as goal

pub returns : goal.returns
returns c g h same =
    let at = c.args.at in
    let t = c.args.tag.now in
    let vs = map value_of c.args.arguments.now in
    let given = c.as_slice-types.result.now in
    let members = c.as_slice.result.now in
    c.made.ensures (arguments_fit g at t.regions (part_types (members_of t.members.items)) vs)
    (IfOk-at_ok (λ v. short_of regions_in v ≡ shortened (arguments_fit g at t.regions (parameter_types given) vs)) c.in_ok-fit.was
    (c.arguments_fit.ensures g h same)
    ∙ ap (λ ps. shortened (arguments_fit g at t.regions (parameter_types ps) vs)) c.as_slice-types.ensures.value
    ∙ ap (λ ts. shortened (arguments_fit g at t.regions ts vs))
    (IfOk-at_ok (λ ts. parameter_types ts.items ≡ part_types (members_of members)) c.in_ok-parameters.was c.member_types.ensures)
    ∙ ap (λ ms. shortened (arguments_fit g at t.regions (part_types (members_of ms)) vs)) c.as_slice.ensures.value)
