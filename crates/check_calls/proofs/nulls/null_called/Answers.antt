use Rattle.std.specs.Prelude.{map, option_map}
use Rattle.std.proofs.Common.{ap, sym, subst, ◌∙◌}
use Rattle.cyc_types.specs.Types.{static_type}
use Rattle.check_operators.specs.Values.{value_of}
use Rattle.check_scopes.specs.Means.{signature_of}
use Rattle.check_faults.specs.Verdicts.{shortened}
use Rattle.source_typing.specs.Scope.{value}
use Rattle.check_calls.specs.Nulls.{IsLiveAround}
use Rattle.check_calls.proofs.NullCalls.{null_call}
use Rattle.check_calls.proofs.nulls.null_called.Goals as goal

pub returns-then-is_in_order : goal.returns-then-is_in_order
returns-then-is_in_order c g h same =
    let s = c.args.signature.now in
    let is = c.if-is_in_order.true in
    let live = subst (IsLiveAround g) (sym same) (c.is_in_order.ensures.live g h is) in
    c.given.ensures
    ∙ ap (λ t. shortened (value c.args.at t)) c.in_ok-same-in-Some.ensures
    ∙ ap shortened (sym (null_call g c.args.at (signature_of s) (map value_of c.args.arguments.now) (static_type c.in-Some.of) live
    (c.is_in_order.ensures.free is) (c.is_in_order.ensures.nulls is) (ap (option_map static_type) c.in-Some.is) (c.is_closed.ensures c.if-is_closed.true)))
