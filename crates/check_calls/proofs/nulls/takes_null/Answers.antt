use Rattle.std.specs.Prelude.{Some, option_map}
use Rattle.std.proofs.Common.{ap, sym, ◌∙◌}
use Rattle.cyc_types.specs.Bases.{base_type}
use Rattle.cyc_types.specs.Types.{static_type}
use Rattle.cyc_types.proofs.Converting.{by_outer}
use Rattle.check_calls.specs.Nulls.{takes_null}
use Rattle.check_calls.proofs.NullCalls.{pointer_takes}
use Rattle.check_calls.proofs.nulls.takes_null.Goals as goal

pub returns-in-Some-outer : goal.returns-in-Some-outer
returns-in-Some-outer c =
    let of = c.in-Some.of in
    c.has_beginning.ensures ∙ pointer_takes c.in-Some-outer.pointer _
    ∙ sym (ap (λ o. takes_null (option_map static_type o)) c.in-Some.is
    ∙ ap (λ t. takes_null (Some t)) (by_outer of.layers.items (base_type of.base) c.in-Some-outer.pointer (sym c.in-Some-outer.ensures)))
