use Rattle.std.proofs.Common.{ap, ◌∙◌}
use Rattle.flow_summaries.specs.Effects.{with_number}
use Rattle.flow_effects.proofs.Passages.{used_is}
use Rattle.flow_effects.specs.Tables.{table_at}
use Rattle.flow_effects.specs.Touches.{Touch, caused_of, effect_of}
use Rattle.flow_effects.proofs.passed.Passed.used.Goals as goal

pub returns : goal.returns
returns c =
    let x : Touch = record { effect = effect_of c.args.effect; caused = caused_of c.args.caused } in
    rw c.in-Some.is (used_is x c.in-Some.number (table_at c.in_ok-table.table)
    (c.in_ok-table.ensures ∙ ap (λ t. with_number c.in-Some.number x t) c.nothing-2.ensures))
