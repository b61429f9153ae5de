use Rattle.std.proofs.Common.{ap, refl, ◌∙◌}
use Rattle.flow_summaries.specs.Effects.{Holds}
use Rattle.flow_summaries.specs.Exits.{lent_from}
use Rattle.flow_effects.proofs.Passages.{lent_is}
use Rattle.flow_effects.specs.Tables.{passage_in, table_at}
use Rattle.flow_effects.specs.Touches.{Touch, caused_of}
use Rattle.flow_effects.proofs.passed.Passed.lent.Goals as goal

pub returns : goal.returns
returns c =
    let x : Touch = record { effect = Holds; caused = caused_of c.lent_from.result } in
    ap (λ t. passage_in t c.args.self.always) c.in_ok-table.ensures
    ∙ lent_is c.args.at c.args.number x (table_at c.args.self.table) c.args.self.always refl
    (c.lent_from.ensures ∙ ap (λ t. lent_from c.args.at t.caused.lent) c.at.ensures)
