use Rattle.std.proofs.Common.{Some, ap, subst, sym, ◌≡◌}
use Rattle.flow_summaries.specs.Effects.{then_way}
use Rattle.flow_effects.specs.Tables.{effects_in, table_at, way_of}
use Rattle.flow_effects.proofs.ways.after.Goals as goal

pub returns-in_ok-joined-in-Some : goal.returns-in_ok-joined-in-Some
returns-in_ok-joined-in-Some c =
    subst (λ w. Some (effects_in (table_at c.in_ok-joined-in-Some.field-0)) ≡ then_way (effects_in (table_at c.args.first.now)) (way_of w)) (sym c.in-Some.is)
    (ap (λ t. Some (effects_in t)) c.in_ok-joined-in-Some.ensures)
