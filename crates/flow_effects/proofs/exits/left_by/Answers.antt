use Rattle.std.proofs.Common.{Some, ap, subst, sym, ◌≡◌}
use Rattle.flow_summaries.specs.Effects.{met_ways}
use Rattle.flow_effects.specs.Tables.{effects_in, table_at, way_of}
use Rattle.flow_effects.proofs.exits.left_by.Goals as goal

pub returns-in_ok-met-in-Some : goal.returns-in_ok-met-in-Some
returns-in_ok-met-in-Some c =
    subst (λ b. Some (effects_in (table_at c.in_ok-met-in-Some.met)) ≡ met_ways (Some (effects_in (table_at c.args.condition))) (way_of b)) (sym c.in-Some.is)
    (ap (λ t. Some (effects_in t)) c.in_ok-met-in-Some.ensures)
