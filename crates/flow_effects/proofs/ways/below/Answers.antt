use Rattle.std.proofs.Common.{Some, ap, subst, sym, ◌∙◌, ◌≡◌}
use Rattle.flow_summaries.specs.Effects.{way_below}
use Rattle.flow_effects.proofs.Passages.{below_effect}
use Rattle.flow_effects.specs.Tables.{effects_in, table_at, way_of}
use Rattle.flow_effects.proofs.ways.below.Goals as goal

pub returns-in-Some : goal.returns-in-Some
returns-in-Some c =
    let t = table_at c.in-Some.way in
    subst (λ w. Some (effects_in (table_at c.below.result)) ≡ way_below c.args.count (way_of w)) (sym c.in-Some.is)
    (ap (λ t. Some (effects_in t)) c.below.ensures ∙ (λ j. Some (λ i. below_effect c.args.count t i j)))
