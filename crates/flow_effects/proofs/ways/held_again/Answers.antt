use Rattle.std.proofs.Common.{Some, ap, option_map, subst, sym, ◌∙◌, ◌≡◌}
use Rattle.flow_summaries.specs.Effects.{Holds, with_number}
use Rattle.flow_effects.proofs.Passages.{number_effect}
use Rattle.flow_effects.specs.Tables.{effects_in, table_at, way_of}
use Rattle.flow_effects.specs.Touches.{Touch, caused_of}
use Rattle.flow_effects.proofs.ways.held_again.Goals as goal

pub returns-in_ok-with-in-Some : goal.returns-in_ok-with-in-Some
returns-in_ok-with-in-Some c =
    let t = table_at c.in-Some.way in
    let n = c.args.number in
    let x : Touch = record { effect = Holds; caused = caused_of c.none.result } in
    subst (λ w. Some (effects_in (table_at c.in_ok-with-in-Some.field-0)) ≡ option_map (with_number n Holds) (way_of w)) (sym c.in-Some.is)
    (ap (λ t. Some (effects_in t)) c.in_ok-with-in-Some.ensures ∙ (λ j. Some (λ i. number_effect n x t i j)))
