use Rattle.std.proofs.Common.{Some, ap, sym, ◌∙◌, ◌≡◌}
use Rattle.flow_summaries.specs.Effects.{met_ways, then_way, to_head}
use Rattle.flow_summaries.specs.Exits.{ends_after}
use Rattle.flow_effects.proofs.Leaving.{looped_is}
use Rattle.flow_effects.specs.Exits.{exits_of}
use Rattle.flow_effects.specs.Passed.{passage_of}
use Rattle.flow_effects.specs.Tables.{effects_in, table_at, way_if}
use Rattle.flow_effects.proofs.exits.Exits.looped.Goals as goal

pub returns-then-self : goal.returns-then-self
returns-then-self c p e = c.come_round.ensures p e c.if-self.true

pub returns : goal.returns
returns c p e =
    let w = exits_of c.args.self in
    let head = effects_in (table_at c.in_ok-head.head) in
    let left = effects_in (table_at c.in_ok-left.left) in
    let is_head : head ≡ to_head (met_ways w.falls w.continues) =
    c.in_ok-head.ensures ∙ ap (λ b. to_head (met_ways (way_if b (passage_of c.args.self.whole).effects) w.continues)) (sym c.if-self.false) in
    let is_left : Some left ≡ then_way head (met_ways (Some p.effects) w.breaks) =
    ap (λ t. Some (effects_in t)) c.in_ok-left.ensures
    ∙ ap (then_way head) c.in_ok-left_by.ensures
    ∙ ap (λ d. then_way head (met_ways (Some d) w.breaks)) (sym e) in
    c.ends_after.ensures
    ∙ ap ends_after c.in_ok-with_effects.ensures
    ∙ looped_is p w head left (passage_of c.in_ok-turn.turn).faults is_head is_left c.in_ok-turn.ensures
