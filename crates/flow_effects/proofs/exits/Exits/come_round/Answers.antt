use Rattle.std.proofs.Common.{Some, ap, sym, ◌∙◌, ◌≡◌}
use Rattle.flow_summaries.specs.Effects.{Effects, met_ways, then_effects, then_way, to_head}
use Rattle.flow_summaries.specs.Exits.{ends_after}
use Rattle.flow_summaries.specs.Passages.{faults_after}
use Rattle.flow_effects.proofs.Leaving.{looped_is}
use Rattle.flow_effects.specs.Exits.{exits_of}
use Rattle.flow_effects.specs.Passed.{passage_of}
use Rattle.flow_effects.specs.Tables.{effects_in, table_at, way_if}
use Rattle.flow_effects.proofs.exits.Exits.come_round.Goals as goal

pub returns : goal.returns
returns c p e falls =
    let w = exits_of c.args.self in
    let turn = passage_of c.in_ok-turn.turn in
    let head : Effects = to_head (Some turn.effects) in
    let left : Effects = effects_in (table_at c.in_ok-left.left) in
    let is_head : head ≡ to_head (met_ways w.falls w.continues) =
    ap to_head (c.in_ok-turn.ensures.effects
    ∙ ap (λ b. met_ways (way_if b (passage_of c.args.self.whole).effects) w.continues) (sym falls)) in
    let is_left : Some (then_effects head left) ≡ then_way head (met_ways (Some p.effects) w.breaks) =
    ap (then_way head) (c.in_ok-left.ensures ∙ ap (λ d. met_ways (Some d) w.breaks) (sym e)) in
    c.ends_after.ensures
    ∙ ap ends_after c.in_ok-round.ensures
    ∙ looped_is p w head (then_effects head left) (faults_after head turn.faults) is_head is_left (ap (faults_after head) c.in_ok-turn.ensures.faults)
