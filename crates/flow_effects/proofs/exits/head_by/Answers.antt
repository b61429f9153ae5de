use Rattle.std.proofs.Common.{Some, ap, sym, ◌∙◌}
use Rattle.flow_summaries.specs.Effects.{to_head}
use Rattle.flow_effects.specs.Tables.{effects_in, way_of}
use Rattle.flow_effects.proofs.exits.head_by.Goals as goal

pub returns-in-None : goal.returns-in-None
returns-in-None c = ap effects_in c.nothing.ensures ∙ ap (λ v. to_head (way_of v)) (sym c.in-None.is)

pub returns-in_ok-head-in-Some : goal.returns-in_ok-head-in-Some
returns-in_ok-head-in-Some c =
    ap effects_in c.joined_to_nothing.ensures
    ∙ ap (λ e. to_head (Some e)) c.in_ok-head-in-Some.ensures
    ∙ ap (λ v. to_head (way_of v)) (sym c.in-Some.is)
