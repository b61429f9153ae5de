use Rattle.std.proofs.Common.{◌∙◌}
use Rattle.flow_summaries.specs.Passages.{in_turn}
use Rattle.flow_effects.proofs.Leaving.{after_is, same_exits}
use Rattle.flow_effects.specs.Passed.{passage_of}
use Rattle.flow_effects.specs.Tables.{way_of}
use Rattle.flow_effects.proofs.exits.Exits.after.Goals as goal

pub returns : goal.returns
returns c =
    let b = c.args.self.falls in
    let p = passage_of c.args.passed in
    let q = passage_of c.args.self.whole in
    same_exits b (passage_of c.in_turn.result) (in_turn p q) _ _ _ _ c.in_turn.ensures c.in_ok-breaks.ensures c.in_ok-continues.ensures
    ∙ after_is b p q (way_of c.args.self.breaks) (way_of c.args.self.continues)
