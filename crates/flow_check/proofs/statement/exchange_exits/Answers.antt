use Rattle.std.proofs.Common.{ap, ◌∙◌}
use Rattle.cyc_tree.specs.View.{expression_tree}
use Rattle.flow_summaries.specs.Exits.{ends_after}
use Rattle.flow_summaries.specs.Expressions.{uses_of}
use Rattle.flow_summaries.specs.Passages.{in_turn}
use Rattle.flow_effects.specs.Passed.{passage_of}
use Rattle.flow_check.proofs.statement.exchange_exits.Goals as goal

pub returns : goal.returns
returns c g known locals =
    c.ends_after.ensures ∙ ap ends_after (c.in_turn.ensures ∙ ap (λ p. in_turn p (passage_of c.in_ok-right.right)) (c.in_ok-left.ensures g known locals)
    ∙ ap (in_turn (uses_of g (expression_tree c.args.left.now)).look) (c.in_ok-right.ensures g known locals))
