use Rattle.std.proofs.Common.{ap}
use Rattle.cyc_tree.specs.View.{expression_tree}
use Rattle.flow_summaries.specs.Exits.{with_passage}
use Rattle.flow_summaries.specs.Expressions.{uses_of}
use Rattle.flow_effects.specs.Exits.{exits_of}
use Rattle.flow_check.proofs.Told.{answers_as}
use Rattle.flow_check.proofs.statement.after_look.Goals as goal

pub returns : goal.returns
returns c g known locals =
    let ways = exits_of c.args.ways in
    answers_as c.after.result _ (with_passage (uses_of g (expression_tree c.args.value.now)).look ways)
    (ap (λ p. with_passage p ways) (c.in_ok-passed.ensures g known locals)) c.after.ensures
