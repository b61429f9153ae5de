use Rattle.std.proofs.Common.{ap}
use Rattle.cyc_tree.specs.View.{expression_tree}
use Rattle.flow_summaries.specs.Exits.{switch_left, with_passage}
use Rattle.flow_summaries.specs.Expressions.{uses_of}
use Rattle.flow_effects.specs.Exits.{exits_of}
use Rattle.flow_check.proofs.Told.{answers_as}
use Rattle.flow_check.proofs.statement.switch_after.Goals as goal

pub returns : goal.returns
returns c g known locals =
    let look = (uses_of g (expression_tree c.args.place.now)).look in
    answers_as c.after_look.result _ (with_passage look (switch_left (exits_of c.args.clauses))) (ap (with_passage look) c.in_ok-ways.ensures)
    (c.after_look.ensures g known locals)
