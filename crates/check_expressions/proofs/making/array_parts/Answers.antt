use Rattle.std.proofs.Common.{◌∙◌, ap₂}
use Rattle.check_operators.specs.Goals.{goal_in}
use Rattle.check_faults.specs.Verdicts.{short_of}
use Rattle.check_expressions.specs.Goals.{short_by_parts}
use Rattle.check_expressions.proofs.Makings.{array_answered}
use Rattle.check_expressions.proofs.making.array_parts.Goals as goal

pub returns : goal.returns
returns c =
    c.by_parts.ensures ∙ ap₂ (short_by_parts c.args.at) c.any_misfits-misfits.ensures c.in_ok-made.ensures
    ∙ array_answered c.args.at (short_of goal_in c.args.goal) c.args.count c.args.element c.paired.result c.paired.ensures
