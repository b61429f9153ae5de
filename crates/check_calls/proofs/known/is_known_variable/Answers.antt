use Rattle.std.proofs.Common.{◌∙◌}
use Rattle.check_calls.proofs.Holding.{known_within, unknown_beyond}
use Rattle.check_calls.proofs.known.is_known_variable.Goals as goal

pub returns-then-variable-fixings : goal.returns-then-variable-fixings
returns-then-variable-fixings c =
    c.stands_for_one.ensures ∙ known_within c.args.fixings.now c.args.variable c.if-variable-fixings.true

pub returns-else-variable-fixings : goal.returns-else-variable-fixings
returns-else-variable-fixings c = unknown_beyond c.args.fixings.now c.args.variable c.if-variable-fixings.false
