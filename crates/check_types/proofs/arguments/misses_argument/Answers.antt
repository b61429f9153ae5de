use Rattle.std.proofs.Common.{sym, ◌∙◌}
use Rattle.check_types.proofs.Places.{all_written, none_written}
use Rattle.check_types.proofs.arguments.misses_argument.Goals as goal

pub returns-then-is_empty : goal.returns-then-is_empty
returns-then-is_empty c = none_written c.args.count c.args.arguments.now (sym c.is_empty.ensures ∙ c.if-is_empty.true)

pub returns-else-is_empty : goal.returns-else-is_empty
returns-else-is_empty c = c.if-is_empty.false ∙ all_written c.args.count c.args.arguments.now (sym c.is_empty.ensures ∙ c.if-is_empty.false)
