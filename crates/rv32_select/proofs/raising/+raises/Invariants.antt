use Rattle.cyc_core.specs.Trees.{statement_tree, body_tree}
use Rattle.rv32_select.proofs.Sizes.{statement_size, statements_size}
use Rattle.rv32_select.proofs.raising.+raises.Given as goal

abbrev pub decreases-raises : goal.decreases-raises
decreases-raises l = statement_size (statement_tree l.statement.now)

abbrev pub decreases-raises_only : goal.decreases-raises_only
decreases-raises_only l = statements_size (body_tree l.body.now)
