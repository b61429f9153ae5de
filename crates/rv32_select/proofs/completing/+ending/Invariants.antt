use Rattle.std.proofs.Common.{◌≡◌, ◌≤◌, drop}
use Rattle.cyc_core.specs.Trees.{statement_tree, body_tree}
use Rattle.core_lines.specs.Completing.{ends_in_return_all}
use Rattle.rv32_select.proofs.Sizes.{statement_size, statements_size}
use Rattle.rv32_select.proofs.completing.+ending.Given as goal

abbrev pub decreases-ends_in_return : goal.decreases-ends_in_return
decreases-ends_in_return l = statement_size (statement_tree l.statement.now)

abbrev pub decreases-ends_in_return_all : goal.decreases-ends_in_return_all
decreases-ends_in_return_all l = statements_size (body_tree l.body.now)

-- those that are left decide
abbrev pub invariant-ends_in_return_all-each : goal.invariant-ends_in_return_all-each
invariant-ends_in_return_all-each l = record {
  rest : ends_in_return_all (body_tree (drop l.statement-index l.body)) ≡ ends_in_return_all (body_tree l.body);
  size : statements_size (body_tree (drop l.statement-index l.body)) ≤ statements_size (body_tree l.body);
}
