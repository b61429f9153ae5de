use Rattle.std.proofs.Common.{◌≡◌, ◌≤◌, drop}
use Rattle.cyc_core.specs.Trees.{statement_tree, body_tree}
use Rattle.core_lines.specs.Completing.{can_complete_all}
use Rattle.rv32_select.proofs.Sizes.{statement_size, statements_size}
use Rattle.rv32_select.proofs.completing.+completing.Given as goal

abbrev pub decreases-can_complete : goal.decreases-can_complete
decreases-can_complete l = statement_size (statement_tree l.statement.now)

abbrev pub decreases-can_complete_all : goal.decreases-can_complete_all
decreases-can_complete_all l = statements_size (body_tree l.body.now)

-- those that are left decide
abbrev pub invariant-can_complete_all-each : goal.invariant-can_complete_all-each
invariant-can_complete_all-each l = record {
  rest : can_complete_all (body_tree (drop l.statement-index l.body)) ≡ can_complete_all (body_tree l.body);
  size : statements_size (body_tree (drop l.statement-index l.body)) ≤ statements_size (body_tree l.body);
}
