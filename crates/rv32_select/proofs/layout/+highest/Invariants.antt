use Rattle.std.proofs.Common.{◌≡◌, ◌+◌, ◌≤◌, drop}
use Rattle.cyc_core.specs.Trees.{statement_tree, body_tree}
use Rattle.core_lines.specs.Selected.{greater, highest_of, shrunk_of, names_after_all}
use Rattle.rv32_select.proofs.Sizes.{statement_size, statements_size}
use Rattle.rv32_select.proofs.layout.+highest.Given as goal

abbrev pub decreases-highest : goal.decreases-highest
decreases-highest l = statement_size (statement_tree l.statement.now)

abbrev pub decreases-highest_in : goal.decreases-highest_in
decreases-highest_in l = statements_size (body_tree l.body.now) + 1

abbrev pub decreases-highest_of : goal.decreases-highest_of
decreases-highest_of l = statements_size (body_tree l.statements.now)

abbrev pub invariant-highest_of-each : goal.invariant-highest_of-each
invariant-highest_of-each l = record {
  whole : greater l.most (highest_of l.low (shrunk_of (drop l.named l.homes) (body_tree (drop l.statement-index l.statements)))) ≡
      highest_of l.low (shrunk_of (drop l.initial.named l.homes) (body_tree l.statements));
  names : names_after_all (body_tree (drop l.statement-index l.statements)) (drop l.named l.homes) ≡
      names_after_all (body_tree l.statements) (drop l.initial.named l.homes);
  size : statements_size (body_tree (drop l.statement-index l.statements)) ≤ statements_size (body_tree l.statements);
}
