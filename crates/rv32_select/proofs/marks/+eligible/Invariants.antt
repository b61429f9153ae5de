use Rattle.std.proofs.Common.{◌≡◌, ◌+◌, ◌≤◌, ◌++◌, drop, map}
use Rattle.cyc_core.specs.Trees.{statement_tree, body_tree}
use Rattle.core_lines.specs.Homes.{addressed_of, eligible_of}
use Rattle.rv32_select.specs.Marks.{marked}
use Rattle.rv32_select.proofs.Sizes.{statement_size, statements_size}
use Rattle.rv32_select.proofs.marks.+eligible.Given as goal

abbrev pub decreases-put_marks : goal.decreases-put_marks
decreases-put_marks l = statement_size (statement_tree l.statement.now)

abbrev pub decreases-put_both : goal.decreases-put_both
decreases-put_both l = statements_size (body_tree l.first.now) + statements_size (body_tree l.second.now) + 1

abbrev pub decreases-put_block : goal.decreases-put_block
decreases-put_block l = statements_size (body_tree l.body.now) + 1

abbrev pub decreases-put_all : goal.decreases-put_all
decreases-put_all l = statements_size (body_tree l.statements.now)

abbrev pub invariant-put_all-each : goal.invariant-put_all-each
invariant-put_all-each l = record {
  flags : l.flags.items ++ eligible_of (body_tree (drop l.statement-index l.statements)) ≡ l.initial.flags.items ++ eligible_of (body_tree l.statements);
  around : marked (λ o n. addressed_of o n (body_tree (drop l.statement-index l.statements))) 0 (map (λ marks. marks.items) l.around.items) ≡
      marked (λ o n. addressed_of o n (body_tree l.statements)) 0 (map (λ marks. marks.items) l.initial.around.items);
  size : statements_size (body_tree (drop l.statement-index l.statements)) ≤ statements_size (body_tree l.statements);
}
