use Rattle.std.proofs.Common.{◌≡◌, ◌+◌, ◌*◌, ◌≤◌, ◌++◌, [], drop, if◌then◌else◌}
use Rattle.cyc_core.specs.Trees.{statement_tree, body_tree}
use Rattle.core_lines.specs.Held.{held_behind_all}
use Rattle.core_lines.specs.Selected.{statements_code, labels_of, names_after_all, holding, naming}
use Rattle.core_lines.specs.Saved.{results_all}
use Rattle.rv32_select.specs.Places.{surroundings, saves_left}
use Rattle.rv32_select.proofs.Sizes.{statement_size, statements_size}
use Rattle.rv32_select.proofs.Stepping.{code_left}
use Rattle.rv32_select.proofs.statement.+statement.Given as goal

abbrev pub decreases-put_statement : goal.decreases-put_statement
decreases-put_statement l = 2 * statement_size (statement_tree l.statement.now)

abbrev pub decreases-put_first : goal.decreases-put_first
decreases-put_first l = 2 * statement_size (statement_tree l.statement.now) + 1

abbrev pub decreases-put_statements : goal.decreases-put_statements
decreases-put_statements l = 2 * statements_size (body_tree l.statements.now)

abbrev pub decreases-put_if : goal.decreases-put_if
decreases-put_if l = 2 * (statements_size (body_tree l.these.now) + statements_size (body_tree l.those.now)) + 3

abbrev pub decreases-put_ways : goal.decreases-put_ways
decreases-put_ways l = 2 * (statements_size (body_tree l.these.now) + statements_size (body_tree l.those.now)) + 2

abbrev pub decreases-put_while : goal.decreases-put_while
decreases-put_while l = 2 * (statements_size (body_tree l.test.now) + statements_size (body_tree l.body.now)) + 2

abbrev pub decreases-put_block : goal.decreases-put_block
decreases-put_block l = 2 * statements_size (body_tree l.body.now) + 1

abbrev pub decreases-put_leavable : goal.decreases-put_leavable
decreases-put_leavable l = 2 * statements_size (body_tree l.body.now) + 1

-- what is appended, and the code of the statements that are left, is the code of all; so with the labels; the place is the same but for names
abbrev pub invariant-put_statements-each : goal.invariant-put_statements-each
invariant-put_statements-each l = record {
  code : l.lines.items ++ (if l.reached then
      code_left l.placed (saves_left l.place) (surroundings l.place) l.free l.ways.out l.ways.again (body_tree (drop l.statement-index l.statements)) else []) ≡
      l.initial.lines.items ++
      statements_code (saves_left l.initial.place) (surroundings l.initial.place) l.next l.ways.out l.ways.again (body_tree l.statements);
  free : l.free + labels_of (body_tree (drop l.statement-index l.statements)) ≡ l.next + labels_of (body_tree l.statements);
  same : surroundings l.place ≡ holding (surroundings l.place).held (naming (surroundings l.place).names (surroundings l.initial.place));
  names : names_after_all (body_tree (drop l.statement-index l.statements)) (surroundings l.place).names ≡
      names_after_all (body_tree l.statements) (surroundings l.initial.place).names;
  held : held_behind_all (surroundings l.initial.place).homes (surroundings l.initial.place).statics (surroundings l.place).held
      (body_tree (drop l.statement-index l.statements)) ≡
      held_behind_all (surroundings l.initial.place).homes (surroundings l.initial.place).statics (surroundings l.initial.place).held (body_tree l.statements);
  saves : drop (results_all (body_tree (drop l.statement-index l.statements))) (saves_left l.place) ≡
      drop (results_all (body_tree l.statements)) (saves_left l.initial.place);
  behind : l.behind ≡ drop l.statement-index l.statements;
  size : statements_size (body_tree (drop l.statement-index l.statements)) ≤ statements_size (body_tree l.statements);
}
