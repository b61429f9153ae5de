use Rattle.std.proofs.Common.{◌≡◌, ◌+◌, ◌*◌, ◌≤◌, ◌++◌, length, map, reverse, take}
use Rattle.cyc_core.specs.Trees.{statement_tree, body_tree}
use Rattle.core_lines.specs.Saved.{live_of, saves_of}
use Rattle.core_lines.specs.Selected.{holding, naming}
use Rattle.rv32_select.specs.Places.{surroundings}
use Rattle.rv32_select.specs.Starts.{point_start, starts_of}
use Rattle.rv32_select.proofs.Sizes.{statement_size, statements_size}
use Rattle.rv32_select.proofs.live.+live.Given as goal

abbrev pub decreases-live_statement : goal.decreases-live_statement
decreases-live_statement l = 4 * statement_size (statement_tree l.statement.now)

abbrev pub decreases-live_statements : goal.decreases-live_statements
decreases-live_statements l = 4 * statements_size (body_tree l.statements.now) + 1

abbrev pub decreases-live_few : goal.decreases-live_few
decreases-live_few l = 4 * statements_size (body_tree l.statements.now)

abbrev pub decreases-live_halves : goal.decreases-live_halves
decreases-live_halves l = 4 * statements_size (body_tree l.statements.now)

abbrev pub decreases-live_if : goal.decreases-live_if
decreases-live_if l = 4 * (statements_size (body_tree l.these.now) + statements_size (body_tree l.those.now)) + 5

abbrev pub decreases-live_ways : goal.decreases-live_ways
decreases-live_ways l = 4 * (statements_size (body_tree l.these.now) + statements_size (body_tree l.those.now)) + 4

abbrev pub decreases-live_both : goal.decreases-live_both
decreases-live_both l = 4 * (statements_size (body_tree l.these.now) + statements_size (body_tree l.those.now)) + 3

abbrev pub decreases-live_raising : goal.decreases-live_raising
decreases-live_raising l = 4 * (statements_size (body_tree l.these.now) + statements_size (body_tree l.those.now)) + 3

abbrev pub decreases-live_while : goal.decreases-live_while
decreases-live_while l = 4 * (statements_size (body_tree l.test.now) + statements_size (body_tree l.body.now)) + 4

abbrev pub decreases-live_body : goal.decreases-live_body
decreases-live_body l = 4 * (statements_size (body_tree l.test.now) + statements_size (body_tree l.body.now)) + 3

abbrev pub decreases-live_before : goal.decreases-live_before
decreases-live_before l = 4 * statements_size (body_tree l.statements.now) + 2

abbrev pub decreases-live_block : goal.decreases-live_block
decreases-live_block l = 4 * statements_size (body_tree l.body.now) + 2

abbrev pub decreases-live_leavable : goal.decreases-live_leavable
decreases-live_leavable l = 4 * statements_size (body_tree l.body.now) + 2

abbrev pub decreases-live_few-each : goal.decreases-live_few-each
decreases-live_few-each l = length l.points.items

-- what the statements that are left make of what is loaded so far, and add to what is saved, is what all of them do
abbrev pub invariant-live_few-each : goal.invariant-live_few-each
invariant-live_few-each l = record {
  points : map (point_start l.fn.place.homes.items) l.points.items ≡
      starts_of (surroundings l.fn.place).homes (surroundings l.fn.place).statics (surroundings l.fn.place).names (surroundings l.fn.place).held
      (body_tree (take (length l.points.items) l.statements));
  live : live_of (surroundings l.fn.place).homes (surroundings l.fn.place).statics (surroundings l.fn.place).names (surroundings l.fn.place).held
      l.live l.exits.out.now l.exits.again.now (body_tree (take (length l.points.items) l.statements)) ≡
      live_of (surroundings l.fn.place).homes (surroundings l.fn.place).statics (surroundings l.fn.place).names (surroundings l.fn.place).held
      l.fn.live l.exits.out.now l.exits.again.now (body_tree l.statements);
  saves : l.saves.items ++ reverse (saves_of (surroundings l.fn.place).homes (surroundings l.fn.place).statics (surroundings l.fn.place).names
      (surroundings l.fn.place).held l.live l.exits.out.now l.exits.again.now (body_tree (take (length l.points.items) l.statements))) ≡
      l.fn.saves.items ++ reverse (saves_of (surroundings l.fn.place).homes (surroundings l.fn.place).statics (surroundings l.fn.place).names
      (surroundings l.fn.place).held l.fn.live l.exits.out.now l.exits.again.now (body_tree l.statements));
  same : surroundings l.place ≡ holding (surroundings l.place).held (naming (surroundings l.place).names (surroundings l.fn.place));
  homes : l.place.homes.items ≡ l.fn.place.homes.items;
  few : length l.points.items ≤ length l.statements;
  size : statements_size (body_tree (take (length l.points.items) l.statements)) ≤ statements_size (body_tree l.statements);
}
