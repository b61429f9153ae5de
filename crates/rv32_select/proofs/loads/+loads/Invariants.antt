use Rattle.std.proofs.Common.{◌≡◌, ◌+◌, ◌≤◌, true, drop}
use Rattle.cyc_core.specs.Trees.{statement_tree, body_tree}
use Rattle.core_lines.specs.Held.{held_behind_all}
use Rattle.core_lines.specs.Loaded.{loads_of}
use Rattle.core_lines.specs.Saved.{all_flagged}
use Rattle.core_lines.specs.Selected.{names_after_all, holding, naming}
use Rattle.rv32_select.specs.Places.{surroundings}
use Rattle.rv32_select.proofs.Sizes.{statement_size, statements_size}
use Rattle.rv32_select.proofs.loads.+loads.Given as goal

abbrev pub decreases-flag_statement : goal.decreases-flag_statement
decreases-flag_statement l = statement_size (statement_tree l.statement.now)

abbrev pub decreases-flag_all : goal.decreases-flag_all
decreases-flag_all l = statements_size (body_tree l.statements.now)

abbrev pub decreases-flag_if : goal.decreases-flag_if
decreases-flag_if l = statements_size (body_tree l.these.now) + statements_size (body_tree l.those.now) + 1

abbrev pub decreases-flag_while : goal.decreases-flag_while
decreases-flag_while l = statements_size (body_tree l.test.now) + statements_size (body_tree l.body.now) + 1

abbrev pub decreases-flag_block : goal.decreases-flag_block
decreases-flag_block l = statements_size (body_tree l.body.now) + 1

-- what is flagged, and what the statements that are left load, is what all of them load; the place is the same but for names
abbrev pub invariant-flag_all-each : goal.invariant-flag_all-each
invariant-flag_all-each l = record {
  flags : all_flagged true (loads_of (surroundings l.initial.place).homes (surroundings l.initial.place).statics (surroundings l.place).names
      (surroundings l.place).held (body_tree (drop l.statement-index l.statements))) l.flags ≡
      all_flagged true (loads_of (surroundings l.initial.place).homes (surroundings l.initial.place).statics (surroundings l.initial.place).names
      (surroundings l.initial.place).held (body_tree l.statements)) l.initial.flags;
  same : surroundings l.place ≡ holding (surroundings l.place).held (naming (surroundings l.place).names (surroundings l.initial.place));
  names : names_after_all (body_tree (drop l.statement-index l.statements)) (surroundings l.place).names ≡
      names_after_all (body_tree l.statements) (surroundings l.initial.place).names;
  held : held_behind_all (surroundings l.initial.place).homes (surroundings l.initial.place).statics (surroundings l.place).held
      (body_tree (drop l.statement-index l.statements)) ≡
      held_behind_all (surroundings l.initial.place).homes (surroundings l.initial.place).statics (surroundings l.initial.place).held (body_tree l.statements);
  homes : l.place.homes.items ≡ l.initial.place.homes.items;
  size : statements_size (body_tree (drop l.statement-index l.statements)) ≤ statements_size (body_tree l.statements);
}
