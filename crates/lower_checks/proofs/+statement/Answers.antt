mod Branches
mod Rooms
mod Blocks
mod Clauses
mod Cases
mod Switches
use Rattle.lower_checks.proofs.+statement.Goals as goal
use Rattle.lower_checks.proofs.+statement.Answers.Branches as Branches
use Rattle.lower_checks.proofs.+statement.Answers.Rooms as Rooms
use Rattle.lower_checks.proofs.+statement.Answers.Blocks as Blocks
use Rattle.lower_checks.proofs.+statement.Answers.Clauses as Clauses
use Rattle.lower_checks.proofs.+statement.Answers.Cases as Cases
use Rattle.lower_checks.proofs.+statement.Answers.Switches as Switches

pub statement::lower_statement-returns-in-If-clause-writes : goal.statement::lower_statement-returns-in-If-clause-writes
statement::lower_statement-returns-in-If-clause-writes = Branches.statement::lower_statement-returns-in-If-clause-writes

pub statement::lower_statement-returns-in-IfElse-clause-writes : goal.statement::lower_statement-returns-in-IfElse-clause-writes
statement::lower_statement-returns-in-IfElse-clause-writes = Branches.statement::lower_statement-returns-in-IfElse-clause-writes

pub statement::lower_statement-returns-in-While-clause-writes : goal.statement::lower_statement-returns-in-While-clause-writes
statement::lower_statement-returns-in-While-clause-writes = Branches.statement::lower_statement-returns-in-While-clause-writes

pub statement::lower_part-returns-clause-apart : goal.statement::lower_part-returns-clause-apart
statement::lower_part-returns-clause-apart = Branches.statement::lower_part-returns-clause-apart

pub statement::lower_part-returns-clause-part : goal.statement::lower_part-returns-clause-part
statement::lower_part-returns-clause-part = Branches.statement::lower_part-returns-clause-part

pub statement::lower_block-lower_inside-requires : goal.statement::lower_block-lower_inside-requires
statement::lower_block-lower_inside-requires = Blocks.statement::lower_block-lower_inside-requires

pub statement::lower_block-returns-clause-writes : goal.statement::lower_block-returns-clause-writes
statement::lower_block-returns-clause-writes = Blocks.statement::lower_block-returns-clause-writes

pub statement::lower_items-each-init : goal.statement::lower_items-each-init
statement::lower_items-each-init = Blocks.statement::lower_items-each-init

pub statement::lower_items-lower_declared-requires : goal.statement::lower_items-lower_declared-requires
statement::lower_items-lower_declared-requires = Blocks.statement::lower_items-lower_declared-requires

pub statement::lower_items-with-regions-requires : goal.statement::lower_items-with-regions-requires
statement::lower_items-with-regions-requires = Blocks.statement::lower_items-with-regions-requires

pub statement::lower_items-lower_statement-requires : goal.statement::lower_items-lower_statement-requires
statement::lower_items-lower_statement-requires = Blocks.statement::lower_items-lower_statement-requires

pub statement::lower_items-each-preserved : goal.statement::lower_items-each-preserved
statement::lower_items-each-preserved = Blocks.statement::lower_items-each-preserved

pub statement::lower_items-returns-clause-writes : goal.statement::lower_items-returns-clause-writes
statement::lower_items-returns-clause-writes = Blocks.statement::lower_items-returns-clause-writes

pub statement::lower_statement-lower_switch-requires : goal.statement::lower_statement-lower_switch-requires
statement::lower_statement-lower_switch-requires = Switches.statement::lower_statement-lower_switch-requires

pub switch::lower_clause-lower_items-requires : goal.switch::lower_clause-lower_items-requires
switch::lower_clause-lower_items-requires = Clauses.switch::lower_clause-lower_items-requires

pub switch::lower_clause-lower_inside-requires : goal.switch::lower_clause-lower_inside-requires
switch::lower_clause-lower_inside-requires = Clauses.switch::lower_clause-lower_inside-requires

pub switch::lower_clause-returns : goal.switch::lower_clause-returns
switch::lower_clause-returns = Clauses.switch::lower_clause-returns

pub switch::lower_case-lower_clause-clause-requires : goal.switch::lower_case-lower_clause-clause-requires
switch::lower_case-lower_clause-clause-requires = Clauses.switch::lower_case-lower_clause-clause-requires

pub switch::lower_case-returns-clause-writes : goal.switch::lower_case-returns-clause-writes
switch::lower_case-returns-clause-writes = Clauses.switch::lower_case-returns-clause-writes

pub switch::lower_cases-chosen_of-chosen-requires : goal.switch::lower_cases-chosen_of-chosen-requires
switch::lower_cases-chosen_of-chosen-requires = Cases.switch::lower_cases-chosen_of-chosen-requires

pub switch::lower_cases-lower_case-requires : goal.switch::lower_cases-lower_case-requires
switch::lower_cases-lower_case-requires = Cases.switch::lower_cases-lower_case-requires

pub switch::lower_cases-each-preserved : goal.switch::lower_cases-each-preserved
switch::lower_cases-each-preserved = Cases.switch::lower_cases-each-preserved

pub switch::lower_cases-returns-clause-writes : goal.switch::lower_cases-returns-clause-writes
switch::lower_cases-returns-clause-writes = Cases.switch::lower_cases-returns-clause-writes

pub switch::lower_default-each-preserved : goal.switch::lower_default-each-preserved
switch::lower_default-each-preserved = Switches.switch::lower_default-each-preserved

pub switch::lower_default-lower_block-requires : goal.switch::lower_default-lower_block-requires
switch::lower_default-lower_block-requires = Switches.switch::lower_default-lower_block-requires

pub switch::lower_default-returns-in-Default-clause-writes : goal.switch::lower_default-returns-in-Default-clause-writes
switch::lower_default-returns-in-Default-clause-writes = Switches.switch::lower_default-returns-in-Default-clause-writes

pub switch::lower_default-returns-clause-writes : goal.switch::lower_default-returns-clause-writes
switch::lower_default-returns-clause-writes = Switches.switch::lower_default-returns-clause-writes

pub switch::lower_switch-lower_union_place-tag-requires : goal.switch::lower_switch-lower_union_place-tag-requires
switch::lower_switch-lower_union_place-tag-requires = Switches.switch::lower_switch-lower_union_place-tag-requires

pub switch::lower_switch-lower_cases-requires : goal.switch::lower_switch-lower_cases-requires
switch::lower_switch-lower_cases-requires = Switches.switch::lower_switch-lower_cases-requires

pub switch::lower_switch-returns-clause-writes : goal.switch::lower_switch-returns-clause-writes
switch::lower_switch-returns-clause-writes = Switches.switch::lower_switch-returns-clause-writes

pub switch::lower_switch-lower_default-requires : goal.switch::lower_switch-lower_default-requires
switch::lower_switch-lower_default-requires = Switches.switch::lower_switch-lower_default-requires

pub statement::lower_statement-lower_block-requires : goal.statement::lower_statement-lower_block-requires
statement::lower_statement-lower_block-requires = Rooms.statement::lower_statement-lower_block-requires

pub statement::lower_statement-lower_condition-requires : goal.statement::lower_statement-lower_condition-requires
statement::lower_statement-lower_condition-requires = Rooms.statement::lower_statement-lower_condition-requires

pub statement::lower_statement-lower_part-these-requires : goal.statement::lower_statement-lower_part-these-requires
statement::lower_statement-lower_part-these-requires = Rooms.statement::lower_statement-lower_part-these-requires

pub statement::lower_statement-lower_condition-requires-in-IfElse : goal.statement::lower_statement-lower_condition-requires-in-IfElse
statement::lower_statement-lower_condition-requires-in-IfElse = Rooms.statement::lower_statement-lower_condition-requires-in-IfElse

pub statement::lower_statement-lower_part-these-requires-in-IfElse : goal.statement::lower_statement-lower_part-these-requires-in-IfElse
statement::lower_statement-lower_part-these-requires-in-IfElse = Rooms.statement::lower_statement-lower_part-these-requires-in-IfElse

pub statement::lower_statement-lower_part-those-requires : goal.statement::lower_statement-lower_part-those-requires
statement::lower_statement-lower_part-those-requires = Rooms.statement::lower_statement-lower_part-those-requires

pub statement::lower_statement-lower_test-test-requires : goal.statement::lower_statement-lower_test-test-requires
statement::lower_statement-lower_test-test-requires = Rooms.statement::lower_statement-lower_test-test-requires

pub statement::lower_statement-lower_part-turn-requires : goal.statement::lower_statement-lower_part-turn-requires
statement::lower_statement-lower_part-turn-requires = Rooms.statement::lower_statement-lower_part-turn-requires
