mod Operators
mod Calls
mod Places
mod Suffixed
mod Wholes
mod Made
use Rattle.lower_checks.proofs.+expression.Goals as goal
use Rattle.lower_checks.proofs.+expression.Answers.Operators as Operators
use Rattle.lower_checks.proofs.+expression.Answers.Calls as Calls
use Rattle.lower_checks.proofs.+expression.Answers.Places as Places
use Rattle.lower_checks.proofs.+expression.Answers.Suffixed as Suffixed
use Rattle.lower_checks.proofs.+expression.Answers.Wholes as Wholes
use Rattle.lower_checks.proofs.+expression.Answers.Made as Made

pub expression::lower_expression-returns-in-Chain-clause-writes : goal.expression::lower_expression-returns-in-Chain-clause-writes
expression::lower_expression-returns-in-Chain-clause-writes = Operators.expression::lower_expression-returns-in-Chain-clause-writes

pub expression::lower_expression-returns-in-AllOf-clause-writes : goal.expression::lower_expression-returns-in-AllOf-clause-writes
expression::lower_expression-returns-in-AllOf-clause-writes = Operators.expression::lower_expression-returns-in-AllOf-clause-writes

pub expression::lower_expression-returns-in-AnyOf-clause-writes : goal.expression::lower_expression-returns-in-AnyOf-clause-writes
expression::lower_expression-returns-in-AnyOf-clause-writes = Operators.expression::lower_expression-returns-in-AnyOf-clause-writes

pub expression::lower_expression-returns-in-Assign-clause-writes : goal.expression::lower_expression-returns-in-Assign-clause-writes
expression::lower_expression-returns-in-Assign-clause-writes = Places.expression::lower_expression-returns-in-Assign-clause-writes

pub expression::lower_expression-returns-in-NewIn-clause-writes : goal.expression::lower_expression-returns-in-NewIn-clause-writes
expression::lower_expression-returns-in-NewIn-clause-writes = Made.expression::lower_expression-returns-in-NewIn-clause-writes

pub expression::lower_expression-returns-in-New-clause-writes : goal.expression::lower_expression-returns-in-New-clause-writes
expression::lower_expression-returns-in-New-clause-writes = Made.expression::lower_expression-returns-in-New-clause-writes

pub expression::lower_expression-returns-in-Suffixed-clause-writes : goal.expression::lower_expression-returns-in-Suffixed-clause-writes
expression::lower_expression-returns-in-Suffixed-clause-writes = Places.expression::lower_expression-returns-in-Suffixed-clause-writes

pub operands::lower_all-each-preserved : goal.operands::lower_all-each-preserved
operands::lower_all-each-preserved = Operators.operands::lower_all-each-preserved

pub operands::lower_any-each-preserved : goal.operands::lower_any-each-preserved
operands::lower_any-each-preserved = Operators.operands::lower_any-each-preserved

pub operands::lower_links-each-preserved : goal.operands::lower_links-each-preserved
operands::lower_links-each-preserved = Operators.operands::lower_links-each-preserved

pub place::lower_place-returns-in-Suffixed-clause-writes : goal.place::lower_place-returns-in-Suffixed-clause-writes
place::lower_place-returns-in-Suffixed-clause-writes = Places.place::lower_place-returns-in-Suffixed-clause-writes

pub place::lower_put-returns-in-Suffixed : goal.place::lower_put-returns-in-Suffixed
place::lower_put-returns-in-Suffixed = Places.place::lower_put-returns-in-Suffixed

pub place::lower_indices-lower_subscript-to-requires : goal.place::lower_indices-lower_subscript-to-requires
place::lower_indices-lower_subscript-to-requires = Suffixed.place::lower_indices-lower_subscript-to-requires

pub place::lower_indices-each-preserved : goal.place::lower_indices-each-preserved
place::lower_indices-each-preserved = Suffixed.place::lower_indices-each-preserved

pub place::lower_indices-returns-clause-writes : goal.place::lower_indices-returns-clause-writes
place::lower_indices-returns-clause-writes = Suffixed.place::lower_indices-returns-clause-writes

pub place::lower_suffixed-lower_indices-behind-requires : goal.place::lower_suffixed-lower_indices-behind-requires
place::lower_suffixed-lower_indices-behind-requires = Suffixed.place::lower_suffixed-lower_indices-behind-requires

pub place::lower_suffixed-lower_first-reached-requires : goal.place::lower_suffixed-lower_first-reached-requires
place::lower_suffixed-lower_first-reached-requires = Suffixed.place::lower_suffixed-lower_first-reached-requires

pub place::lower_suffixed-follow-requires : goal.place::lower_suffixed-follow-requires
place::lower_suffixed-follow-requires = Suffixed.place::lower_suffixed-follow-requires

pub place::lower_suffixed-returns-clause-writes : goal.place::lower_suffixed-returns-clause-writes
place::lower_suffixed-returns-clause-writes = Suffixed.place::lower_suffixed-returns-clause-writes

pub place::lower_suffixed-returns-clause-place : goal.place::lower_suffixed-returns-clause-place
place::lower_suffixed-returns-clause-place = Suffixed.place::lower_suffixed-returns-clause-place

pub place::lower_suffixed-returns-clause-shape : goal.place::lower_suffixed-returns-clause-shape
place::lower_suffixed-returns-clause-shape = Suffixed.place::lower_suffixed-returns-clause-shape

pub operands::lower_arguments-each-preserved : goal.operands::lower_arguments-each-preserved
operands::lower_arguments-each-preserved = Calls.operands::lower_arguments-each-preserved

pub whole::lower_members-rounded-requires : goal.whole::lower_members-rounded-requires
whole::lower_members-rounded-requires = Wholes.whole::lower_members-rounded-requires

pub whole::lower_members-overflow_add-slot-in-each : goal.whole::lower_members-overflow_add-slot-in-each
whole::lower_members-overflow_add-slot-in-each = Wholes.whole::lower_members-overflow_add-slot-in-each

pub whole::lower_made-lower_members-requires : goal.whole::lower_made-lower_members-requires
whole::lower_made-lower_members-requires = Wholes.whole::lower_made-lower_members-requires

pub whole::lower_members-each-preserved : goal.whole::lower_members-each-preserved
whole::lower_members-each-preserved = Wholes.whole::lower_members-each-preserved

pub whole::lower_members-returns : goal.whole::lower_members-returns
whole::lower_members-returns = Wholes.whole::lower_members-returns

pub whole::lower_made-returns-in-Some : goal.whole::lower_made-returns-in-Some
whole::lower_made-returns-in-Some = Wholes.whole::lower_made-returns-in-Some

pub whole::lower_union-lower_held-requires : goal.whole::lower_union-lower_held-requires
whole::lower_union-lower_held-requires = Wholes.whole::lower_union-lower_held-requires

pub whole::lower_member-lower_struct_member-requires : goal.whole::lower_member-lower_struct_member-requires
whole::lower_member-lower_struct_member-requires = Wholes.whole::lower_member-lower_struct_member-requires

pub whole::lower_union-returns : goal.whole::lower_union-returns
whole::lower_union-returns = Wholes.whole::lower_union-returns

pub place::lower_through-returns : goal.place::lower_through-returns
place::lower_through-returns = Places.place::lower_through-returns

pub whole::lower_read-lower_copied-requires : goal.whole::lower_read-lower_copied-requires
whole::lower_read-lower_copied-requires = Wholes.whole::lower_read-lower_copied-requires

pub whole::lower_read-returns : goal.whole::lower_read-returns
whole::lower_read-returns = Wholes.whole::lower_read-returns

pub operands::lower_apart-returns : goal.operands::lower_apart-returns
operands::lower_apart-returns = Calls.operands::lower_apart-returns

pub operands::lower_called-lower_call-requires : goal.operands::lower_called-lower_call-requires
operands::lower_called-lower_call-requires = Calls.operands::lower_called-lower_call-requires

pub operands::lower_called-returns-in-Ok-clause-writes : goal.operands::lower_called-returns-in-Ok-clause-writes
operands::lower_called-returns-in-Ok-clause-writes = Calls.operands::lower_called-returns-in-Ok-clause-writes

pub made::lower_one-returns-in-Struct-clause-writes : goal.made::lower_one-returns-in-Struct-clause-writes
made::lower_one-returns-in-Struct-clause-writes = Made.made::lower_one-returns-in-Struct-clause-writes

pub made::lower_new-returns-in-Array-clause-writes : goal.made::lower_new-returns-in-Array-clause-writes
made::lower_new-returns-in-Array-clause-writes = Made.made::lower_new-returns-in-Array-clause-writes

pub made::lower_new-returns-in-Array-clause-shape : goal.made::lower_new-returns-in-Array-clause-shape
made::lower_new-returns-in-Array-clause-shape = Made.made::lower_new-returns-in-Array-clause-shape

pub array::lower_array-lower_elements-requires : goal.array::lower_array-lower_elements-requires
array::lower_array-lower_elements-requires = Made.array::lower_array-lower_elements-requires

pub array::lower_array-returns-in-Ok-clause-writes : goal.array::lower_array-returns-in-Ok-clause-writes
array::lower_array-returns-in-Ok-clause-writes = Made.array::lower_array-returns-in-Ok-clause-writes

pub array::lower_array-returns-in-Ok-clause-shape : goal.array::lower_array-returns-in-Ok-clause-shape
array::lower_array-returns-in-Ok-clause-shape = Made.array::lower_array-returns-in-Ok-clause-shape

pub array::lower_loop-returns : goal.array::lower_loop-returns
array::lower_loop-returns = Made.array::lower_loop-returns

pub array::lower_indexed-returns : goal.array::lower_indexed-returns
array::lower_indexed-returns = Made.array::lower_indexed-returns

pub array::lower_elements-returns-clause-writes : goal.array::lower_elements-returns-clause-writes
array::lower_elements-returns-clause-writes = Made.array::lower_elements-returns-clause-writes
