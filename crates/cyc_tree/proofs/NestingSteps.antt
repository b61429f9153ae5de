-- What the functions that answer how deep a part nests are proved by: the depths of lists, the depths inside a phrase, and the forms of the tree.
use Rattle.std.proofs.lemmas.Grind.{common_steps}
use Rattle.cyc_tree.proofs.Forms.{call_tree, make_union_tree, num_elts_tree, grouped_tree, suffixed_tree, prefixed_tree, new_tree, new_in_tree, chain_tree}
use Rattle.cyc_tree.proofs.Forms.{all_of_tree, any_of_tree, assign_tree, link_parts}
use Rattle.cyc_tree.proofs.PartForms.{array_tree, index_tree, dot_tree, arrow_tree, clause_parts}
use Rattle.cyc_tree.proofs.StatementForms.{block_tree, run_tree, exchange_tree, if_tree, if_else_tree, while_tree, switch_tree, return_tree, declare_tree}
use Rattle.cyc_tree.proofs.StatementForms.{execute_tree}
use Rattle.cyc_tree.proofs.PartDepths.{greatest_both, inner_some, inner_deeper, made_deeper, arguments_deeper, suffixes_deeper, statement_deeper, items_deeper}
use Rattle.cyc_tree.proofs.PartDepths.{clauses_deeper}

pub ruleset expression_depths = (common_steps, greatest_both, inner_some, inner_deeper, made_deeper, arguments_deeper, suffixes_deeper)

pub ruleset primary_forms = (call_tree, make_union_tree, num_elts_tree, grouped_tree, suffixed_tree, index_tree, dot_tree, arrow_tree)

pub ruleset other_forms = (prefixed_tree, new_tree, new_in_tree, array_tree, chain_tree, link_parts, all_of_tree, any_of_tree, assign_tree)

pub ruleset in_expressions = (expression_depths, primary_forms, other_forms)

pub ruleset statement_depths = (common_steps, greatest_both, inner_deeper, statement_deeper, items_deeper, clauses_deeper)

pub ruleset statement_forms = (block_tree, run_tree, exchange_tree, if_tree, if_else_tree, while_tree, switch_tree, return_tree)

pub ruleset in_statements = (statement_depths, statement_forms, declare_tree, execute_tree, clause_parts)
