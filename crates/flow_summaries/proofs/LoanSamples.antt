-- Loans, by the rules and by what is told of their phrases.
use Rattle.std.proofs.Common.{◌≡◌, refl, Some, None, [], ◌∷◌}
use Rattle.cyc_tree.specs.declared.expression.Prefix.TheVariants.{Dereference}
use Rattle.cyc_tree.specs.Tree as tree
use Rattle.cyc_tree.specs.Tree.{Declare, Execute, Expression, MoreExpressions, NoExpressions, NoItems, Statement}
use Rattle.source_typing.specs.Faults.{consumed_rule, earliest, fault, lent_rule}
use Rattle.source_typing.specs.Left.{flow_faults}
use Rattle.check_faults.specs.Faults.{faults_of}
use Rattle.flow_summaries.proofs.SampleTrees.{alias_type_at, free_function_at, main_at, name_at, null_at, number_at, region_at, variable_at}
use Rattle.flow_summaries.specs.Statements.{fault_of_flow}

-- A loan in a loop ends with each turn.
-- int main() { int *`U p = NULL; while (1) { let alias<`r> int *`r x = p; } ufree(p); return 0; }
abbrev lent_in_turns : tree.Program
lent_in_turns =
    main_at 0 (Declare (null_at 13 "p") (Execute (Statement.While 31 (number_at 38 1) (Statement.Block 41 (Declare (tree.Alias 43 (region_at 53 "r")
    (alias_type_at 57) (name_at 65 "x") (name_at 69 "p")) NoItems))) (Execute (Statement.FreeUnique 74 (name_at 80 "p")) (Execute (Statement.Return
    84 (Some (number_at 91 0))) NoItems)))) 94 ∷ []

lent_in_turns_flows : earliest (flow_faults lent_in_turns) ≡ None
lent_in_turns_flows = refl

lent_in_turns_passes : faults_of (fault_of_flow lent_in_turns) ≡ None
lent_in_turns_passes = refl

-- What is lent isn't freed.
-- int main() { int *`U p = NULL; while (1) { let alias<`r> int *`r x = p; ufree(p); } return 0; }
abbrev freed_while_lent : tree.Program
freed_while_lent =
    main_at 0 (Declare (null_at 13 "p") (Execute (Statement.While 31 (number_at 38 1) (Statement.Block 41 (Declare (tree.Alias 43 (region_at 53 "r")
    (alias_type_at 57) (name_at 65 "x") (name_at 69 "p")) (Execute (Statement.FreeUnique 72 (name_at 78 "p")) NoItems)))) (Execute (Statement.Return
    84 (Some (number_at 91 0))) NoItems))) 94 ∷ []

freed_while_lent_flows : earliest (flow_faults freed_while_lent) ≡ Some (fault lent_rule 78)
freed_while_lent_flows = refl

freed_while_lent_passes : faults_of (fault_of_flow freed_while_lent) ≡ Some (fault lent_rule 78)
freed_while_lent_passes = refl

-- A local that the turn before has freed isn't lent.
-- int main() { int *`U p = NULL; while (1) { { let alias<`r> int *`r x = p; } ufree(p); } return 0; }
abbrev lent_when_gone : tree.Program
lent_when_gone =
    main_at 0 (Declare (null_at 13 "p") (Execute (Statement.While 31 (number_at 38 1) (Statement.Block 41 (Execute (Statement.Block 43 (Declare
    (tree.Alias 45 (region_at 55 "r") (alias_type_at 59) (name_at 67 "x") (name_at 71 "p")) NoItems)) (Execute (Statement.FreeUnique 76 (name_at 82
    "p")) NoItems)))) (Execute (Statement.Return 88 (Some (number_at 95 0))) NoItems))) 98 ∷ []

lent_when_gone_flows : earliest (flow_faults lent_when_gone) ≡ Some (fault consumed_rule 71)
lent_when_gone_flows = refl

lent_when_gone_passes : faults_of (fault_of_flow lent_when_gone) ≡ Some (fault consumed_rule 71)
lent_when_gone_passes = refl

-- A local that is given away and then looked at is Consumed where it is looked at; but a lent one is Lent there.
-- int f(int *`U p) { ufree(p); return 0; } int main() { int *`U p = NULL; { let alias<`r> int *`r x = p; *p = f(p); } return 0; }
abbrev lent_and_given_away : tree.Program
lent_and_given_away =
    free_function_at 0 ∷ main_at 41 (Declare (null_at 54 "p") (Execute (Statement.Block 72 (Declare (tree.Alias 74 (region_at 84 "r") (alias_type_at
    88) (name_at 96 "x") (name_at 100 "p")) (Execute (Statement.Run (Expression.Assign (Expression.Prefixed 103 Dereference (variable_at 104 "p"))
    (Expression.Call (name_at 108 "f") (MoreExpressions (variable_at 110 "p") NoExpressions)))) NoItems))) (Execute (Statement.Return 116 (Some
    (number_at 123 0))) NoItems))) 126 ∷ []

lent_and_given_away_flows : earliest (flow_faults lent_and_given_away) ≡ Some (fault lent_rule 104)
lent_and_given_away_flows = refl

lent_and_given_away_passes : faults_of (fault_of_flow lent_and_given_away) ≡ Some (fault lent_rule 104)
lent_and_given_away_passes = refl

-- int f(int *`U p) { ufree(p); return 0; } int main() { int *`U p = NULL; *p = f(p); return 0; }
abbrev given_away_and_looked_at : tree.Program
given_away_and_looked_at =
    free_function_at 0 ∷ main_at 41 (Declare (null_at 54 "p") (Execute (Statement.Run (Expression.Assign (Expression.Prefixed 72 Dereference
    (variable_at 73 "p")) (Expression.Call (name_at 77 "f") (MoreExpressions (variable_at 79 "p") NoExpressions)))) (Execute (Statement.Return 83
    (Some (number_at 90 0))) NoItems))) 93 ∷ []

given_away_and_looked_at_flows : earliest (flow_faults given_away_and_looked_at) ≡ Some (fault consumed_rule 73)
given_away_and_looked_at_flows = refl

given_away_and_looked_at_passes : faults_of (fault_of_flow given_away_and_looked_at) ≡ Some (fault consumed_rule 73)
given_away_and_looked_at_passes = refl
