-- Loops that lose locals, by the rules and by what is told of their phrases.
use Rattle.std.proofs.Common.{◌≡◌, refl, Some, None, [], ◌∷◌}
use Rattle.cyc_tree.specs.Tree as tree
use Rattle.cyc_tree.specs.Tree.{Array, Declare, Execute, Expression, Initializer, MoreExpressions, NoExpressions, NoItems, Statement}
use Rattle.source_typing.specs.Faults.{consumed_rule, earliest, fault}
use Rattle.source_typing.specs.Left.{flow_faults}
use Rattle.check_faults.specs.Faults.{faults_of}
use Rattle.flow_summaries.proofs.SampleTrees.{fat_at, free_function_at, main_at, name_at, null_at, number_at, variable_at}
use Rattle.flow_summaries.specs.Statements.{fault_of_flow}

-- A local that is freed in each turn of a loop, and made again, is held at the loop's head and after it.
-- int main() { int *`U p = NULL; while (1) { ufree(p); p = NULL; } ufree(p); return 0; }
abbrev made_again : tree.Program
made_again =
    main_at 0 (Declare (null_at 13 "p") (Execute (Statement.While 31 (number_at 38 1) (Statement.Block 41 (Execute (Statement.FreeUnique 43 (name_at
    49 "p")) (Execute (Statement.Run (Expression.Assign (variable_at 53 "p") (Expression.Null 57))) NoItems)))) (Execute (Statement.FreeUnique 65
    (name_at 71 "p")) (Execute (Statement.Return 75 (Some (number_at 82 0))) NoItems)))) 85 ∷ []

made_again_flows : earliest (flow_faults made_again) ≡ None
made_again_flows = refl

made_again_passes : faults_of (fault_of_flow made_again) ≡ None
made_again_passes = refl

-- One that isn't made again is gone at the head, so the turn itself has a fault.
-- int main() { int *`U p = NULL; while (1) { ufree(p); } return 0; }
abbrev freed_again : tree.Program
freed_again =
    main_at 0 (Declare (null_at 13 "p") (Execute (Statement.While 31 (number_at 38 1) (Statement.Block 41 (Execute (Statement.FreeUnique 43 (name_at
    49 "p")) NoItems))) (Execute (Statement.Return 55 (Some (number_at 62 0))) NoItems))) 65 ∷ []

freed_again_flows : earliest (flow_faults freed_again) ≡ Some (fault consumed_rule 49)
freed_again_flows = refl

freed_again_passes : faults_of (fault_of_flow freed_again) ≡ Some (fault consumed_rule 49)
freed_again_passes = refl

-- Of two loops, one in the other, each loses a local; the outer one's head loses both.
-- int main() { int *`U p = NULL; int *`U q = NULL; while (1) { ufree(q); while (1) { ufree(p); q = NULL; } } return 0; }
abbrev nested_loops : tree.Program
nested_loops =
    main_at 0 (Declare (null_at 13 "p") (Declare (null_at 31 "q") (Execute (Statement.While 49 (number_at 56 1) (Statement.Block 59 (Execute
    (Statement.FreeUnique 61 (name_at 67 "q")) (Execute (Statement.While 71 (number_at 78 1) (Statement.Block 81 (Execute (Statement.FreeUnique 83
    (name_at 89 "p")) (Execute (Statement.Run (Expression.Assign (variable_at 93 "q") (Expression.Null 97))) NoItems)))) NoItems)))) (Execute
    (Statement.Return 107 (Some (number_at 114 0))) NoItems)))) 117 ∷ []

nested_loops_flows : earliest (flow_faults nested_loops) ≡ Some (fault consumed_rule 67)
nested_loops_flows = refl

nested_loops_passes : faults_of (fault_of_flow nested_loops) ≡ Some (fault consumed_rule 67)
nested_loops_passes = refl

-- A loop that is left by a `break` leaves what it is left with there.
-- int main() { int *`U p = NULL; while (1) { ufree(p); if (1) break; p = NULL; } ufree(p); return 0; }
abbrev left_by_break : tree.Program
left_by_break =
    main_at 0 (Declare (null_at 13 "p") (Execute (Statement.While 31 (number_at 38 1) (Statement.Block 41 (Execute (Statement.FreeUnique 43 (name_at
    49 "p")) (Execute (Statement.If 53 (number_at 57 1) (Statement.Break 60)) (Execute (Statement.Run (Expression.Assign (variable_at 67 "p")
    (Expression.Null 71))) NoItems))))) (Execute (Statement.FreeUnique 79 (name_at 85 "p")) (Execute (Statement.Return 89 (Some (number_at 96 0)))
    NoItems)))) 99 ∷ []

left_by_break_flows : earliest (flow_faults left_by_break) ≡ Some (fault consumed_rule 85)
left_by_break_flows = refl

left_by_break_passes : faults_of (fault_of_flow left_by_break) ≡ Some (fault consumed_rule 85)
left_by_break_passes = refl

-- Elements are a loop: what one of them gives away is gone for the next.
-- int f(int *`U p) { ufree(p); return 0; } int main() { int *`U p = NULL; int ?x = new {for i < 2 : f(p)}; return 0; }
abbrev moved_by_elements : tree.Program
moved_by_elements =
    free_function_at 0 ∷ main_at 41 (Declare (null_at 54 "p") (Declare (tree.Local (fat_at 72) (name_at 77 "x") (Initializer.Value (Expression.New 81
    (Array (name_at 90 "i") (number_at 94 2) (Expression.Call (name_at 98 "f") (MoreExpressions (variable_at 100 "p") NoExpressions)))))) (Execute
    (Statement.Return 105 (Some (number_at 112 0))) NoItems))) 115 ∷ []

moved_by_elements_flows : earliest (flow_faults moved_by_elements) ≡ Some (fault consumed_rule 100)
moved_by_elements_flows = refl

moved_by_elements_passes : faults_of (fault_of_flow moved_by_elements) ≡ Some (fault consumed_rule 100)
moved_by_elements_passes = refl

-- What the second operand of `&&` gives away is gone after it.
-- int f(int *`U p) { ufree(p); return 0; } int main() { int *`U p = NULL; if (1 && f(p)) ; ufree(p); return 0; }
abbrev moved_maybe : tree.Program
moved_maybe =
    free_function_at 0 ∷ main_at 41 (Declare (null_at 54 "p") (Execute (Statement.If 72 (Expression.AllOf (number_at 76 1) (MoreExpressions
    (Expression.Call (name_at 81 "f") (MoreExpressions (variable_at 83 "p") NoExpressions)) NoExpressions)) (Statement.Empty 87)) (Execute
    (Statement.FreeUnique 89 (name_at 95 "p")) (Execute (Statement.Return 99 (Some (number_at 106 0))) NoItems)))) 109 ∷ []

moved_maybe_flows : earliest (flow_faults moved_maybe) ≡ Some (fault consumed_rule 95)
moved_maybe_flows = refl

moved_maybe_passes : faults_of (fault_of_flow moved_maybe) ≡ Some (fault consumed_rule 95)
moved_maybe_passes = refl
