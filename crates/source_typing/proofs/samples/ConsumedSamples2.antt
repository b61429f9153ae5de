-- Locals that are needed after they were moved or freed, and ways that meet.
use Rattle.std.proofs.Common.{◌≡◌, refl, Some, None, [], ◌∷◌}
use Rattle.cyc_tree.specs.declared.expression.Operator.TheVariants.{Less, Add}
use Rattle.cyc_tree.specs.declared.name.Sign.TheVariants as sign
use Rattle.cyc_tree.specs.Tree as tree
use Rattle.cyc_tree.specs.Tree.{Expression, NoExpressions, MoreExpressions, NoLinks, MoreLinks, One, Initializer, Statement, NoItems, Declare, Execute}
use Rattle.source_meaning.proofs.Trees.{pointer}
use Rattle.source_typing.specs.Faults.{fault, type_rule}
use Rattle.source_typing.specs.Answers.{first_fault}
use Rattle.source_typing.proofs.samples.SampleTrees.{name_at, type_at, int_at, number, variable_at, returns, member, structure, routine, main_at}
use Rattle.source_typing.proofs.samples.SampleTrees.{main_returns}

-- int *`U f(int *`U p) { return p; } int main() { return 0; }
consumed_flow_35 : first_fault
    ((tree.FunctionItem (routine (type_at 0 tree.Int ((pointer (sign.Nullable 1) (Some (tree.Unique 5))) ∷ [])) (name_at 8 "f") ((member (type_at 10 tree.Int
    ((pointer (sign.Nullable 1) (Some (tree.Unique 15))) ∷ [])) (name_at 18 "p")) ∷ []) None [] (Execute (returns 23 (variable_at 30 "p")) NoItems) 33)) ∷
    (main_returns 35) ∷ [])
    ≡ None
consumed_flow_35 = refl

-- flow comes after all other rules
-- int f(int *`U p) { ufree(p); ufree(p); return NULL; } int main() { return 0; }
consumed_flow_36 : first_fault
    ((tree.FunctionItem (routine (int_at 0) (name_at 4 "f") ((member (type_at 6 tree.Int ((pointer (sign.Nullable 1) (Some (tree.Unique 11))) ∷ [])) (name_at 14
    "p")) ∷ []) None [] (Execute (Statement.FreeUnique 19 (name_at 25 "p")) (Execute (Statement.FreeUnique 29 (name_at 35 "p")) (Execute (returns 39
    (Expression.Null 46)) NoItems))) 52)) ∷ (main_returns 54) ∷ [])
    ≡ Some (fault type_rule 46)
consumed_flow_36 = refl

-- struct S { int f; }; int main() { while (1) { struct S *`U p = rnew(unique_region) S(1); putchar(46); } }
consumed_flow_37 : first_fault
    ((tree.StructItem (structure 0 (name_at 7 "S") [] ((member (int_at 11) (name_at 15 "f")) ∷ []))) ∷ (main_at 21 (Execute (Statement.While 34 (number 41 1)
    (Statement.Block 44 (Declare (tree.Local
    (type_at 46 (tree.Struct (name_at 53 "S") []) ((pointer (sign.Nullable 1) (Some (tree.Unique 56))) ∷ [])) (name_at 59
    "p") (Initializer.Value (Expression.NewIn 63 (Expression.UniqueRegion 68) (One (Expression.Call (name_at 83 "S") (MoreExpressions (number 85 1)
    NoExpressions)))))) (Execute (Statement.Run (Expression.Call (name_at 89 "putchar") (MoreExpressions (number 97 46) NoExpressions))) NoItems)))) NoItems)
    104) ∷ [])
    ≡ None
consumed_flow_37 = refl

-- struct S { int f; }; int main() { int i = 0; while (i < 1000) { struct S *`U p = rnew(unique_region) S(1); ufree(p); putchar(46); i = i + 1; } }
consumed_flow_38 : first_fault
    ((tree.StructItem (structure 0 (name_at 7 "S") [] ((member (int_at 11) (name_at 15 "f")) ∷ []))) ∷ (main_at 21 (Declare (tree.Local (int_at 34) (name_at 38
    "i") (Initializer.Value (number 42 0))) (Execute (Statement.While 45 (Expression.Chain (variable_at 52 "i") (MoreLinks Less (number 56 1000) NoLinks))
    (Statement.Block 62 (Declare (tree.Local
    (type_at 64 (tree.Struct (name_at 71 "S") []) ((pointer (sign.Nullable 1) (Some (tree.Unique 74))) ∷ [])) (name_at 77
    "p") (Initializer.Value (Expression.NewIn 81 (Expression.UniqueRegion 86) (One (Expression.Call (name_at 101 "S") (MoreExpressions (number 103 1)
    NoExpressions)))))) (Execute (Statement.FreeUnique 107 (name_at 113 "p")) (Execute (Statement.Run (Expression.Call (name_at 117 "putchar")
    (MoreExpressions (number 125 46) NoExpressions))) (Execute (Statement.Run (Expression.Assign (variable_at 130 "i") (Expression.Chain (variable_at 134 "i")
    (MoreLinks Add (number 138 1) NoLinks)))) NoItems)))))) NoItems)) 143) ∷ [])
    ≡ None
consumed_flow_38 = refl
