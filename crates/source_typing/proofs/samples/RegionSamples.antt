-- Wrong region names, and regions that aren't live.
use Rattle.std.proofs.Common.{◌≡◌, refl, false, Some, None, [], ◌∷◌}
use Rattle.cyc_tree.specs.declared.expression.Operator.TheVariants.{Add}
use Rattle.cyc_tree.specs.declared.expression.Prefix.TheVariants.{Dereference, AddressOf}
use Rattle.cyc_tree.specs.declared.name.Sign.TheVariants as sign
use Rattle.cyc_tree.specs.Tree as tree
use Rattle.cyc_tree.specs.Tree.{Expression, NoExpressions, MoreExpressions, NoLinks, MoreLinks, One, Initializer, Statement, NoItems, Declare, Execute}
use Rattle.source_meaning.proofs.Trees.{pointer}
use Rattle.source_typing.specs.Faults.{fault, region_rule}
use Rattle.source_typing.specs.Programs.{typing_fault}
use Rattle.source_typing.proofs.samples.SampleTrees.{name_at, region_at, type_at, int_at, number, variable_at, returns, member, structure, routine, main_at}
use Rattle.source_typing.proofs.samples.SampleTrees.{main_returns}

-- int f(int *p; {}) { return *p; } int main() { return 0; }
region_1 : typing_fault false
    ((tree.FunctionItem (routine (int_at 0) (name_at 4 "f") ((member (type_at 6 tree.Int ((pointer (sign.Nullable 1) None) ∷ [])) (name_at 11 "p"))
    ∷ []) (Some [])
    [] (Execute (returns 20 (Expression.Prefixed 27 Dereference (variable_at 28 "p"))) NoItems) 31)) ∷ (main_returns 33) ∷ [])
    ≡ Some (fault region_rule 27)
region_1 = refl

-- int main() { region<`r> h; region<`r> k; return 0; }
region_2 : typing_fault false
    ((main_at 0 (Declare (tree.Region 13 (region_at 20 "r") (name_at 24 "h")) (Declare (tree.Region 27 (region_at 34 "r") (name_at 38 "k")) (Execute (returns
    41 (number 48 0)) NoItems))) 51) ∷ [])
    ≡ Some (fault region_rule 34)
region_2 = refl

-- int main() { int *`r p; return 0; }
region_3 : typing_fault false
    ((main_at 0 (Declare (tree.Local (type_at 13 tree.Int ((pointer (sign.Nullable 1) (Some (region_at 18 "r"))) ∷ [])) (name_at 21 "p") Initializer.Unset)
    (Execute (returns 24 (number 31 0)) NoItems)) 34) ∷ [])
    ≡ Some (fault region_rule 18)
region_3 = refl

-- int main() { int x; int *`U p = &x; return 0; }
region_4 : typing_fault false
    ((main_at 0 (Declare (tree.Local (int_at 13) (name_at 17 "x") Initializer.Unset) (Declare (tree.Local (type_at 20 tree.Int ((pointer (sign.Nullable 1) (Some
    (tree.Unique 25))) ∷ [])) (name_at 28 "p") (Initializer.Value (Expression.Prefixed 32 AddressOf (variable_at 33 "x")))) (Execute (returns 36 (number 43
    0)) NoItems))) 46) ∷ [])
    ≡ Some (fault region_rule 32)
region_4 = refl

-- int *`r f(int *`r p) { return p; } int main() { rnew(unique_region) f(NULL); return 0; }
region_5 : typing_fault false
    ((tree.FunctionItem (routine (type_at 0 tree.Int ((pointer (sign.Nullable 1) (Some (region_at 5 "r"))) ∷ [])) (name_at 8 "f") ((member (type_at 10 tree.Int
    ((pointer (sign.Nullable 1) (Some (region_at 15 "r"))) ∷ [])) (name_at 18 "p")) ∷ []) None [] (Execute (returns 23 (variable_at 30 "p")) NoItems) 33)) ∷
    (main_at 35 (Execute (Statement.Run (Expression.NewIn 48 (Expression.UniqueRegion 53) (One (Expression.Call (name_at 68 "f") (MoreExpressions
    (Expression.Null 70) NoExpressions))))) (Execute (returns 77 (number 84 0)) NoItems)) 87) ∷ [])
    ≡ Some (fault region_rule 68)
region_5 = refl

-- int *`r f(int *`r p) { return p; } int main() { int *`U p = NULL; f(p); return 0; }
region_6 : typing_fault false
    ((tree.FunctionItem (routine (type_at 0 tree.Int ((pointer (sign.Nullable 1) (Some (region_at 5 "r"))) ∷ [])) (name_at 8 "f") ((member (type_at 10 tree.Int
    ((pointer (sign.Nullable 1) (Some (region_at 15 "r"))) ∷ [])) (name_at 18 "p")) ∷ []) None [] (Execute (returns 23 (variable_at 30 "p")) NoItems) 33)) ∷
    (main_at 35 (Declare (tree.Local (type_at 48 tree.Int ((pointer (sign.Nullable 1) (Some (tree.Unique 53))) ∷ [])) (name_at 56 "p") (Initializer.Value
    (Expression.Null 60))) (Execute (Statement.Run (Expression.Call (name_at 66 "f") (MoreExpressions (variable_at 68 "p") NoExpressions))) (Execute (returns
    72 (number 79 0)) NoItems))) 82) ∷ [])
    ≡ Some (fault region_rule 68)
region_6 = refl

-- struct S<`r> { int *`r p; }; int main() { struct S<`H,`H> s; return 0; }
region_7 : typing_fault false
    ((tree.StructItem (structure 0 (name_at 7 "S") ((region_at 9 "r") ∷ [])
    ((member (type_at 15 tree.Int ((pointer (sign.Nullable 1) (Some (region_at 20 "r"))) ∷
    [])) (name_at 23 "p")) ∷ []))) ∷ (main_at 29 (Declare (tree.Local (type_at 42 (tree.Struct (name_at 49 "S") ((tree.Heap 51) ∷ (tree.Heap 54) ∷ [])) [])
    (name_at 58 "s") Initializer.Unset) (Execute (returns 61 (number 68 0)) NoItems)) 71) ∷ [])
    ≡ Some (fault region_rule 42)
region_7 = refl

-- int main() { let NewDynamicRegion{<`r> k} = new_ukey(); int *`r p = NULL; *p = 2; return 0; }
region_8 : typing_fault false
    ((main_at 0 (Declare (tree.NewKey 13 (region_at 35 "r") (name_at 39 "k")) (Declare (tree.Local (type_at 56 tree.Int ((pointer (sign.Nullable 1) (Some
    (region_at 61 "r"))) ∷ [])) (name_at 64 "p") (Initializer.Value (Expression.Null 68))) (Execute (Statement.Run (Expression.Assign (Expression.Prefixed 74
    Dereference (variable_at 75 "p")) (number 79 2))) (Execute (returns 82 (number 89 0)) NoItems)))) 92) ∷ [])
    ≡ Some (fault region_rule 74)
region_8 = refl

-- int f(uregion_key_t<`r> k, int *`r p) { return *p; } int main() { return 0; }
region_9 : typing_fault false
    ((tree.FunctionItem (routine (int_at 0) (name_at 4 "f") ((member (type_at 6 (tree.Key (region_at 20 "r")) []) (name_at 24 "k")) ∷ (member (type_at 27
    tree.Int ((pointer (sign.Nullable 1) (Some (region_at 32 "r"))) ∷ [])) (name_at 35 "p")) ∷ []) None [] (Execute (returns 40 (Expression.Prefixed 47
    Dereference (variable_at 48 "p"))) NoItems) 51)) ∷ (main_returns 53) ∷ [])
    ≡ Some (fault region_rule 47)
region_9 = refl

-- int main() { int *`U p = rnew(unique_region) 3; { let alias<`a> int *q = p; } return 0; }
region_10 : typing_fault false
    ((main_at 0 (Declare (tree.Local (type_at 13 tree.Int ((pointer (sign.Nullable 1) (Some (tree.Unique 18))) ∷ [])) (name_at 21 "p") (Initializer.Value
    (Expression.NewIn 25 (Expression.UniqueRegion 30) (One (number 45 3))))) (Execute (Statement.Block 48 (Declare (tree.Alias 50 (region_at 60 "a") (type_at
    64 tree.Int ((pointer (sign.Nullable 1) None) ∷ [])) (name_at 69 "q") (name_at 73 "p")) NoItems)) (Execute (returns 78 (number 85 0)) NoItems))) 88) ∷ [])
    ≡ Some (fault region_rule 64)
region_10 = refl

-- struct P { int x; }; int f(struct P *`b p; {}) { int x = *p; return 0; } int main() { return 0; }
region_11 : typing_fault false
    ((tree.StructItem (structure 0 (name_at 7 "P") [] ((member (int_at 11) (name_at 15 "x")) ∷ []))) ∷ (tree.FunctionItem (routine (int_at 21) (name_at 25 "f")
    ((member (type_at 27 (tree.Struct (name_at 34 "P") []) ((pointer (sign.Nullable 1) (Some (region_at 37 "b"))) ∷ [])) (name_at 40 "p")) ∷ []) (Some []) []
    (Declare (tree.Local (int_at 49) (name_at 53 "x") (Initializer.Value (Expression.Prefixed 57 Dereference (variable_at 58 "p")))) (Execute (returns 61
    (number 68 0)) NoItems)) 71)) ∷ (main_returns 73) ∷ [])
    ≡ Some (fault region_rule 57)
region_11 = refl

-- int f(int *`r p; {}) { return 0; } int g(int *`r p; {}) { return f(p) + *p; } int main() { return 0; }
region_12 : typing_fault false
    ((tree.FunctionItem (routine (int_at 0) (name_at 4 "f")
    ((member (type_at 6 tree.Int ((pointer (sign.Nullable 1) (Some (region_at 11 "r"))) ∷ [])) (name_at 14
    "p")) ∷ []) (Some []) [] (Execute (returns 23 (number 30 0)) NoItems) 33)) ∷ (tree.FunctionItem (routine (int_at 35) (name_at 39 "g") ((member (type_at 41
    tree.Int ((pointer (sign.Nullable 1) (Some (region_at 46 "r"))) ∷ [])) (name_at 49 "p")) ∷ []) (Some []) [] (Execute (Statement.Return 58 (Some
    (Expression.Chain (Expression.Call (name_at 65 "f") (MoreExpressions (variable_at 67 "p") NoExpressions)) (MoreLinks Add (Expression.Prefixed 72
    Dereference (variable_at 73 "p")) NoLinks)))) NoItems) 76)) ∷ (main_returns 78) ∷ [])
    ≡ Some (fault region_rule 72)
region_12 = refl
