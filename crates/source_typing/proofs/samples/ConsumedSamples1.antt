-- Locals that are needed after they were moved or freed, and ways that meet.
use Rattle.std.proofs.Common.{◌≡◌, refl, Some, None, [], ◌∷◌}
use Rattle.cyc_tree.specs.declared.expression.Operator.TheVariants.{Equal, Add, Subtract}
use Rattle.cyc_tree.specs.declared.expression.Prefix.TheVariants.{Dereference}
use Rattle.cyc_tree.specs.declared.name.Sign.TheVariants as sign
use Rattle.cyc_tree.specs.Tree as tree
use Rattle.cyc_tree.specs.Tree.{Expression, NoExpressions, MoreExpressions, NoLinks, MoreLinks, NoSuffixes, Index, Dot, Arrow, One, Array, Initializer, Case}
use Rattle.cyc_tree.specs.Tree.{Statement, NoItems, Declare, Execute, NoClauses, MoreClauses}
use Rattle.source_meaning.proofs.Trees.{pointer}
use Rattle.source_typing.specs.Faults.{fault, consumed_rule}
use Rattle.source_typing.specs.Answers.{first_fault}
use Rattle.source_typing.proofs.samples.SampleTrees.{name_at, region_at, type_at, int_at, number, variable_at, returns, member, structure, routine, main_at}
use Rattle.source_typing.proofs.samples.SampleTrees.{main_returns}

-- the value goes before its place
-- struct S { int f; }; int g(struct S *`U p) { ufree(p); return 1; } int main() { struct S *`U p = rnew(unique_region) S(0); p->f = g(p); return 0; }
consumed_flow_1 : first_fault
    ((tree.StructItem (structure 0 (name_at 7 "S") [] ((member (int_at 11) (name_at 15 "f")) ∷ []))) ∷ (tree.FunctionItem (routine (int_at 21) (name_at 25 "g")
    ((member (type_at 27 (tree.Struct (name_at 34 "S") []) ((pointer (sign.Nullable 1) (Some (tree.Unique 37))) ∷ [])) (name_at 40 "p")) ∷ []) None [] (Execute
    (Statement.FreeUnique 45 (name_at 51 "p")) (Execute (returns 55 (number 62 1)) NoItems)) 65)) ∷ (main_at 67 (Declare (tree.Local (type_at 80 (tree.Struct
    (name_at 87 "S") []) ((pointer (sign.Nullable 1) (Some (tree.Unique 90))) ∷ [])) (name_at 93 "p") (Initializer.Value (Expression.NewIn 97
    (Expression.UniqueRegion 102) (One (Expression.Call (name_at 117 "S") (MoreExpressions (number 119 0) NoExpressions)))))) (Execute (Statement.Run
    (Expression.Assign (Expression.Suffixed (variable_at 123 "p") (Arrow (name_at 126 "f") NoSuffixes)) (Expression.Call (name_at 130 "g") (MoreExpressions
    (variable_at 132 "p") NoExpressions)))) (Execute (returns 136 (number 143 0)) NoItems))) 146) ∷ [])
    ≡ Some (fault consumed_rule 123)
consumed_flow_1 = refl

-- int main() { int *`U p = NULL; int *`U q = p; if (p == NULL) return 1; return 0; }
consumed_flow_2 : first_fault
    ((main_at 0 (Declare (tree.Local (type_at 13 tree.Int ((pointer (sign.Nullable 1) (Some (tree.Unique 18))) ∷ [])) (name_at 21 "p") (Initializer.Value
    (Expression.Null 25))) (Declare (tree.Local (type_at 31 tree.Int ((pointer (sign.Nullable 1) (Some (tree.Unique 36))) ∷ [])) (name_at 39 "q")
    (Initializer.Value (variable_at 43 "p"))) (Execute (Statement.If 46 (Expression.Chain (variable_at 50 "p") (MoreLinks Equal (Expression.Null 55) NoLinks))
    (returns 61 (number 68 1))) (Execute (returns 71 (number 78 0)) NoItems)))) 81) ∷ [])
    ≡ Some (fault consumed_rule 50)
consumed_flow_2 = refl

-- int main() { int *`U p = NULL; int *`U q = p; int *`U r = p; return 0; }
consumed_flow_3 : first_fault
    ((main_at 0 (Declare (tree.Local (type_at 13 tree.Int ((pointer (sign.Nullable 1) (Some (tree.Unique 18))) ∷ [])) (name_at 21 "p") (Initializer.Value
    (Expression.Null 25))) (Declare (tree.Local (type_at 31 tree.Int ((pointer (sign.Nullable 1) (Some (tree.Unique 36))) ∷ [])) (name_at 39 "q")
    (Initializer.Value (variable_at 43 "p"))) (Declare (tree.Local (type_at 46 tree.Int ((pointer (sign.Nullable 1) (Some (tree.Unique 51))) ∷ [])) (name_at 54
    "r") (Initializer.Value (variable_at 58 "p"))) (Execute (returns 61 (number 68 0)) NoItems)))) 71) ∷ [])
    ≡ Some (fault consumed_rule 58)
consumed_flow_3 = refl

-- int main() { int @`U p = rnew(unique_region) 1; ufree(p); return *p; }
consumed_flow_4 : first_fault
    ((main_at 0 (Declare (tree.Local (type_at 13 tree.Int ((pointer (sign.NotNull 1) (Some (tree.Unique 18))) ∷ [])) (name_at 21 "p") (Initializer.Value
    (Expression.NewIn 25 (Expression.UniqueRegion 30) (One (number 45 1))))) (Execute (Statement.FreeUnique 48 (name_at 54 "p")) (Execute (returns 58
    (Expression.Prefixed 65 Dereference (variable_at 66 "p"))) NoItems))) 69) ∷ [])
    ≡ Some (fault consumed_rule 66)
consumed_flow_4 = refl

-- where ways meet, a local is held only if it is so on each
-- int f(int c, int *`U p) { if (c) ufree(p); if (p == NULL) return 1; return 0; } int main() { return 0; }
consumed_flow_5 : first_fault
    ((tree.FunctionItem (routine (int_at 0) (name_at 4 "f")
    ((member (int_at 6) (name_at 10 "c")) ∷ (member (type_at 13 tree.Int ((pointer (sign.Nullable 1) (Some
    (tree.Unique 18))) ∷ [])) (name_at 21 "p")) ∷ []) None [] (Execute (Statement.If 26 (variable_at 30 "c") (Statement.FreeUnique 33 (name_at 39 "p")))
    (Execute (Statement.If 43 (Expression.Chain (variable_at 47 "p") (MoreLinks Equal (Expression.Null 52) NoLinks)) (returns 58 (number 65 1))) (Execute
    (returns 68 (number 75 0)) NoItems))) 78)) ∷ (main_returns 80) ∷ [])
    ≡ Some (fault consumed_rule 47)
consumed_flow_5 = refl

-- int f(int c, int *`U p) { if (c) ; else ufree(p); ufree(p); return 0; } int main() { return 0; }
consumed_flow_6 : first_fault
    ((tree.FunctionItem (routine (int_at 0) (name_at 4 "f")
    ((member (int_at 6) (name_at 10 "c")) ∷ (member (type_at 13 tree.Int ((pointer (sign.Nullable 1) (Some
    (tree.Unique 18))) ∷ [])) (name_at 21 "p")) ∷ []) None [] (Execute (Statement.IfElse 26 (variable_at 30 "c") (Statement.Empty 33) (Statement.FreeUnique 40
    (name_at 46 "p"))) (Execute (Statement.FreeUnique 50 (name_at 56 "p")) (Execute (returns 60 (number 67 0)) NoItems))) 70)) ∷ (main_returns 72) ∷ [])
    ≡ Some (fault consumed_rule 56)
consumed_flow_6 = refl

-- int f(int c, int *`U p) { if (c) { ufree(p); p = NULL; } ufree(p); return 0; } int main() { return 0; }
consumed_flow_7 : first_fault
    ((tree.FunctionItem (routine (int_at 0) (name_at 4 "f")
    ((member (int_at 6) (name_at 10 "c")) ∷ (member (type_at 13 tree.Int ((pointer (sign.Nullable 1) (Some
    (tree.Unique 18))) ∷ [])) (name_at 21 "p")) ∷ []) None [] (Execute (Statement.If 26 (variable_at 30 "c") (Statement.Block 33 (Execute
    (Statement.FreeUnique 35 (name_at 41 "p")) (Execute (Statement.Run (Expression.Assign (variable_at 45 "p") (Expression.Null 49))) NoItems)))) (Execute
    (Statement.FreeUnique 57 (name_at 63 "p")) (Execute (returns 67 (number 74 0)) NoItems))) 77)) ∷ (main_returns 79) ∷ [])
    ≡ None
consumed_flow_7 = refl

-- a way that is not reachable does not count
-- int f(int c, int *`U p) { if (c) { ufree(p); return 1; } ufree(p); return 0; } int main() { return 0; }
consumed_flow_8 : first_fault
    ((tree.FunctionItem (routine (int_at 0) (name_at 4 "f")
    ((member (int_at 6) (name_at 10 "c")) ∷ (member (type_at 13 tree.Int ((pointer (sign.Nullable 1) (Some
    (tree.Unique 18))) ∷ [])) (name_at 21 "p")) ∷ []) None [] (Execute (Statement.If 26 (variable_at 30 "c") (Statement.Block 33 (Execute
    (Statement.FreeUnique 35 (name_at 41 "p")) (Execute (returns 45 (number 52 1)) NoItems)))) (Execute (Statement.FreeUnique 57 (name_at 63 "p")) (Execute
    (returns 67 (number 74 0)) NoItems))) 77)) ∷ (main_returns 79) ∷ [])
    ≡ None
consumed_flow_8 = refl

-- a loop begins in a state that each turn keeps
-- int f(int n, int *`U p) { while (n) { ufree(p); n = n - 1; } return 0; } int main() { return 0; }
consumed_flow_9 : first_fault
    ((tree.FunctionItem (routine (int_at 0) (name_at 4 "f")
    ((member (int_at 6) (name_at 10 "n")) ∷ (member (type_at 13 tree.Int ((pointer (sign.Nullable 1) (Some
    (tree.Unique 18))) ∷ [])) (name_at 21 "p")) ∷ []) None [] (Execute (Statement.While 26 (variable_at 33 "n") (Statement.Block 36 (Execute
    (Statement.FreeUnique 38 (name_at 44 "p")) (Execute (Statement.Run (Expression.Assign (variable_at 48 "n") (Expression.Chain (variable_at 52 "n")
    (MoreLinks Subtract (number 56 1) NoLinks)))) NoItems)))) (Execute (returns 61 (number 68 0)) NoItems)) 71)) ∷ (main_returns 73) ∷ [])
    ≡ Some (fault consumed_rule 44)
consumed_flow_9 = refl

-- int f(int n, int *`U p) { while (n) { ufree(p); p = NULL; n = n - 1; } return 0; } int main() { return 0; }
consumed_flow_10 : first_fault
    ((tree.FunctionItem (routine (int_at 0) (name_at 4 "f")
    ((member (int_at 6) (name_at 10 "n")) ∷ (member (type_at 13 tree.Int ((pointer (sign.Nullable 1) (Some
    (tree.Unique 18))) ∷ [])) (name_at 21 "p")) ∷ []) None [] (Execute (Statement.While 26 (variable_at 33 "n") (Statement.Block 36 (Execute
    (Statement.FreeUnique 38 (name_at 44 "p")) (Execute (Statement.Run (Expression.Assign (variable_at 48 "p") (Expression.Null 52))) (Execute (Statement.Run
    (Expression.Assign (variable_at 58 "n") (Expression.Chain (variable_at 62 "n") (MoreLinks Subtract (number 66 1) NoLinks)))) NoItems))))) (Execute
    (returns 71 (number 78 0)) NoItems)) 81)) ∷ (main_returns 83) ∷ [])
    ≡ None
consumed_flow_10 = refl

-- int f(int n, int *`U p) { while (n) { ufree(p); break; } return 0; } int main() { return 0; }
consumed_flow_11 : first_fault
    ((tree.FunctionItem (routine (int_at 0) (name_at 4 "f")
    ((member (int_at 6) (name_at 10 "n")) ∷ (member (type_at 13 tree.Int ((pointer (sign.Nullable 1) (Some
    (tree.Unique 18))) ∷ [])) (name_at 21 "p")) ∷ []) None [] (Execute (Statement.While 26 (variable_at 33 "n") (Statement.Block 36 (Execute
    (Statement.FreeUnique 38 (name_at 44 "p")) (Execute (Statement.Break 48) NoItems)))) (Execute (returns 57 (number 64 0)) NoItems)) 67)) ∷ (main_returns
    69) ∷ [])
    ≡ None
consumed_flow_11 = refl

-- int f(int n, int *`U p) { while (n) { ufree(p); break; } ufree(p); return 0; } int main() { return 0; }
consumed_flow_12 : first_fault
    ((tree.FunctionItem (routine (int_at 0) (name_at 4 "f")
    ((member (int_at 6) (name_at 10 "n")) ∷ (member (type_at 13 tree.Int ((pointer (sign.Nullable 1) (Some
    (tree.Unique 18))) ∷ [])) (name_at 21 "p")) ∷ []) None [] (Execute (Statement.While 26 (variable_at 33 "n") (Statement.Block 36 (Execute
    (Statement.FreeUnique 38 (name_at 44 "p")) (Execute (Statement.Break 48) NoItems)))) (Execute (Statement.FreeUnique 57 (name_at 63 "p")) (Execute (returns
    67 (number 74 0)) NoItems))) 77)) ∷ (main_returns 79) ∷ [])
    ≡ Some (fault consumed_rule 63)
consumed_flow_12 = refl

-- int f(int n, int *`U p) { while (n) { n = n - 1; if (n) { ufree(p); continue; } } return 0; } int main() { return 0; }
consumed_flow_13 : first_fault
    ((tree.FunctionItem (routine (int_at 0) (name_at 4 "f")
    ((member (int_at 6) (name_at 10 "n")) ∷ (member (type_at 13 tree.Int ((pointer (sign.Nullable 1) (Some
    (tree.Unique 18))) ∷ [])) (name_at 21 "p")) ∷ []) None [] (Execute (Statement.While 26 (variable_at 33 "n") (Statement.Block 36 (Execute (Statement.Run
    (Expression.Assign (variable_at 38 "n") (Expression.Chain (variable_at 42 "n") (MoreLinks Subtract (number 46 1) NoLinks)))) (Execute (Statement.If 49
    (variable_at 53 "n") (Statement.Block 56 (Execute (Statement.FreeUnique 58 (name_at 64 "p")) (Execute (Statement.Continue 68) NoItems)))) NoItems))))
    (Execute (returns 82 (number 89 0)) NoItems)) 92)) ∷ (main_returns 94) ∷ [])
    ≡ Some (fault consumed_rule 64)
consumed_flow_13 = refl

-- int f(int n, int *`U p, int *`U q) { while (n) { ufree(q); q = p; p = NULL; ufree(q); } return 0; } int main() { return 0; }
consumed_flow_14 : first_fault
    ((tree.FunctionItem (routine (int_at 0) (name_at 4 "f")
    ((member (int_at 6) (name_at 10 "n")) ∷ (member (type_at 13 tree.Int ((pointer (sign.Nullable 1) (Some
    (tree.Unique 18))) ∷ [])) (name_at 21 "p"))
    ∷ (member (type_at 24 tree.Int ((pointer (sign.Nullable 1) (Some (tree.Unique 29))) ∷ [])) (name_at 32 "q")) ∷ [])
    None [] (Execute (Statement.While 37 (variable_at 44 "n") (Statement.Block 47 (Execute (Statement.FreeUnique 49 (name_at 55 "q")) (Execute (Statement.Run
    (Expression.Assign (variable_at 59 "q") (variable_at 63 "p"))) (Execute (Statement.Run (Expression.Assign (variable_at 66 "p") (Expression.Null 70)))
    (Execute (Statement.FreeUnique 76 (name_at 82 "q")) NoItems)))))) (Execute (returns 88 (number 95 0)) NoItems)) 98)) ∷ (main_returns 100) ∷ [])
    ≡ Some (fault consumed_rule 55)
consumed_flow_14 = refl

-- a condition is tested again
-- int g(int *`U p) { ufree(p); return 1; } int f(int *`U p) { while (g(p)) ; return 0; } int main() { return 0; }
consumed_flow_15 : first_fault
    ((tree.FunctionItem (routine (int_at 0) (name_at 4 "g") ((member (type_at 6 tree.Int ((pointer (sign.Nullable 1) (Some (tree.Unique 11))) ∷ [])) (name_at 14
    "p")) ∷ []) None [] (Execute (Statement.FreeUnique 19 (name_at 25 "p")) (Execute (returns 29 (number 36 1)) NoItems)) 39)) ∷ (tree.FunctionItem (routine
    (int_at 41) (name_at 45 "f") ((member (type_at 47 tree.Int ((pointer (sign.Nullable 1) (Some (tree.Unique 52))) ∷ [])) (name_at 55 "p")) ∷ []) None []
    (Execute (Statement.While 60 (Expression.Call (name_at 67 "g") (MoreExpressions (variable_at 69 "p") NoExpressions)) (Statement.Empty 73)) (Execute
    (returns 75 (number 82 0)) NoItems)) 85)) ∷ (main_returns 87) ∷ [])
    ≡ Some (fault consumed_rule 69)
consumed_flow_15 = refl

-- int main() { let NewDynamicRegion{<`r> k} = new_ukey(); free_ukey(k); free_ukey(k); return 0; }
consumed_flow_16 : first_fault
    ((main_at 0 (Declare (tree.NewKey 13 (region_at 35 "r") (name_at 39 "k")) (Execute (Statement.FreeKey 56 (name_at 66 "k")) (Execute (Statement.FreeKey 70
    (name_at 80 "k")) (Execute (returns 84 (number 91 0)) NoItems)))) 94) ∷ [])
    ≡ Some (fault consumed_rule 80)
consumed_flow_16 = refl

-- void f(uregion_key_t<`r> k) { free_ukey(k); } int main() { let NewDynamicRegion{<`r> k} = new_ukey(); f(k); f(k); return 0; }
consumed_flow_17 : first_fault
    ((tree.FunctionItem (routine (type_at 0 tree.Void []) (name_at 5 "f") ((member (type_at 7 (tree.Key (region_at 21 "r")) []) (name_at 25 "k")) ∷ []) None []
    (Execute (Statement.FreeKey 30 (name_at 40 "k")) NoItems) 44)) ∷ (main_at 46 (Declare (tree.NewKey 59 (region_at 81 "r") (name_at 85 "k")) (Execute
    (Statement.Run (Expression.Call (name_at 102 "f") (MoreExpressions (variable_at 104 "k") NoExpressions))) (Execute (Statement.Run (Expression.Call
    (name_at 108 "f") (MoreExpressions (variable_at 110 "k") NoExpressions))) (Execute (returns 114 (number 121 0)) NoItems)))) 124) ∷ [])
    ≡ Some (fault consumed_rule 110)
consumed_flow_17 = refl

-- int main() { let NewDynamicRegion{<`r> k} = new_ukey(); free_ukey(k); { region<`r> h = open(k); } return 0; }
consumed_flow_18 : first_fault
    ((main_at 0 (Declare (tree.NewKey 13 (region_at 35 "r") (name_at 39 "k")) (Execute (Statement.FreeKey 56 (name_at 66 "k")) (Execute (Statement.Block 70
    (Declare (tree.Open 72 (region_at 79 "r") (name_at 83 "h") (name_at 92 "k")) NoItems)) (Execute (returns 98 (number 105 0)) NoItems)))) 108) ∷ [])
    ≡ Some (fault consumed_rule 92)
consumed_flow_18 = refl

-- struct B { int *`U p; int x; }; int main() { struct B b = B(NULL, 1); struct B c = b; b.p = NULL; return 0; }
consumed_flow_19 : first_fault
    ((tree.StructItem (structure 0 (name_at 7 "B") []
    ((member (type_at 11 tree.Int ((pointer (sign.Nullable 1) (Some (tree.Unique 16))) ∷ [])) (name_at 19 "p")) ∷
    (member (int_at 22) (name_at 26 "x")) ∷ []))) ∷ (main_at 32 (Declare (tree.Local (type_at 45 (tree.Struct (name_at 52 "B") []) []) (name_at 54 "b")
    (Initializer.Value (Expression.Call (name_at 58 "B") (MoreExpressions (Expression.Null 60) (MoreExpressions (number 66 1) NoExpressions))))) (Declare
    (tree.Local (type_at 70 (tree.Struct (name_at 77 "B") []) []) (name_at 79 "c") (Initializer.Value (variable_at 83 "b"))) (Execute (Statement.Run
    (Expression.Assign (Expression.Suffixed (variable_at 86 "b") (Dot (name_at 88 "p") NoSuffixes)) (Expression.Null 92))) (Execute (returns 98 (number 105
    0)) NoItems)))) 108) ∷ [])
    ≡ Some (fault consumed_rule 86)
consumed_flow_19 = refl

-- struct B { int *`U p; int x; }; int main() { struct B b = B(NULL, 1); struct B c = b; c.x = b.x; return 0; }
consumed_flow_20 : first_fault
    ((tree.StructItem (structure 0 (name_at 7 "B") []
    ((member (type_at 11 tree.Int ((pointer (sign.Nullable 1) (Some (tree.Unique 16))) ∷ [])) (name_at 19 "p")) ∷
    (member (int_at 22) (name_at 26 "x")) ∷ []))) ∷ (main_at 32 (Declare (tree.Local (type_at 45 (tree.Struct (name_at 52 "B") []) []) (name_at 54 "b")
    (Initializer.Value (Expression.Call (name_at 58 "B") (MoreExpressions (Expression.Null 60) (MoreExpressions (number 66 1) NoExpressions))))) (Declare
    (tree.Local (type_at 70 (tree.Struct (name_at 77 "B") []) []) (name_at 79 "c") (Initializer.Value (variable_at 83 "b"))) (Execute (Statement.Run
    (Expression.Assign (Expression.Suffixed (variable_at 86 "c") (Dot (name_at 88 "x") NoSuffixes)) (Expression.Suffixed (variable_at 92 "b") (Dot (name_at 94
    "x") NoSuffixes)))) (Execute (returns 97 (number 104 0)) NoItems)))) 107) ∷ [])
    ≡ Some (fault consumed_rule 92)
consumed_flow_20 = refl

-- struct B { int *`U p; int x; }; int main() { struct B b = B(NULL, 1); struct B c = b; struct B d = b; return 0; }
consumed_flow_21 : first_fault
    ((tree.StructItem (structure 0 (name_at 7 "B") []
    ((member (type_at 11 tree.Int ((pointer (sign.Nullable 1) (Some (tree.Unique 16))) ∷ [])) (name_at 19 "p")) ∷
    (member (int_at 22) (name_at 26 "x")) ∷ []))) ∷ (main_at 32 (Declare (tree.Local (type_at 45 (tree.Struct (name_at 52 "B") []) []) (name_at 54 "b")
    (Initializer.Value (Expression.Call (name_at 58 "B") (MoreExpressions (Expression.Null 60) (MoreExpressions (number 66 1) NoExpressions))))) (Declare
    (tree.Local (type_at 70 (tree.Struct (name_at 77 "B") []) []) (name_at 79 "c") (Initializer.Value (variable_at 83 "b"))) (Declare (tree.Local (type_at 86
    (tree.Struct (name_at 93 "B") []) []) (name_at 95 "d") (Initializer.Value (variable_at 99 "b"))) (Execute (returns 102 (number 109 0)) NoItems)))) 112) ∷
    [])
    ≡ Some (fault consumed_rule 99)
consumed_flow_21 = refl

-- struct B { int *`U p; int x; }; int main() { struct B b = B(NULL, 1); struct B c = b; b = B(NULL, 2); b.p = NULL; return 0; }
consumed_flow_22 : first_fault
    ((tree.StructItem (structure 0 (name_at 7 "B") []
    ((member (type_at 11 tree.Int ((pointer (sign.Nullable 1) (Some (tree.Unique 16))) ∷ [])) (name_at 19 "p")) ∷
    (member (int_at 22) (name_at 26 "x")) ∷ []))) ∷ (main_at 32 (Declare (tree.Local (type_at 45 (tree.Struct (name_at 52 "B") []) []) (name_at 54 "b")
    (Initializer.Value (Expression.Call (name_at 58 "B") (MoreExpressions (Expression.Null 60) (MoreExpressions (number 66 1) NoExpressions))))) (Declare
    (tree.Local (type_at 70 (tree.Struct (name_at 77 "B") []) []) (name_at 79 "c") (Initializer.Value (variable_at 83 "b"))) (Execute (Statement.Run
    (Expression.Assign (variable_at 86 "b") (Expression.Call (name_at 90 "B") (MoreExpressions (Expression.Null 92) (MoreExpressions (number 98 2)
    NoExpressions))))) (Execute (Statement.Run (Expression.Assign (Expression.Suffixed (variable_at 102 "b") (Dot (name_at 104 "p") NoSuffixes))
    (Expression.Null 108))) (Execute (returns 114 (number 121 0)) NoItems))))) 124) ∷ [])
    ≡ None
consumed_flow_22 = refl

-- an expression statement reads its value
-- int main() { int *`U p = NULL; p; ufree(p); return 0; }
consumed_flow_23 : first_fault
    ((main_at 0 (Declare (tree.Local (type_at 13 tree.Int ((pointer (sign.Nullable 1) (Some (tree.Unique 18))) ∷ [])) (name_at 21 "p") (Initializer.Value
    (Expression.Null 25))) (Execute (Statement.Run (variable_at 31 "p")) (Execute (Statement.FreeUnique 34 (name_at 40 "p")) (Execute (returns 44 (number 51
    0)) NoItems)))) 54) ∷ [])
    ≡ Some (fault consumed_rule 40)
consumed_flow_23 = refl

-- int main() { int *`U p = NULL; p = p; ufree(p); return 0; }
consumed_flow_24 : first_fault
    ((main_at 0 (Declare (tree.Local (type_at 13 tree.Int ((pointer (sign.Nullable 1) (Some (tree.Unique 18))) ∷ [])) (name_at 21 "p") (Initializer.Value
    (Expression.Null 25))) (Execute (Statement.Run (Expression.Assign (variable_at 31 "p") (variable_at 35 "p"))) (Execute (Statement.FreeUnique 38 (name_at
    44 "p")) (Execute (returns 48 (number 55 0)) NoItems)))) 58) ∷ [])
    ≡ None
consumed_flow_24 = refl

-- the second operand may be evaluated
-- int g(int *`U p) { ufree(p); return 1; } int f(int c, int *`U p) { if (c && g(p)) return 1; ufree(p); return 0; } int main() { return 0; }
consumed_flow_25 : first_fault
    ((tree.FunctionItem (routine (int_at 0) (name_at 4 "g") ((member (type_at 6 tree.Int ((pointer (sign.Nullable 1) (Some (tree.Unique 11))) ∷ [])) (name_at 14
    "p")) ∷ []) None [] (Execute (Statement.FreeUnique 19 (name_at 25 "p")) (Execute (returns 29 (number 36 1)) NoItems)) 39)) ∷ (tree.FunctionItem (routine
    (int_at 41) (name_at 45 "f") ((member (int_at 47) (name_at 51 "c"))
    ∷ (member (type_at 54 tree.Int ((pointer (sign.Nullable 1) (Some (tree.Unique 59))) ∷ []))
    (name_at 62 "p")) ∷ []) None [] (Execute (Statement.If 67 (Expression.AllOf (variable_at 71 "c") (MoreExpressions (Expression.Call (name_at 76 "g")
    (MoreExpressions (variable_at 78 "p") NoExpressions)) NoExpressions)) (returns 82 (number 89 1))) (Execute (Statement.FreeUnique 92 (name_at 98 "p"))
    (Execute (returns 102 (number 109 0)) NoItems))) 112)) ∷ (main_returns 114) ∷ [])
    ≡ Some (fault consumed_rule 98)
consumed_flow_25 = refl

-- int g(int *`U p) { ufree(p); return 1; } int f(int c, int *`U p) { if (g(p) || c) return 1; ufree(p); return 0; } int main() { return 0; }
consumed_flow_26 : first_fault
    ((tree.FunctionItem (routine (int_at 0) (name_at 4 "g") ((member (type_at 6 tree.Int ((pointer (sign.Nullable 1) (Some (tree.Unique 11))) ∷ [])) (name_at 14
    "p")) ∷ []) None [] (Execute (Statement.FreeUnique 19 (name_at 25 "p")) (Execute (returns 29 (number 36 1)) NoItems)) 39)) ∷ (tree.FunctionItem (routine
    (int_at 41) (name_at 45 "f") ((member (int_at 47) (name_at 51 "c"))
    ∷ (member (type_at 54 tree.Int ((pointer (sign.Nullable 1) (Some (tree.Unique 59))) ∷ []))
    (name_at 62 "p")) ∷ []) None [] (Execute (Statement.If 67 (Expression.AnyOf (Expression.Call (name_at 71 "g") (MoreExpressions (variable_at 73 "p")
    NoExpressions)) (MoreExpressions (variable_at 79 "c") NoExpressions)) (returns 82 (number 89 1))) (Execute (Statement.FreeUnique 92 (name_at 98 "p"))
    (Execute (returns 102 (number 109 0)) NoItems))) 112)) ∷ (main_returns 114) ∷ [])
    ≡ Some (fault consumed_rule 98)
consumed_flow_26 = refl

-- int g(int *`U p) { ufree(p); return 1; } int f(int *`U p) { return g(p) + g(p); } int main() { return 0; }
consumed_flow_27 : first_fault
    ((tree.FunctionItem (routine (int_at 0) (name_at 4 "g") ((member (type_at 6 tree.Int ((pointer (sign.Nullable 1) (Some (tree.Unique 11))) ∷ [])) (name_at 14
    "p")) ∷ []) None [] (Execute (Statement.FreeUnique 19 (name_at 25 "p")) (Execute (returns 29 (number 36 1)) NoItems)) 39)) ∷ (tree.FunctionItem (routine
    (int_at 41) (name_at 45 "f") ((member (type_at 47 tree.Int ((pointer (sign.Nullable 1) (Some (tree.Unique 52))) ∷ [])) (name_at 55 "p")) ∷ []) None []
    (Execute (Statement.Return 60 (Some (Expression.Chain (Expression.Call (name_at 67 "g") (MoreExpressions (variable_at 69 "p") NoExpressions)) (MoreLinks
    Add (Expression.Call (name_at 74 "g") (MoreExpressions (variable_at 76 "p") NoExpressions)) NoLinks)))) NoItems) 80)) ∷ (main_returns 82) ∷ [])
    ≡ Some (fault consumed_rule 76)
consumed_flow_27 = refl

-- a subscript goes before its array
-- struct A { int ?a; }; int g(struct A @`U p) { ufree(p); return 0; } int f(struct A @`U p) { return p->a[g(p)]; } int main() { return 0; }
consumed_flow_28 : first_fault
    ((tree.StructItem (structure 0 (name_at 7 "A") [] ((member (type_at 11 tree.Int ((pointer sign.Fat None) ∷ [])) (name_at 16 "a")) ∷ []))) ∷
    (tree.FunctionItem (routine (int_at 22) (name_at 26 "g")
    ((member (type_at 28 (tree.Struct (name_at 35 "A") []) ((pointer (sign.NotNull 1) (Some (tree.Unique
    38))) ∷ [])) (name_at 41 "p")) ∷ []) None [] (Execute (Statement.FreeUnique 46 (name_at 52 "p")) (Execute (returns 56 (number 63 0)) NoItems)) 66)) ∷
    (tree.FunctionItem (routine (int_at 68) (name_at 72 "f")
    ((member (type_at 74 (tree.Struct (name_at 81 "A") []) ((pointer (sign.NotNull 1) (Some (tree.Unique
    84))) ∷ [])) (name_at 87 "p")) ∷ []) None [] (Execute (Statement.Return 92 (Some (Expression.Suffixed (variable_at 99 "p") (Arrow (name_at 102 "a") (Index
    (Expression.Call (name_at 104 "g") (MoreExpressions (variable_at 106 "p") NoExpressions)) NoSuffixes))))) NoItems) 111)) ∷ (main_returns 113) ∷ [])
    ≡ Some (fault consumed_rule 99)
consumed_flow_28 = refl

-- int main() { int *`U p = NULL; int *`U q = NULL; p :=: q; ufree(p); ufree(q); return 0; }
consumed_flow_29 : first_fault
    ((main_at 0 (Declare (tree.Local (type_at 13 tree.Int ((pointer (sign.Nullable 1) (Some (tree.Unique 18))) ∷ [])) (name_at 21 "p") (Initializer.Value
    (Expression.Null 25))) (Declare (tree.Local (type_at 31 tree.Int ((pointer (sign.Nullable 1) (Some (tree.Unique 36))) ∷ [])) (name_at 39 "q")
    (Initializer.Value (Expression.Null 43))) (Execute (Statement.Exchange (variable_at 49 "p") (variable_at 55 "q")) (Execute (Statement.FreeUnique 58
    (name_at 64 "p")) (Execute (Statement.FreeUnique 68 (name_at 74 "q")) (Execute (returns 78 (number 85 0)) NoItems)))))) 88) ∷ [])
    ≡ None
consumed_flow_29 = refl

-- int main() { int *`U p = NULL; int *`U q = NULL; ufree(p); p :=: q; return 0; }
consumed_flow_30 : first_fault
    ((main_at 0 (Declare (tree.Local (type_at 13 tree.Int ((pointer (sign.Nullable 1) (Some (tree.Unique 18))) ∷ [])) (name_at 21 "p") (Initializer.Value
    (Expression.Null 25))) (Declare (tree.Local (type_at 31 tree.Int ((pointer (sign.Nullable 1) (Some (tree.Unique 36))) ∷ [])) (name_at 39 "q")
    (Initializer.Value (Expression.Null 43))) (Execute (Statement.FreeUnique 49 (name_at 55 "p")) (Execute (Statement.Exchange (variable_at 59 "p")
    (variable_at 65 "q")) (Execute (returns 68 (number 75 0)) NoItems))))) 78) ∷ [])
    ≡ Some (fault consumed_rule 59)
consumed_flow_30 = refl

-- the elements of an array are a loop
-- int g(int *`U p) { ufree(p); return 1; } int f(int *`U p) { int ?a = new {for i < 2 : g(p)}; return 0; } int main() { return 0; }
consumed_flow_31 : first_fault
    ((tree.FunctionItem (routine (int_at 0) (name_at 4 "g") ((member (type_at 6 tree.Int ((pointer (sign.Nullable 1) (Some (tree.Unique 11))) ∷ [])) (name_at 14
    "p")) ∷ []) None [] (Execute (Statement.FreeUnique 19 (name_at 25 "p")) (Execute (returns 29 (number 36 1)) NoItems)) 39)) ∷ (tree.FunctionItem (routine
    (int_at 41) (name_at 45 "f") ((member (type_at 47 tree.Int ((pointer (sign.Nullable 1) (Some (tree.Unique 52))) ∷ [])) (name_at 55 "p")) ∷ []) None []
    (Declare (tree.Local (type_at 60 tree.Int ((pointer sign.Fat None) ∷ [])) (name_at 65 "a") (Initializer.Value (Expression.New 69 (Array (name_at 78 "i")
    (number 82 2) (Expression.Call (name_at 86 "g") (MoreExpressions (variable_at 88 "p") NoExpressions)))))) (Execute (returns 93 (number 100 0)) NoItems))
    103)) ∷ (main_returns 105) ∷ [])
    ≡ Some (fault consumed_rule 88)
consumed_flow_31 = refl

-- @tagged union U { int a; char b; }; int f(int *`U p) { union U x = U.a(1); switch (x) { case {.a = v}: ufree(p); break; case {.b = c}: break; } ufree(p);
-- return 0; } int main() { return 0; }
consumed_flow_32 : first_fault
    ((tree.UnionItem (structure 0 (name_at 14 "U") [] ((member (int_at 18) (name_at 22 "a")) ∷ (member (type_at 25 tree.Char []) (name_at 30 "b")) ∷ []))) ∷
    (tree.FunctionItem (routine (int_at 36) (name_at 40 "f")
    ((member (type_at 42 tree.Int ((pointer (sign.Nullable 1) (Some (tree.Unique 47))) ∷ [])) (name_at 50
    "p")) ∷ []) None [] (Declare (tree.Local (type_at 55 (tree.Union (name_at 61 "U") []) []) (name_at 63 "x") (Initializer.Value (Expression.MakeUnion
    (name_at 67 "U") (name_at 69 "a") (number 71 1)))) (Execute (Statement.Switch 75 (variable_at 83 "x") (MoreClauses 88 (Case (name_at 95 "a") (name_at 99
    "v")) (Execute (Statement.FreeUnique 103 (name_at 109 "p")) (Execute (Statement.Break 113) NoItems)) (MoreClauses 120 (Case (name_at 127 "b") (name_at 131
    "c")) (Execute (Statement.Break 135) NoItems) NoClauses))) (Execute (Statement.FreeUnique 144 (name_at 150 "p")) (Execute (returns 154 (number 161 0))
    NoItems)))) 164)) ∷ (main_returns 166) ∷ [])
    ≡ Some (fault consumed_rule 150)
consumed_flow_32 = refl

-- @tagged union U { int a; char b; }; int f(int *`U p) { union U x = U.a(1); switch (x) { case {.a = v}: ufree(p); return 1; case {.b = c}: break; } ufree(p);
-- return 0; } int main() { return 0; }
consumed_flow_33 : first_fault
    ((tree.UnionItem (structure 0 (name_at 14 "U") [] ((member (int_at 18) (name_at 22 "a")) ∷ (member (type_at 25 tree.Char []) (name_at 30 "b")) ∷ []))) ∷
    (tree.FunctionItem (routine (int_at 36) (name_at 40 "f")
    ((member (type_at 42 tree.Int ((pointer (sign.Nullable 1) (Some (tree.Unique 47))) ∷ [])) (name_at 50
    "p")) ∷ []) None [] (Declare (tree.Local (type_at 55 (tree.Union (name_at 61 "U") []) []) (name_at 63 "x") (Initializer.Value (Expression.MakeUnion
    (name_at 67 "U") (name_at 69 "a") (number 71 1)))) (Execute (Statement.Switch 75 (variable_at 83 "x") (MoreClauses 88 (Case (name_at 95 "a") (name_at 99
    "v")) (Execute (Statement.FreeUnique 103 (name_at 109 "p")) (Execute (returns 113 (number 120 1)) NoItems)) (MoreClauses 123 (Case (name_at 130 "b")
    (name_at 134 "c")) (Execute (Statement.Break 138) NoItems) NoClauses))) (Execute (Statement.FreeUnique 147 (name_at 153 "p")) (Execute (returns 157
    (number 164 0)) NoItems)))) 167)) ∷ (main_returns 169) ∷ [])
    ≡ None
consumed_flow_33 = refl

-- what is not reachable is not checked
-- int f(int *`U p) { ufree(p); return 0; ufree(p); } int main() { return 0; }
consumed_flow_34 : first_fault
    ((tree.FunctionItem (routine (int_at 0) (name_at 4 "f") ((member (type_at 6 tree.Int ((pointer (sign.Nullable 1) (Some (tree.Unique 11))) ∷ [])) (name_at 14
    "p")) ∷ []) None [] (Execute (Statement.FreeUnique 19 (name_at 25 "p")) (Execute (returns 29 (number 36 0)) (Execute (Statement.FreeUnique 39 (name_at 45
    "p")) NoItems))) 49)) ∷ (main_returns 51) ∷ [])
    ≡ None
consumed_flow_34 = refl
